use Rattle.std.proofs.Common.{◌≡◌, ℕ, ◌↔◌, length, take}
use Rattle.std.specs.Prelude.{IsTrue}
use Rattle.cfg_theory.specs.First.{AllOf}
use Rattle.cfg_numbered.specs.Symbols.{syms_of}
use Rattle.vob.specs.Sets.{is_set}
use Rattle.cfg_sets.specs.Firsts.{HasEpsilon, FirstsOf}
use Rattle.cfg_sets.proofs.firsts.YaccFirsts.first_of.Given as goal

abbrev pub invariant-prefix : goal.invariant-prefix
invariant-prefix g l = record {
  width : length l.begins.bits ≡ l.self.tokens;
  all : AllOf (HasEpsilon l.self) (take l.index (syms_of g.S.IndexStorage.number l.symbols));
  first : (t : ℕ) → IsTrue (is_set l.begins.bits t) ↔ FirstsOf l.self (take l.index (syms_of g.S.IndexStorage.number l.symbols)) t;
}
