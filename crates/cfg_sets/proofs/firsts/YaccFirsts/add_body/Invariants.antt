use Rattle.std.proofs.Common.{◌≡◌, length, take}
use Rattle.cfg_theory.specs.First.{AllOf}
use Rattle.cfg_numbered.specs.Symbols.{syms_of}
use Rattle.cfg_sets.specs.Firsts.{HasEpsilon, FirstsOf, Adds, first_room}
use Rattle.vob.specs.Passes.{PassStep, Anything}
use Rattle.cfg_sets.proofs.firsts.YaccFirsts.add_body.Given as goal

abbrev pub invariant-front : goal.invariant-front
invariant-front g l = record {
  width : length l.row.bits ≡ l.initial.self.tokens;
  prefix : AllOf (HasEpsilon l.initial.self) (take l.index (syms_of g.S.IndexStorage.number l.symbols));
  adds : Adds (g.S.IndexStorage.number l.fn.head.0) (FirstsOf l.initial.self (take l.index (syms_of g.S.IndexStorage.number l.symbols))) ⊥ l.initial.self l.self;
  steps : PassStep first_room Anything l.initial.self l.self l.changed;
}
