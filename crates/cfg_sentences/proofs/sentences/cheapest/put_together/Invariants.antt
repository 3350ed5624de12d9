use Rattle.std.proofs.Common.{ℕ, ◌-◌, ◌↔◌, List, length, drop}
use Rattle.std.specs.Prelude.{Contains}
use Rattle.cfg_theory.specs.CostTables.{Concatenates}
use Rattle.cfg_numbered.specs.Symbols.{syms_of}
use Rattle.cfg_sentences.specs.TokenLists.{lists_of}
use Rattle.cfg_sentences.specs.CheapestTable.{lists_in}
use Rattle.cfg_sentences.proofs.sentences.cheapest.put_together.Given as goal

abbrev pub invariant-back : goal.invariant-back
invariant-back g l = (w : List ℕ) → Contains (lists_of g.S.IndexStorage.number l.out.items) w ↔ Concatenates (lists_in l.table) (drop (length l.symbols - l.index) (syms_of g.S.IndexStorage.number l.symbols)) w
