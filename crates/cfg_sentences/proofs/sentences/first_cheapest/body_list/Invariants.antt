use Rattle.std.proofs.Common.{◌≡◌, ◌<◌, [], length, get_or, drop}
use Rattle.cfg_numbered.specs.Symbols.{syms_of}
use Rattle.cfg_sentences.proofs.EarliestSteps.{Rests}
use Rattle.cfg_sentences.proofs.sentences.first_cheapest.body_list.Given as goal

abbrev pub invariant-symbols : goal.invariant-symbols
invariant-symbols g l = record {
  table : l.shared.table ≡ l.initial.shared.table;
  within : l.list < length l.shared.lists;
  rests : Rests l.initial.shared.table (syms_of g.S.IndexStorage.number l.symbols) (drop l.index (syms_of g.S.IndexStorage.number l.symbols)) (get_or l.shared.lists l.list []);
}
