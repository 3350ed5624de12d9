use Rattle.std.proofs.Common.{◌≡◌, ◌≤◌, ◌++◌, drop, length}
use Rattle.cfg_read.specs.Names.{words_in, by_offset}
use Rattle.cfg_read.specs.SyntaxModels.{symbols_of}
use Rattle.cfg_read.specs.NameModels.{symbols_at}
use Rattle.cfg_read.proofs.yacc.names.by_offset.Given as goal

abbrev pub invariant-symbols : goal.invariant-symbols
invariant-symbols l = record {
  within : l.next ≤ length l.others;
  same : words_in (symbols_at l.found.items) ++ by_offset (drop l.symbol-index (words_in (symbols_of l.symbols))) (drop l.next (words_in (symbols_at l.others))) ≡ by_offset (words_in (symbols_of l.symbols)) (words_in (symbols_at l.others));
}
