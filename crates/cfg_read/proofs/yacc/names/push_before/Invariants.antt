use Rattle.std.proofs.Common.{◌≡◌, ◌≤◌, ◌-◌, ◌++◌, List, drop, length}
use Rattle.cfg_read.specs.SyntaxTexts.{WordText}
use Rattle.cfg_read.specs.Names.{words_in, put_by_offset}
use Rattle.cfg_read.specs.NameModels.{symbols_at}
use Rattle.cfg_read.proofs.yacc.names.push_before.Given as goal

abbrev pub invariant-scan : goal.invariant-scan
invariant-scan l = record {
  within : l.at ≤ length l.symbols;
  same : (v : WordText) → (rest : List WordText → List WordText) → v.span.start ≡ l.offset →
      words_in (symbols_at l.found.items) ++ put_by_offset v rest (drop l.at (words_in (symbols_at l.symbols))) ≡ words_in (symbols_at l.fn.found.items) ++ put_by_offset v rest (drop l.next (words_in (symbols_at l.symbols)));
}

abbrev pub decreases-scan : goal.decreases-scan
decreases-scan l = length l.symbols - l.at
