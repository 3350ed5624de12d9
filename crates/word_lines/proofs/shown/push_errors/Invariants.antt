-- The texts of the errors so far are added.
use Rattle.std.proofs.Common.{◌≡◌, ◌++◌}
use Rattle.std.specs.List.{flat_map}
use Rattle.word_lines.specs.LineTexts.{error_line}
use Rattle.word_lines.proofs.shown.push_errors.Given as goal

abbrev pub invariant-errors : goal.invariant-errors
invariant-errors g l = l.text.items ≡ l.fn.text.items ++ flat_map (error_line g.S.IndexStorage.number l.grm l.lexer.text) l.yielded
