use Rattle.std.proofs.Common.{◌≡◌, map, take}
use Rattle.cfg_read.specs.SyntaxModels.{number_text}
use Rattle.cfg_read.specs.Validity.{number_spans}
use Rattle.cfg_read.proofs.yacc.validity.repeated.spans_of_numbers.Given as goal

abbrev pub invariant-numbers : goal.invariant-numbers
invariant-numbers l = l.spans.items ≡ number_spans (map number_text (take l.number-index l.numbers))
