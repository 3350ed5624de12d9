use Rattle.std.proofs.Common.{sym, ◌∙◌}
use Rattle.std.proofs.lemmas.Bool.{false≢true}
use Rattle.cfg_read.specs.Reading.{here, typed_colon}
use Rattle.cfg_read.specs.SyntaxErrors.{no_arrow, no_typed_colon}
use Rattle.cfg_read.proofs.Chains.{one, and_stops}
use Rattle.cfg_read.proofs.yacc.parser.scan.Scanner.parse_typed_colon.Goals as goal

pub returns-then-not-is_arrow-clause-err : goal.returns-then-not-is_arrow-clause-err
returns-then-not-is_arrow-clause-err c = λ r x. and_stops here (no_arrow c.requires.kind (λ e. absurd (false≢true (sym c.if-not-is_arrow.true ∙ c.is_arrow.ensures.arrow.1 e))))

pub returns-in_default-clause-err : goal.returns-in_default-clause-err
returns-in_default-clause-err c = λ r x. and_stops here (no_typed_colon c.requires.kind (c.is_arrow.ensures.arrow.0 c.if-not-is_arrow.false) (sym c.lone_colon.ensures.value ∙ c.in_default.is))

pub returns-clause-ok : goal.returns-clause-ok
returns-clause-ok c = λ r x. rw c.in_ok-word.ensures (one (typed_colon c.requires.kind (c.is_arrow.ensures.arrow.0 c.if-not-is_arrow.false) (sym c.lone_colon.ensures.value ∙ c.in-Some.is)))
