use Rattle.std.proofs.Common.{sym, ◌∙◌}
use Rattle.cfg_read.specs.Reading.{here, colon}
use Rattle.cfg_read.specs.SyntaxErrors.{no_colon}
use Rattle.cfg_read.proofs.Chains.{one, and_stops}
use Rattle.cfg_read.proofs.yacc.parser.scan.Scanner.parse_colon.Goals as goal

pub returns-in-Colon-clause-ok : goal.returns-in-Colon-clause-ok
returns-in-Colon-clause-ok c = λ r x. one (colon c.requires.kind (sym c.in-Colon.ensures.value))

pub returns-in_default-clause-err : goal.returns-in_default-clause-err
returns-in_default-clause-err c = λ r x. and_stops here (no_colon c.requires.kind (λ e. c.in_default.not-Colon (c.token_kind_at.ensures.value ∙ e)))
