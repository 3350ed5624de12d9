use Rattle.std.proofs.Common.{subst}
use Rattle.cfg_read.specs.SyntaxModels.{syntax_of}
use Rattle.cfg_read.specs.ErrorModels.{failures_in}
use Rattle.cfg_read.specs.Files.{FailsRest, IsFailure, in_rest}
use Rattle.cfg_read.specs.ValidityInfo.{reads_as, has_errors}
use Rattle.cfg_read.proofs.HeadingWords.{headings_are_words}
use Rattle.cfg_read.proofs.yacc.validity_info.ASTWithValidityInfo.behind_section.Goals as goal

pub of_syntax-requires : goal.of_syntax-requires
of_syntax-requires c = headings_are_words c.args.yacc_kind c.args.text.now c.args.start (syntax_of c.in-Ok.x) c.in-Ok.ensures.ok

pub returns-in_ok-checked-in-Ok : goal.returns-in_ok-checked-in-Ok
returns-in_ok-checked-in-Ok c = λ pairs s.
    reads_as (syntax_of c.in-Ok.x) (record { pairs = pairs; end = c.args.start; section = s; rest = c.in-Ok.ensures.ok }) c.in_ok-checked-in-Ok.ensures

pub returns-in-Err-Invalid : goal.returns-in-Err-Invalid
returns-in-Err-Invalid c = λ pairs s.
    has_errors (failures_in c.in-Err-Invalid.errors.items) (in_rest pairs c.args.start s (subst (IsFailure (FailsRest c.args.yacc_kind c.args.text.now c.args.start)) c.in-Err-Invalid.field-0-is c.in-Err-Invalid.ensures.err)) c.of_errors.ensures
