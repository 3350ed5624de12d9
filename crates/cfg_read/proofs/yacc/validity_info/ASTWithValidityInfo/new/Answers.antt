use Rattle.std.proofs.Common.{subst}
use Rattle.cfg_read.specs.ErrorModels.{failures_in}
use Rattle.cfg_read.specs.Files.{FailsSection, IsFailure, in_section}
use Rattle.cfg_read.specs.ValidityInfo.{has_errors}
use Rattle.cfg_read.proofs.TextKinds.{section_of}
use Rattle.cfg_read.proofs.yacc.validity_info.ASTWithValidityInfo.new.Goals as goal

pub returns-in_ok-checked-in-Ok : goal.returns-in_ok-checked-in-Ok
returns-in_ok-checked-in-Ok c =
    let r = c.in-Ok.ensures.ok in
    c.in_ok-checked-in-Ok.ensures r.pairs (section_of c.args.text.now _ c.in-Ok.start r)

pub returns-in-Err-Invalid : goal.returns-in-Err-Invalid
returns-in-Err-Invalid c = has_errors (failures_in c.in-Err-Invalid.errors.items) (in_section (subst (IsFailure (FailsSection c.args.text.now)) c.in-Err-Invalid.field-0-is c.in-Err-Invalid.ensures.err)) c.of_errors.ensures
