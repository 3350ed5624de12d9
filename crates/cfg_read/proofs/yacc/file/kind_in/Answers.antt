use Rattle.std.proofs.Common.{sym, ◌∙◌, ap, subst}
use Rattle.cfg_read.specs.Files.{said_meaning, FailsValue, IsFailure}
use Rattle.cfg_read.proofs.yacc.file.kind_in.Goals as goal

pub returns-in-Ok-named_kind-clause-ok : goal.returns-in-Ok-named_kind-clause-ok
returns-in-Ok-named_kind-clause-ok c = λ pairs holds. sym (ap said_meaning (c.in-Ok.ensures pairs holds)) ∙ c.in-Ok-named_kind.ensures.ok

pub returns-in-Err-named_kind-clause-err : goal.returns-in-Err-named_kind-clause-err
returns-in-Err-named_kind-clause-err c = λ pairs holds.
    subst (λ o. IsFailure (FailsValue o) c.in-Err-named_kind.e) (ap said_meaning (c.in-Ok.ensures pairs holds)) c.in-Err-named_kind.ensures.err
