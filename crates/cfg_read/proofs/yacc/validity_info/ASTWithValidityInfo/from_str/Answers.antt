use Rattle.cfg_read.proofs.TextKinds.{section_of, checked_as_told, tells, none_lacks, value_lacks}
use Rattle.cfg_read.proofs.yacc.validity_info.ASTWithValidityInfo.from_str.Goals as goal

pub returns-in-Err-kind_in-clause-err : goal.returns-in-Err-kind_in-clause-err
returns-in-Err-kind_in-clause-err c =
    let r = c.in-Ok.ensures.ok in
    value_lacks c.args.text.now c.in-Ok.read.0 c.in-Ok.read.1 c.in-Err-kind_in.e r (c.in-Err-kind_in.ensures.err r.pairs r.holds)

pub returns-in-Ok-behind_section-clause-ok : goal.returns-in-Ok-behind_section-clause-ok
returns-in-Ok-behind_section-clause-ok c =
    let r = c.in-Ok.ensures.ok in
    checked_as_told c.in-Ok-Some.kind c.args.text.now c.in-Ok-behind_section.checked (c.in-Ok-behind_section.ensures r.pairs (section_of c.args.text.now c.in-Ok.read.0 c.in-Ok.read.1 r))

pub returns-in-Ok-behind_section-clause-kind : goal.returns-in-Ok-behind_section-clause-kind
returns-in-Ok-behind_section-clause-kind c =
    let r = c.in-Ok.ensures.ok in
    let told = rw c.in-Ok-Some.field-0-is at c.in-Ok-Some.ensures.ok r.pairs r.holds in
    tells c.args.text.now c.in-Ok.read.0 c.in-Ok.read.1 c.in-Ok-Some.kind c.in-Ok-behind_section.checked r told (c.in-Ok-behind_section.ensures r.pairs (section_of c.args.text.now c.in-Ok.read.0 c.in-Ok.read.1 r))

pub returns-in-Ok-None-clause-err : goal.returns-in-Ok-None-clause-err
returns-in-Ok-None-clause-err c =
    let r = c.in-Ok.ensures.ok in
    let told = rw c.in-Ok-None.field-0-is at c.in-Ok-None.ensures.ok r.pairs r.holds in
    none_lacks c.args.text.now c.in-Ok.read.0 c.in-Ok.read.1 c.no_kind.result r told c.no_kind.ensures
