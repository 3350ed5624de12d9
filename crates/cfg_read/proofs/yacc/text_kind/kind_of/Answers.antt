use Rattle.cfg_read.proofs.TextKinds.{section_fails, value_fails, tells_it, tells_none}
use Rattle.cfg_read.proofs.yacc.text_kind.kind_of.Goals as goal

pub returns-in-Err-clause-err : goal.returns-in-Err-clause-err
returns-in-Err-clause-err c = section_fails c.args.text.now c.in-Err.e c.in-Err.ensures.err

pub returns-in-Err-kind_in-clause-err : goal.returns-in-Err-kind_in-clause-err
returns-in-Err-kind_in-clause-err c =
    let r = c.in-Ok.ensures.ok in
    value_fails c.args.text.now c.in-Ok.read.0 c.in-Ok.read.1 c.in-Err-kind_in.e r (c.in-Err-kind_in.ensures.err r.pairs r.holds)

pub returns-in-Ok-kind_in-clause-named : goal.returns-in-Ok-kind_in-clause-named
returns-in-Ok-kind_in-clause-named c =
    let r = c.in-Ok.ensures.ok in
    tells_it c.args.text.now c.in-Ok.read.0 c.in-Ok.read.1 c.in-Ok-kind_in.kind r (c.in-Ok-kind_in.ensures.ok r.pairs r.holds)

pub returns-in-Ok-kind_in-clause-unnamed : goal.returns-in-Ok-kind_in-clause-unnamed
returns-in-Ok-kind_in-clause-unnamed c =
    let r = c.in-Ok.ensures.ok in
    tells_none c.args.text.now c.in-Ok.read.0 c.in-Ok.read.1 c.in-Ok-kind_in.kind r (c.in-Ok-kind_in.ensures.ok r.pairs r.holds)
