use Rattle.std.proofs.Common.{◌∙◌, ap}
use lib.Chars.{codes}
use Rattle.cfg_sections.specs.HeaderTexts.{path_text}
use Rattle.cfg_read.specs.Kinds.{unfit, action_named, action_or}
use Rattle.cfg_read.proofs.yacc.kind.kind_of_argument.Goals as goal

pub returns-in-Some : goal.returns-in-Some
returns-in-Some g c =
    let p = path_text c.args.path.now in
    c.in-Some.ensures (action_or p.member (action_named p.member.text))

pub returns-in-Some-action_named : goal.returns-in-Some-action_named
returns-in-Some-action_named g c =
    let p = path_text c.args.path.now in
    ap (action_or p.member) c.in-Some-action_named.ensures ∙ c.in_default.ensures (action_or p.member (action_named p.member.text))

pub returns-in-None : goal.returns-in-None
returns-in-None g c =
    let p = path_text c.args.path.now in
    ap (λ why. unfit why c.unknown_variant.result.location.now) c.unknown_variant.ensures.why
    ∙ (ap (λ at. unfit (codes "Unknown variant") at) c.unknown_variant.ensures.location
    ∙ (ap (action_or p.member) c.in-None.ensures ∙ c.in_default.ensures (action_or p.member (action_named p.member.text))))
