use Rattle.std.proofs.Common.{◌≡◌, ◌<◌, ◌++◌, ◌∷◌, [], length, ap, ◌∙◌, arith}
use Rattle.cfg_read.specs.ErrorModels.{span_lists}
use Rattle.cfg_read.proofs.Grouping.{with_span_push, with_span_set}
use Rattle.cfg_read.proofs.yacc.validity.repeated.add_span.Goals as goal

pub returns-in_ok-push : goal.returns-in_ok-push
returns-in_ok-push c =
    let last : c.args.index ≡ length c.args.groups.now.items = omega arith in
    ap span_lists c.in_ok-push.ensures.items
    ∙ with_span_push c.args.groups.now.items c.args.index c.in_ok-vec.field-0 c.args.span last c.in_ok-vec.ensures.items

pub returns-in_ok-push-2 : goal.returns-in_ok-push-2
returns-in_ok-push-2 c =
    let within : c.args.index < length c.args.groups.now.items = omega arith in
    with_span_set c.args.groups.now.items c.args.index c.index_mut.result.now c.push-else-index-len.new.self c.args.span within
    (c.in_ok-push-2.ensures.items ∙ ap (λ g. g.items ++ c.args.span ∷ []) c.index_mut.ensures.value)
