use Rattle.std.proofs.Common.{sym, ◌∙◌}
use Rattle.text_parses.proofs.GoingOn.{stops_at}
use Rattle.text_parses.proofs.next.push_items.Goals as goal

pub returns-then-not-branch : goal.returns-then-not-branch
returns-then-not-branch c = λ none.
    let told = c.if-not-branch.true in
    let error = c.in_ok-push-in-Ok.ensures in
    stops_at c.args.prefix.now.parser c.args.items.now c.items.item-index c.item-item.result c.in-Ok.lexeme c.items.prefix c.push.new.self c.items-test.true (sym c.item-item.is ∙ c.in-Ok.is) c.items.invariant.0 (c.items.invariant.1 none) (error.stays told) (error.error told)
