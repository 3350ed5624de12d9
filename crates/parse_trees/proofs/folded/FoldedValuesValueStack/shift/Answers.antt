use Rattle.std.proofs.Common.{ap, sym}
use Rattle.parse_trees.specs.Stacks.{span_of_places}
use Rattle.parse_trees.proofs.Folding.{stand_shifted, start_pushed}
use Rattle.parse_trees.proofs.folded.FoldedValuesValueStack.shift.Goals as goal

pub returns-clause-stands : goal.returns-clause-stands
returns-clause-stands g c = λ G ts h.
    rw (c.in_ok-push-2.ensures.items, c.in_ok-push.ensures.items)
    (stand_shifted _ _ G _ _ c.args.self.now.values.items c.args.self.now.spans.items ts h c.args.lexeme c.in_ok-value.value c.span.result (c.args.alloc, c.in_ok-value.ensures) (ap span_of_places c.span.ensures) (rw c.span.ensures c.requires.start))

pub returns-clause-start : goal.returns-clause-start
returns-clause-start g c =
    rw c.in_ok-push-2.ensures.items (rw (sym c.span.ensures) (start_pushed c.args.self.now.spans.items c.span.result (rw c.span.ensures c.requires.start)))
