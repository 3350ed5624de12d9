use Rattle.std.proofs.Common.{◌≡◌, ℕ, List, sym, subst}
use Rattle.lrtable.specs.Pruning.{Marks}
use Rattle.lrtable.proofs.Marking.{marks_new}
use Rattle.lrtable.proofs.pruning.mark.Goals as goal

pub returns-in_ok-push : goal.returns-in_ok-push
returns-in_ok-push c =
    subst (λ (w : List ℕ). Marks (λ s. c.args.number ≡ s) c.args.marked.now.bits c.set.new.self.bits c.args.waiting.now.items w) (sym c.in_ok-push.ensures.items)
    (marks_new c.args.marked.now.bits c.set.new.self.bits c.args.number c.args.waiting.now.items c.requires c.set.ensures.bits (c.set.ensures.changed.0 c.if-set.true))
