use Rattle.std.proofs.Common.{true, length, sym, ap, ◌∙◌, length-set}
use Rattle.lrtable.proofs.opening.Opening.open.Goals as goal

pub invariant_of-self : goal.invariant_of-self
invariant_of-self c = c.self.invariant ∙ sym (ap length c.set.ensures.bits ∙ length-set c.self.inside.opened.bits c.args.rule true)
