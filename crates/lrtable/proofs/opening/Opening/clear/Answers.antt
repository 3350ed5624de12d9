use Rattle.std.proofs.Common.{false, length, sym, ap, ◌∙◌}
use Rattle.std.proofs.lemmas.List.{length-replicate}
use Rattle.lrtable.proofs.opening.Opening.clear.Goals as goal

pub invariant_of-self : goal.invariant_of-self
invariant_of-self c = c.empty_rows.ensures.count ∙ (c.self.invariant ∙ sym (ap length c.clear.ensures ∙ length-replicate (length c.self.inside.opened.bits) false))
