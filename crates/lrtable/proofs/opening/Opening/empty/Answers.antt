use Rattle.std.proofs.Common.{false, length, replicate, sym, ap, ◌∙◌}
use Rattle.std.proofs.lemmas.List.{length-replicate}
use Rattle.vob.specs.Sets.{SetRows}
use Rattle.lrtable.proofs.opening.Opening.empty.Goals as goal

pub invariant_of-result : goal.invariant_of-result
invariant_of-result c =
    let flags = ap length c.in_ok-opened.ensures ∙ length-replicate c.args.rules false in
    ap (λ (s : SetRows). length s.rows) c.in_ok-looks.ensures ∙ (length-replicate c.args.rules (replicate c.args.tokens false) ∙ sym flags)
