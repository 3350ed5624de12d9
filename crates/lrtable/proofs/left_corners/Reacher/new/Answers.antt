use Rattle.std.proofs.Common.{false, length, ap, ◌∙◌, subst}
use Rattle.std.proofs.lemmas.List.{length-replicate}
use Rattle.lrtable.specs.Opening.{HasRuleLook, RuleSets}
use Rattle.vob.proofs.Bits.{none_in}
use Rattle.lrtable.proofs.left_corners.Reacher.new.Goals as goal

pub returns : goal.returns
returns c =
    let s = c.in_ok-empty.ensures in
    record {
      tidy = λ A t h. absurd (none_in c.args.rules c.args.tokens A t (subst (λ (x : RuleSets). HasRuleLook x A t) s h));
      tokens_are = ap (λ (x : RuleSets). x.tokens) s;
      opened = ap (λ (x : RuleSets). length x.opened) s ∙ length-replicate c.args.rules false;
      passed = ap length c.in_ok-from_elem.ensures.bits ∙ length-replicate c.args.rules false;
      looks = ap length c.in_ok-from_elem-2.ensures.bits ∙ length-replicate c.args.tokens false;
      none_marked = c.new.ensures.items;
      none_waits = c.in_ok-empty-2.ensures;
    }
