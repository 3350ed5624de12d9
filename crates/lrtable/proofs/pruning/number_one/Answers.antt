use Rattle.std.proofs.Common.{◌≡◌, ◌+◌, ℕ, List, length, sym, ◌∙◌, subst, subst₂, rules}
use Rattle.lrtable.specs.Pruning.{AreNumbered}
use Rattle.lrtable.proofs.Numbering.{numbered_left, numbered_kept}
use Rattle.lrtable.proofs.pruning.number_one.Goals as goal

pub returns-in_ok-push-2 : goal.returns-in_ok-push-2
returns-in_ok-push-2 c =
    let len : c.len.result ≡ length c.args.kept.now.items = search rules in
    subst₂ (λ (k n : List ℕ). AreNumbered c.args.marked.now.bits (c.args.number + 1) k n) (sym c.in_ok-push-2.ensures.items) (sym c.in_ok-push.ensures.items)
    (numbered_kept c.args.marked.now.bits c.args.number c.args.kept.now.items c.args.numbers.now.items c.requires.before c.len.result len (sym c.get_unchecked.ensures ∙ c.if-get_unchecked.true))

pub returns-else-get_unchecked : goal.returns-else-get_unchecked
returns-else-get_unchecked c =
    let len : c.len.result ≡ length c.args.kept.now.items = search rules in
    subst (λ (n : List ℕ). AreNumbered c.args.marked.now.bits (c.args.number + 1) c.args.kept.now.items n) (sym c.in_ok-push.ensures.items)
    (numbered_left c.args.marked.now.bits c.args.number c.args.kept.now.items c.args.numbers.now.items c.requires.before c.len.result len (sym c.get_unchecked.ensures ∙ c.if-get_unchecked.false))
