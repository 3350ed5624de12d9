use Rattle.std.proofs.Common.{false, ap, ◌∙◌}
use Rattle.std.specs.Prelude.{slice_get, unwrap_or}
use Rattle.lrkit_c.proofs.Numbers.{next_number}
use Rattle.lrkit_c.proofs.expected.numbers_of.Goals as goal

pub tokens-preserved : goal.tokens-preserved
tokens-preserved c =
    next_number (λ k. unwrap_or (slice_get c.args.bits.now.bits k) false) c.tokens.token _ _ c.unwrap_or-set.result c.tokens.invariant (c.unwrap_or-set.ensures ∙ ap (λ o. unwrap_or o false) c.get.ensures) c.in_ok-push_if.ensures
