use Rattle.std.proofs.Common.{sym, ◌∙◌, arith}
use Rattle.lrtable.proofs.finishing.openers_of_grammar.Goals as goal

pub with_reached-requires : goal.with_reached-requires
with_reached-requires g c =
    let h = c.in_ok-fronts.ensures in
    let tokens = c.to_usize-tokens.ensures.value ∙ c.tokens_len.ensures in
    λ A e m. record { rule = (let lt = h.fit A e m in let n = h.count in omega (arith, lt, n)); first = h.width A e m ∙ sym tokens }
