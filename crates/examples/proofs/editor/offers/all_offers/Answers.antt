use Rattle.std.proofs.Common.{[], ◌∷◌, ◌++◌, sym, ap, ◌∙◌, arith}
use Rattle.std.proofs.lemmas.List.FromFn.{map-range_with_len_more}
use Rattle.lr_theory.specs.Repair.{insert}
use Rattle.examples.proofs.editor.offers.all_offers.Goals as goal

pub tokens-preserved : goal.tokens-preserved
tokens-preserved c =
    let n = c.tokens.token in
    c.in_ok-push_offer.ensures ∙ ap (λ l. l ++ (insert n ∷ []) ∷ []) c.tokens.invariant ∙ sym (map-range_with_len_more (λ t. insert t ∷ []) 0 n n (omega arith))
