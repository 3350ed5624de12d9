-- Spaces behind a text.
use Rattle.std.proofs.Common.{◌≡◌, ℕ, ◌+◌, ◌-◌, ◌≤◌, List, ◌++◌, length, take, replicate, ap, ◌∙◌, append_assoc, arith}
use Rattle.std.proofs.lemmas.List.{take_all, replicate-append-replicate}

-- some of those that are left to be added are
pub some_more : (old text new : List ℕ) (count left some end len : ℕ) → left ≤ count → some ≤ left → text ≡ old ++ replicate (count - left) 32 → end ≡ len + some → len ≡ length text →
    new ≡ take end text ++ replicate (end - len) 32 → new ≡ old ++ replicate (count - (left - some)) 32
some_more old text new count left some end len within few is end_is long grown =
    let all : length text ≤ end = omega (arith, end_is, long) in
    let added : end - len ≡ some = omega (arith, end_is) in
    let sum : (count - left) + some ≡ count - (left - some) = omega (arith, within, few) in
    grown ∙ ap (λ l. l ++ replicate (end - len) 32) (take_all end text all) ∙ ap (λ k. text ++ replicate k 32) added ∙ ap (λ l. l ++ replicate some 32) is ∙
    append_assoc old (replicate (count - left) 32) (replicate some 32) ∙ ap (λ l. old ++ l) (replicate-append-replicate (count - left) some 32 ∙ ap (λ k. replicate k 32) sum)
