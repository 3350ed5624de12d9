-- A byte many times behind a text.
use Rattle.std.proofs.Common.{◌≡◌, ℕ, ◌+◌, ◌-◌, ◌≤◌, List, ◌++◌, length, take, replicate, ap, ◌∙◌, append_assoc, arith}
use Rattle.std.proofs.lemmas.List.{take_all, replicate-append-replicate}

-- some of those that are left to be added are
pub some_more : (old text new : List ℕ) (b count left some end len : ℕ) → left ≤ count → some ≤ left → text ≡ old ++ replicate (count - left) b → end ≡ len + some → len ≡ length text →
    new ≡ take end text ++ replicate (end - len) b → new ≡ old ++ replicate (count - (left - some)) b
some_more old text new b count left some end len within few is end_is long grown =
    let all : length text ≤ end = omega (arith, end_is, long) in
    let added : end - len ≡ some = omega (arith, end_is) in
    let sum : (count - left) + some ≡ count - (left - some) = omega (arith, within, few) in
    grown ∙ ap (λ l. l ++ replicate (end - len) b) (take_all end text all) ∙ ap (λ k. text ++ replicate k b) added ∙ ap (λ l. l ++ replicate some b) is ∙
    append_assoc old (replicate (count - left) b) (replicate some b) ∙ ap (λ l. old ++ l) (replicate-append-replicate (count - left) some b ∙ ap (λ k. replicate k b) sum)
