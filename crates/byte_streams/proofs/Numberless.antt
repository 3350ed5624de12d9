-- Words in front of the system's number.
use Rattle.std.proofs.Common.{◌≡◌, ℕ, ◌+◌, ◌<◌, ◌≤◌, List, ◌++◌, length, take, drop, refl, sym, ap, ◌∙◌, append_assoc, arith}
use Rattle.std.specs.Prelude.{codes}
use Rattle.std.specs.Str.Pattern.{LacksTextAt}
use Rattle.std.proofs.lemmas.List.{length-append, take-append-drop, drop_at}
use Rattle.byte_streams.specs.Recording.{HasNoNumber}

abbrev pub sign : List ℕ
sign = codes " (os error "

pub front_numberless : (shown words : List ℕ) (i : ℕ) → words ≡ take i shown → length words ≡ i → ((k : ℕ) → k < i → LacksTextAt sign shown k) → HasNoNumber words
front_numberless shown words i is long lacks front back e =
    let rest = drop i shown in
    let whole : shown ≡ front ++ (sign ++ (back ++ rest)) =
    sym (take-append-drop i shown) ∙ ap (λ l. l ++ rest) (sym is ∙ e) ∙ append_assoc front (sign ++ back) rest ∙ ap (λ l. front ++ l) (append_assoc sign back rest) in
    lacks (length front) (omega (arith, long, ap length e, length-append front (sign ++ back), length-append sign back)) (back ++ rest)
    (ap (drop (length front)) whole ∙ drop_at front (sign ++ (back ++ rest)) (length front) refl)

pub whole_numberless : (shown : List ℕ) → ((k : ℕ) → k ≤ length shown → LacksTextAt sign shown k) → HasNoNumber shown
whole_numberless shown lacks front back e =
    lacks (length front) (omega (arith, ap length e, length-append front (sign ++ back))) back (ap (drop (length front)) e ∙ drop_at front (sign ++ back) (length front) refl)
