-- Failures of names that stand for nothing, one word after another.
use Rattle.std.proofs.Common.{◌≡◌, ℕ, ◌+◌, ◌<◌, Bool, not, List, [], ◌∷◌, ◌++◌, map, take, length, get_or, sym, ap, ◌∙◌}
use Rattle.std.proofs.lemmas.List.{take_more, map-append, append_assoc}
use Rattle.std.proofs.lemmas.List.Elements.{filter-append}
use Rattle.cfg_read.specs.SyntaxTexts.{WordText}
use Rattle.cfg_read.specs.Validity.{FailureKind, FailureText, failure_at, without, unknown_by}

unknown-append : (kind : List ℕ → FailureKind) (known : List ℕ → Bool) (ws vs : List WordText) → unknown_by kind known (ws ++ vs) ≡ unknown_by kind known ws ++ unknown_by kind known vs
unknown-append kind known ws vs =
    ap (map (λ (w : WordText). failure_at (kind w.text) w.span)) (filter-append (λ (w : WordText). not (known w.text)) ws vs)
    ∙ map-append (λ (w : WordText). failure_at (kind w.text) w.span) (without known ws) (without known vs)

-- one more turn of a loop that asks of each word whether its name is known
pub unknown_turn : {A : Type 0} (kind : List ℕ → FailureKind) (known : List ℕ → Bool) (g : A → WordText) (base old new : List FailureText) (xs : List A) (i : ℕ) (x : A) (b : Bool) → i < length xs → x ≡ get_or xs i x
    → old ≡ base ++ unknown_by kind known (map g (take i xs)) → b ≡ known (g x).text → new ≡ old ++ unknown_by kind (λ q. b) (g x ∷ []) → new ≡ base ++ unknown_by kind known (map g (take (i + 1) xs))
unknown_turn kind known g base old new xs i x b within is before told turn =
    let more : take (i + 1) xs ≡ take i xs ++ x ∷ [] = take_more xs i x within ∙ ap (λ y. take i xs ++ y ∷ []) (sym is) in
    turn
    ∙ ap (λ (c : Bool). old ++ unknown_by kind (λ q. c) (g x ∷ [])) told
    ∙ ap (λ o. o ++ unknown_by kind known (g x ∷ [])) before
    ∙ append_assoc base (unknown_by kind known (map g (take i xs))) (unknown_by kind known (g x ∷ []))
    ∙ ap (λ l. base ++ l) (sym (ap (λ l. unknown_by kind known (map g l)) more ∙ ap (unknown_by kind known) (map-append g (take i xs) (x ∷ [])) ∙ unknown-append kind known (map g (take i xs)) (g x ∷ [])))
