-- Spans from the second on, one after the other.
use Rattle.std.proofs.Common.{◌≡◌, ℕ, zero, suc, ◌+◌, ◌<◌, List, [], ◌∷◌, ◌++◌, length, drop, get_or, refl, sym, ap, ◌∙◌, arith, append_assoc, add-one}
use Rattle.std.specs.Prelude.{slice_get, codes, Option, None, Some, option_copied}
use Rattle.std.specs.Option.{unwrap_or, option_map_or}
use Rattle.std.specs.Borrow.{Bor}
use Rattle.std.specs.Slice.{IsItemAt}
use Rattle.std.proofs.lemmas.Option.{slice_get_past, slice_get-get_or}
use Rattle.std.proofs.Math.Seq.{drop-cons}
use Rattle.cfg_base.specs.SpanModel.{SpanModel}
use Rattle.cfg_base.specs.declared.span.SpansKind.{SpansKind}
use Rattle.lrpar_diagnostics.specs.Underlines.{underlined}
use Rattle.lrpar_diagnostics.specs.Occurrences.{occurrence_text, dots_before, later_texts, spanned_text}

get-drop : {X : Type 0} (xs : List X) (i : ℕ) → slice_get (drop i xs) 0 ≡ slice_get xs i
get-drop [] zero = refl
get-drop [] (suc i) = refl
get-drop (x ∷ xs) zero = refl
get-drop (x ∷ xs) (suc i) = get-drop xs i

-- what a look-up lends, by value
pub lent : {X : Type 0} (xs : List X) (i : ℕ) (r : Option (Bor X)) → IsItemAt xs i r → option_copied r ≡ slice_get xs i
lent xs i None item = sym (slice_get_past xs i item.3)
lent xs i (Some x) item = sym (slice_get-get_or xs i x.now item.3.0 ∙ ap Some (sym item.1))

some_is : {X : Type 0} {x y : X} → Some x ≡ Some y → x ≡ y
some_is {X} {x} {y} e = ap (λ o. unwrap_or o x) e

-- the span at i, and those behind it
pub step : (text : List ℕ) (kind : SpansKind) (i n : ℕ) (spans : List SpanModel) (d : SpanModel) (old new whole : List ℕ) → i < length spans → n ≡ i + 1 →
    new ≡ old ++ (codes "\n" ++ underlined text (dots_before text (get_or spans i d) (slice_get spans n)) (get_or spans i d) (occurrence_text kind n) 94) →
    old ++ later_texts text kind (i + 1) (drop i spans) ≡ whole → new ++ later_texts text kind (n + 1) (drop n spans) ≡ whole
step text kind i n spans d old new whole within same put was =
    let span = get_or spans i d in
    let one : Option SpanModel → List ℕ = λ next. codes "\n" ++ underlined text (dots_before text span next) span (occurrence_text kind (i + 1)) 94 in
    let rest = later_texts text kind (i + 1 + 1) (drop (i + 1) spans) in
    ap (λ m. new ++ later_texts text kind (m + 1) (drop m spans)) same
    ∙ (ap (λ l. l ++ rest) (put ∙ ap (λ m. old ++ (codes "\n" ++ underlined text (dots_before text span (slice_get spans m)) span (occurrence_text kind m) 94)) same)
    ∙ (append_assoc old (one (slice_get spans (i + 1))) rest
    ∙ (ap (λ next. old ++ (one next ++ rest)) (sym (get-drop spans (i + 1)))
    ∙ (ap (λ m. old ++ later_texts text kind (i + 1) (span ∷ drop m spans)) (add-one i)
    ∙ (ap (λ l. old ++ later_texts text kind (i + 1) l) (sym (drop-cons spans i d within))
    ∙ was)))))

-- the first span with its message, and those behind it
pub whole : (text message : List ℕ) (kind : SpansKind) (spans : List SpanModel) (span : SpanModel) (begun put new : List ℕ) → Some span ≡ slice_get spans 0 → begun ≡ [] →
    put ≡ begun ++ underlined text (dots_before text span (slice_get spans 1)) span message 94 → new ≡ put ++ later_texts text kind 2 (drop 1 spans) → new ≡ spanned_text text message spans kind
whole text message kind [] span begun put new es eb ep en = let h : ◌≡◌ {A = ℕ} 1 0 = ap (λ (o : Option SpanModel). option_map_or (λ _. 1) o 0) es in absurd (omega (arith, h))
whole text message kind (x ∷ rest) span begun put new es eb ep en =
    en ∙ ap (λ l. l ++ later_texts text kind 2 rest) (ep ∙ (ap (λ l. l ++ underlined text (dots_before text span (slice_get rest 0)) span message 94) eb ∙ ap (λ s. underlined text (dots_before text s (slice_get rest 0)) s message 94) (some_is es)))
