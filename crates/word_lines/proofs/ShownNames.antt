-- How tokens are shown, and each of the errors.
use Rattle.std.proofs.Common.{◌≡◌, ℕ, ◌<◌, zero, suc, Option, Some, None, List, [], ◌∷◌, ◌++◌, length, map, append_assoc, append-nil, get_or, cond, option_map, slice_get, refl, sym, ap, ◌∙◌, ⊎_elim, arith, lt-ltb, le-ltb}
use Rattle.std.specs.Borrow.{Bor}
use Rattle.std.specs.List.{AllByRecursion, flat_map}
use Rattle.std.proofs.lemmas.Grind.{flat_map-append}
use Rattle.std.proofs.lemmas.List.{map-id}
use Rattle.std.proofs.lemmas.Bool.{cases_lt}
use Rattle.cfg_numbered.specs.Value.{GrammarValue, shown_text}
use Rattle.parse_trees.specs.ErrorTexts.{name_or_number}
use Rattle.parse_trees.specs.Shapes.{joined}
use Rattle.word_lines.specs.LineTexts.{shown_name, text_or_number}

lent : (t : ℕ) (r : Option (Bor (List ℕ))) → text_or_number t (option_map (λ s. s.now) r) ≡ name_or_number t r
lent t None = refl
lent t (Some s) = refl

pub named : (g : GrammarValue) (t : ℕ) (r : Option (Bor (List ℕ))) → t < g.grammar.tokens → option_map shown_text (slice_get g.tokens t) ≡ Some (option_map (λ s. s.now) r) → shown_name g t ≡ name_or_number t r
named g t r lt is =
    ap (λ b. text_or_number t (cond b (joined (option_map shown_text (slice_get g.tokens t))) None)) (lt-ltb t g.grammar.tokens lt) ∙ ap (λ o. text_or_number t (joined o)) is ∙ lent t r

pub unnamed : (g : GrammarValue) (t : ℕ) → (t < g.grammar.tokens → ⊥) → shown_name g t ≡ name_or_number t None
unnamed g t outside =
    ⊎_elim
    (λ lt. absurd (outside lt))
    (λ le. ap (λ b. text_or_number t (cond b (joined (option_map shown_text (slice_get g.tokens t))) None)) (le-ltb t g.grammar.tokens le))
    (cases_lt t g.grammar.tokens)

-- what holds of all holds of each
pub each : {X : Type 0} (P : X → Type 0) (xs : List X) (k : ℕ) (d : X) → AllByRecursion P xs → k < length xs → P (get_or xs k d)
each P [] k d all lt = absurd (omega (arith, lt))
each P (x ∷ xs) zero d all lt = all.0
each P (x ∷ xs) (suc k) d all lt = each P xs k d all.1 (omega (arith, lt))

module _ {X : Type 0} (f : X → List ℕ) (old : List ℕ) where
  -- one text more is added
  pub text_more : (text new : List ℕ) (xs : List X) (x : X) → text ≡ old ++ flat_map f xs → new ≡ text ++ f x → new ≡ old ++ flat_map f (xs ++ x ∷ [])
  text_more text new xs x is added =
      added ∙ ap (λ t. t ++ f x) is ∙ append_assoc old (flat_map f xs) (f x) ∙ ap (λ t. old ++ (flat_map f xs ++ t)) (sym (append-nil (f x))) ∙ ap (λ t. old ++ t) (sym (flat_map-append f xs (x ∷ [])))

  -- all are
  pub text_end : (text : List ℕ) (xs all : List X) → text ≡ old ++ flat_map f xs → map (λ x. x) xs ≡ all → text ≡ old ++ flat_map f all
  text_end text xs all is e = is ∙ ap (λ ys. old ++ flat_map f ys) (sym (map-id xs) ∙ e)
