-- Productions that needn't be taken in again: a table is closed under those that are kept, whatever it came to tell.
use Rattle.std.proofs.Common.{◌≡◌, ℕ, zero, suc, ◌<◌, ◌⊎◌, inl, inr, Bool, true, false, List, [], ◌∷◌, length, get_or, set, replicate, Option, Some, None, refl, sym, ◌∙◌, subst, arith}
use Rattle.std.specs.Prelude.{IsTrue, Contains}
use Rattle.std.proofs.lemmas.List.{length-set}
use Rattle.std.proofs.lemmas.Bool.{cases_lt, cases_Bool}
use Rattle.cfg_theory.specs.Grammar.{Grammar}
use Rattle.vob.specs.Sets.{is_set}
use Rattle.cfg_sentences.specs.Greatest.{IsOneOf, TakesOut}
use Rattle.cfg_sets.specs.WorkLists.{ListsNaming, NamesGiven, TakesIn}
use Rattle.vob.proofs.Bits.{put_in, none_set}
use Rattle.cfg_sentences.proofs.SettleSteps.{past_end}

abbrev pub AreTaken : {X : Type 0} → (X → ℕ → Type 0) → X → List Bool → Type 0
AreTaken C a bits = (p : ℕ) → IsTrue (is_set bits p) → C a p

false_true : ◌≡◌ {A = Bool} false true → ⊥
false_true e = cc

one_of : (list : List ℕ) (p : ℕ) → Contains list p → IsOneOf list (length list) p
one_of list p (k, lt, e) = (k, lt, lt, sym (any list k lt) ∙ e)
  where
    any : (l : List ℕ) (i : ℕ) → i < length l → get_or l i p ≡ get_or l i 0
    any [] i less = absurd (omega (arith, less))
    any (x ∷ l) zero less = refl
    any (x ∷ l) (suc i) less = any l i (omega (arith, less))

module _ {X : Type 0} (G : Grammar) (room : X → ℕ) (C : X → ℕ → Type 0) (n : ℕ) (old new : X) (told : Option ℕ) (lists : List (List ℕ)) (taken : List Bool) (h : TakesIn G room C n old new told)
    (names : ListsNaming G (length G.productions) lists) (width : length taken ≡ length G.productions) (lt : n < length G.productions) (all : AreTaken C old taken) where
  closed_or : (p : ℕ) → IsTrue (is_set (set taken n true) p) → C new p ⊎ NamesGiven G p told
  closed_or p is = elim ((put_in taken n p (omega (arith, lt, width))).0 is) [
    | inl was ↦ h.kept p (all p was)
    | inr e ↦ subst (λ q. C new q ⊎ NamesGiven G q told) e h.here
  ]

  -- the table tells nothing else
  pub taken_none : told ≡ None → AreTaken C new (set taken n true)
  taken_none e p is = elim (closed_or p is) [ inl c ↦ c | inr x ↦ absurd (unnamed (subst (NamesGiven G p) e x)) ]
    where
      unnamed : NamesGiven G p None → ⊥
      unnamed x = x

  module _ (A : ℕ) (e : told ≡ Some A) where
    pub has_list : A < length lists
    has_list = let w = h.within A e in let count = names.count in omega (arith, w, count)

    -- of a rule: what names it is no longer kept
    pub taken_some : (after : List Bool) → TakesOut (get_or lists A []) (length (get_or lists A [])) (set taken n true) after → AreTaken C new after
    taken_some after out p is = elim (closed_or p still) [ inl c ↦ c | inr x ↦ absurd (named (subst (NamesGiven G p) e x)) ]
      where
        still : IsTrue (is_set (set taken n true) p)
        still = elim (cases_Bool (is_set (set taken n true) p)) [ inl t ↦ t | inr f ↦ absurd (false_true (sym (out.fewer p f) ∙ is)) ]

        low : p < length G.productions
        low = elim (cases_lt p (length after)) [
          | inl less ↦ (let w = out.width in let s = length-set taken n true in omega (arith, less, w, s, width))
          | inr le ↦ absurd (false_true (sym (past_end after p le) ∙ is))
        ]

        named : NamesGiven G p (Some A) → ⊥
        named (d, next) = false_true (sym (out.gone p (one_of (get_or lists A []) p (names.named p d A low next))) ∙ is)

    pub taken_width : (after : List Bool) → TakesOut (get_or lists A []) (length (get_or lists A [])) (set taken n true) after → length after ≡ length G.productions
    taken_width after out = out.width ∙ length-set taken n true ∙ width

pub none_taken : {X : Type 0} (C : X → ℕ → Type 0) (a : X) (n : ℕ) (bits : List Bool) → bits ≡ replicate n false → AreTaken C a bits
none_taken C a n bits e p is = absurd (none_set n p (subst (λ l. IsTrue (is_set l p)) e is))
