-- Spines are canonical items.
use Rattle.std.proofs.Common.{arith, ◌≡◌, ℕ, zero, suc, ◌≤◌, ◌⊎◌, inl, inr, List, [], ◌∷◌, ◌++◌, length, Some, refl, sym, ap, ◌∙◌, subst}
use Rattle.std.specs.Prelude.{slice_get}
use Rattle.std.proofs.lemmas.Option.{slice_get_within}
use Rattle.cfg_theory.specs.Grammar.{Sym, rule, Grammar, body_of, end_token, IsOf, IsNext}
use Rattle.cfg_theory.specs.Derivation.{Nullable, IsFirst, IsFirstBefore, Derives}
use Rattle.lr_theory.specs.Canonical.{Present, Look, from_dot}
use Rattle.conflict_examples.specs.Spines.{Item, IsSpine, back_over, before_dots, behind, around, Stands, SomeSpine, SomeSpineBefore, SpinesAreItems}
use Rattle.conflict_examples.proofs.Firsts.{before_first, before_passed, before_split, before_none}

-- the symbol before a dot
pub symbol_within : (a : List Sym) (n : ℕ) → suc n ≤ length a → (X : Sym) × (slice_get a n ≡ Some X)
symbol_within [] n h = absurd (omega (arith, h))
symbol_within (X ∷ a) zero h = (X, refl)
symbol_within (X ∷ a) (suc n) h = symbol_within a n (omega (arith, h))

pub back_next : (n : ℕ) (a w : List Sym) (X : Sym) → slice_get a n ≡ Some X → back_over (suc n) a w ≡ X ∷ back_over n a w
back_next n [] w X e = cc
back_next zero (Y ∷ a) w X e = let same : Y ≡ X = cc in ap (λ Z. Z ∷ w) same
back_next (suc n) (Y ∷ a) w X e = back_next n a (Y ∷ w) X e

item : ℕ → ℕ → Item
item p d = record { production = p; dot = d }

module _ (G : Grammar) where
  -- the dot of the innermost moves
  moved_spine : {p d : ℕ} {X : Sym} {is : List Item} → IsSpine G (record { production = p; dot = d } ∷ is) → IsNext G p d X → IsSpine G (record { production = p; dot = suc d } ∷ is)
  moved_spine (IsSpine.start e h) n = IsSpine.start e (slice_get_within _ _ _ n.at)
  moved_spine (IsSpine.within A s m o h) n = IsSpine.within A s m o (slice_get_within _ _ _ n.at)

  moved_stands : {w : List Sym} {p d : ℕ} {X : Sym} → SomeSpine G w p d → IsNext G p d X → SomeSpine G (X ∷ w) p (suc d)
  moved_stands {w} {p} {d} {X} (spine, s) n = (
    record { production = p; dot = suc d } ∷ s.others,
    record {
      others = s.others;
      innermost = refl;
      is_spine = moved_spine (subst (IsSpine G) s.innermost s.is_spine) n;
      string = back_next d (body_of G p) (before_dots G s.others) X n.at ∙ ap (λ v. X ∷ v) (sym (ap (before_dots G) s.innermost) ∙ s.string);
    },
  )

  start_stands : {p : ℕ} → p ≡ G.start → SomeSpine G [] p zero
  start_stands {p} e = (record { production = p; dot = zero } ∷ [], record { others = []; innermost = refl; is_spine = IsSpine.start e (omega arith); string = refl })

  opened_stands : {w : List Sym} {p d A q : ℕ} → SomeSpine G w p d → IsNext G p d (rule A) → IsOf G q A → SomeSpine G w q zero
  opened_stands {w} {p} {d} {A} {q} (spine, s) n o = (
    record { production = q; dot = zero } ∷ record { production = p; dot = d } ∷ s.others,
    record {
      others = record { production = p; dot = d } ∷ s.others;
      innermost = refl;
      is_spine = IsSpine.within A (subst (IsSpine G) s.innermost s.is_spine) n o (omega arith);
      string = sym (ap (before_dots G) s.innermost) ∙ s.string;
    },
  )

  pub present_spine : {w : List Sym} {p d : ℕ} → Present G w p d → SomeSpine G w p d
  present_spine (Present.start e) = start_stands e
  present_spine (Present.moved h n) = moved_stands (present_spine h) n
  present_spine (Present.opened h n o) = opened_stands (present_spine h) n o

  -- the dot moves over the symbols before it
  present_over : (p n : ℕ) (w : List Sym) → n ≤ length (body_of G p) → Present G w p zero → Present G (back_over n (body_of G p) w) p n
  present_over p zero w h q = q
  present_over p (suc n) w h q =
      let (X, e) = symbol_within (body_of G p) n h in
      subst (λ v. Present G v p (suc n)) (sym (back_next n (body_of G p) w X e)) (Present.moved (present_over p n w (omega (arith, h)) q) (record { at = e }))

  look_over : (p n t : ℕ) (w : List Sym) → n ≤ length (body_of G p) → Look G w p zero t → Look G (back_over n (body_of G p) w) p n t
  look_over p zero t w h q = q
  look_over p (suc n) t w h q =
      let (X, e) = symbol_within (body_of G p) n h in
      subst (λ v. Look G v p (suc n) t) (sym (back_next n (body_of G p) w X e)) (Look.moved (look_over p n t w (omega (arith, h)) q) (record { at = e }))

  spine_present : {i : Item} {is : List Item} → IsSpine G (i ∷ is) → Present G (before_dots G (i ∷ is)) i.production i.dot
  spine_present {i} (IsSpine.start e h) = present_over i.production i.dot [] h (Present.start e)
  spine_present {i} (IsSpine.within A s n o h) = present_over i.production i.dot _ h (Present.opened (spine_present s) n o)

  pub stands_present : {w : List Sym} {spine : List Item} {i : Item} → Stands G w spine i → Present G w i.production i.dot
  stands_present {w} {spine} {i} s = subst (λ v. Present G v i.production i.dot) (sym (ap (before_dots G) s.innermost) ∙ s.string) (spine_present (subst (IsSpine G) s.innermost s.is_spine))

  -- with lookaheads
  moved_before : {w : List Sym} {p d t : ℕ} {X : Sym} → SomeSpineBefore G w p d t → IsNext G p d X → SomeSpineBefore G (X ∷ w) p (suc d) t
  moved_before {w} {p} {d} {t} {X} (spine, s, f) n = (
    record { production = p; dot = suc d } ∷ s.others,
    record {
      others = s.others;
      innermost = refl;
      is_spine = moved_spine (subst (IsSpine G) s.innermost s.is_spine) n;
      string = back_next d (body_of G p) (before_dots G s.others) X n.at ∙ ap (λ v. X ∷ v) (sym (ap (before_dots G) s.innermost) ∙ s.string);
    },
    subst (λ a. IsFirstBefore G (around G a) (end_token G) t) s.innermost f,
  )

  opened_before : {w : List Sym} {p d A q t : ℕ} (spine : List Item) (s : Stands G w spine (record { production = p; dot = d })) → IsNext G p d (rule A) → IsOf G q A →
      IsFirstBefore G (from_dot G p (suc d) ++ behind G s.others) (end_token G) t → SomeSpineBefore G w q zero t
  opened_before {w} {p} {d} {A} {q} spine s n o f = (
    record { production = q; dot = zero } ∷ record { production = p; dot = d } ∷ s.others,
    record {
      others = record { production = p; dot = d } ∷ s.others;
      innermost = refl;
      is_spine = IsSpine.within A (subst (IsSpine G) s.innermost s.is_spine) n o (omega arith);
      string = sym (ap (before_dots G) s.innermost) ∙ s.string;
    },
    f,
  )

  pub look_spine : {w : List Sym} {p d t : ℕ} → Look G w p d t → SomeSpineBefore G w p d t
  look_spine (Look.start {p = p} e h) = (record { production = p; dot = zero } ∷ [], record { others = []; innermost = refl; is_spine = IsSpine.start e (omega arith); string = refl }, inr (Derives.none, h))
  look_spine (Look.moved l n) = moved_before (look_spine l) n
  look_spine (Look.first {p = p} {d = d} {t = t} h n o f) = let (spine, s) = present_spine h in opened_before spine s n o (before_first G (from_dot G p (suc d)) (behind G s.others) (end_token G) t f)
  look_spine (Look.passed {p = p} {d = d} {t = t} l n o z) =
      let (spine, s, f) = look_spine l in
      opened_before spine s n o (before_passed G (from_dot G p (suc d)) (behind G s.others) (end_token G) t z (subst (λ a. IsFirstBefore G (around G a) (end_token G) t) s.innermost f))

  -- the productions of the rule after a dot
  opens_look : (t : ℕ) {j : Item} {js : List Item} {A q : ℕ} → IsSpine G (j ∷ js) → IsNext G j.production j.dot (rule A) → IsOf G q A →
      (IsFirstBefore G (behind G js) (end_token G) t → Look G (before_dots G (j ∷ js)) j.production j.dot t) →
      IsFirst G (from_dot G j.production (suc j.dot)) t ⊎ (Nullable G (from_dot G j.production (suc j.dot)) × IsFirstBefore G (behind G js) (end_token G) t) → Look G (before_dots G (j ∷ js)) q zero t
  opens_look t s n o look (inl x) = Look.first (spine_present s) n o x
  opens_look t s n o look (inr (z, x)) = Look.passed (look x) n o z

  spine_look : (t : ℕ) {i : Item} {is : List Item} → IsSpine G (i ∷ is) → IsFirstBefore G (behind G is) (end_token G) t → Look G (before_dots G (i ∷ is)) i.production i.dot t
  spine_look t {i} (IsSpine.start e h) f = look_over i.production i.dot t [] h (Look.start e (before_none G (end_token G) t f))
  spine_look t {i} (IsSpine.within {j = j} {js = js} A s n o h) f =
      look_over i.production i.dot t _ h (opens_look t s n o (λ x. spine_look t s x) (before_split G (from_dot G j.production (suc j.dot)) (behind G js) (end_token G) t f))

  pub stands_look : {w : List Sym} {spine : List Item} {i : Item} (t : ℕ) → Stands G w spine i → IsFirstBefore G (around G spine) (end_token G) t → Look G w i.production i.dot t
  stands_look {w} {spine} {i} t s f = subst (λ v. Look G v i.production i.dot t) (sym (ap (before_dots G) s.innermost) ∙ s.string)
      (spine_look t (subst (IsSpine G) s.innermost s.is_spine) (subst (λ a. IsFirstBefore G (around G a) (end_token G) t) s.innermost f))

pub spines_are_items : SpinesAreItems
spines_are_items = record {
  present = λ G w p d. (present_spine G, λ x. stands_present G x.1);
  look = λ G w p d t. (look_spine G, λ x. stands_look G t x.1 x.2);
}
