-- A rule to which something came is put with those that wait, and the first of them is taken.
use Rattle.std.proofs.Common.{◌≡◌, ℕ, ◌+◌, ◌<◌, inl, inr, ◌↔◌, Bool, true, List, [], ◌∷◌, ◌++◌, length, length-append, refl, subst, arith}
use Rattle.std.specs.List.{Contains}
use Rattle.std.proofs.lemmas.Bool.{cases_eq}
use Rattle.std.proofs.lemmas.List.Elements.{Contains-append_left, Contains-append_right, Contains-append_cases, Contains-push, Contains-push_cases}
use Rattle.lrtable.specs.Opening.{Front, RuleSets, Brings, StaysAt, FrontStep, Follows, Underway}
use Rattle.lrtable.specs.Waits.{WaitsToo}

pub put_waiting : (e : Front) (looks : List Bool) (old new : RuleSets) (was now : List ℕ) → e.rule < length old.opened → FrontStep looks e old new true → WaitsToo e.rule was now → Follows (λ A. e.rule ≡ A) (λ A t. (e.rule ≡ A) × Brings looks e t) old new was now
put_waiting e looks old new was now lt s w = record {
  comes = s.comes;
  still_waits = w.still;
  told = λ A. elim (cases_eq e.rule A) [ inl q ↦ inl (subst (λ B. Contains now B) q w.there) | inr ne ↦ inr (others A ne) ];
  new_open = λ A h. elim (w.only A h) [ inl u ↦ inl u | inr q ↦ inr (s.comes.rules A q, subst (λ B. B < length new.opened) q (let n = s.comes.sizes.opened in omega (arith, n, lt))) ];
  fewer = let q = s.fewer refl in let n = w.count in omega (arith, q, n);
}
  where
    others : (A : ℕ) → (e.rule ≡ A → ⊥) → StaysAt A old new
    others A ne = record {
      rules = λ h. elim (s.comes.only_rules A h) [ inl u ↦ u | inr q ↦ absurd (ne q) ];
      looks = λ t h. elim (s.comes.only_looks A t h) [ inl u ↦ u | inr q ↦ absurd (ne q.0) ];
    }

none : (B : ℕ) → Contains [] B → ⊥
none B h = let lt = h.1 in omega (arith, lt)

in_one : (A B : ℕ) → Contains (A ∷ []) B → A ≡ B
in_one A B h = elim (Contains-push_cases [] A B h) [ inl u ↦ absurd (none B u) | inr q ↦ q ]

pub put_last : (A : ℕ) (xs : List ℕ) → WaitsToo A xs (xs ++ A ∷ [])
put_last A xs = record {
  still = λ B k. Contains-append_left xs (A ∷ []) B k;
  there = Contains-push xs A;
  only = λ B h. Contains-push_cases xs A B h;
  count = let n = length-append xs (A ∷ []) in omega (arith, n);
}

pub waits_already : (A : ℕ) (xs : List ℕ) → Contains xs A → WaitsToo A xs xs
waits_already A xs h = record { still = λ B k. k; there = h; only = λ B k. inl k; count = (let n = length xs in omega (arith, n)) }

-- it doesn't matter in which order rules wait, nor how often
same_waiting : (fronts : List (List Front)) (from s : RuleSets) (xs ys : List ℕ) → ((B : ℕ) → Contains xs B ↔ Contains ys B) → Underway fronts from s xs → Underway fronts from s ys
same_waiting fronts from s xs ys same u = record {
  sizes = u.sizes;
  grows = u.grows;
  sound_rules = u.sound_rules;
  sound_looks = u.sound_looks;
  in_range = λ B h. u.in_range B ((same B).1 h);
  are_open = λ B h. u.are_open B ((same B).1 h);
  closed = λ B o. elim (u.closed B o) [ inl h ↦ inl ((same B).0 h) | inr k ↦ inr k ];
}

pub first_or_last : (fronts : List (List Front)) (from s : RuleSets) (A : ℕ) (xs : List ℕ) → Underway fronts from s (A ∷ xs) → Underway fronts from s (xs ++ A ∷ [])
first_or_last fronts from s A xs = same_waiting fronts from s (A ∷ xs) (xs ++ A ∷ []) (λ B. (to B, back B))
  where
    back : (B : ℕ) → Contains (xs ++ A ∷ []) B → Contains (A ∷ xs) B
    back B h = elim (Contains-push_cases xs A B h) [ inl k ↦ Contains-append_right (A ∷ []) xs B k | inr q ↦ subst (Contains (A ∷ xs)) q (Contains-append_left (A ∷ []) xs A (Contains-push [] A)) ]

    to : (B : ℕ) → Contains (A ∷ xs) B → Contains (xs ++ A ∷ []) B
    to B h = elim (Contains-append_cases (A ∷ []) xs B h) [ inl q ↦ subst (Contains (xs ++ A ∷ [])) (in_one A B q) (Contains-push xs A) | inr k ↦ Contains-append_left xs (A ∷ []) B k ]

pub waits_alone : (fronts : List (List Front)) (from s : RuleSets) (A : ℕ) (xs ys : List ℕ) → xs ≡ [] → WaitsToo A xs ys → Underway fronts from s (A ∷ []) → Underway fronts from s ys
waits_alone fronts from s A xs ys e w = same_waiting fronts from s (A ∷ []) ys (λ B. (to B, back B))
  where
    to : (B : ℕ) → Contains (A ∷ []) B → Contains ys B
    to B h = subst (Contains ys) (in_one A B h) w.there

    back : (B : ℕ) → Contains ys B → Contains (A ∷ []) B
    back B h = elim (w.only B h) [ inl k ↦ absurd (none B (subst (λ l. Contains l B) e k)) | inr q ↦ subst (Contains (A ∷ [])) q (Contains-push [] A) ]
