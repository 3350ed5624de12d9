-- New numbers for the states that stay.
use Rattle.std.proofs.Common.{◌≡◌, ℕ, ◌+◌, ◌<◌, ◌≤◌, inl, inr, Bool, true, false, List, [], ◌∷◌, ◌++◌, length, get_or, set, refl, sym, ◌∙◌, subst, arith, length-append}
use Rattle.std.specs.Prelude.{IsTrue}
use Rattle.std.proofs.lemmas.Bool.{cases_eq, cases_lt}
use Rattle.std.proofs.lemmas.List.{get_or_append_left, get_or_past, get_or_push}
use Rattle.std.proofs.lemmas.List.Elements.{Contains-get_or, Contains-push_cases}
use Rattle.std.proofs.lemmas.List.Quantifiers.{all_pairs_push}
use Rattle.vob.specs.Sets.{is_set}
use Rattle.lrtable.specs.Pruning.{AreNumbered}

never : false ≡ true → ⊥
never e = cc

pub numbered_none : (flags : List Bool) → AreNumbered flags 0 [] []
numbered_none flags = record {
  size = refl;
  few = omega arith;
  low = λ s. omega arith;
  ascends = λ i j d lt within. absurd (omega (arith, within));
  marked = λ k x. (let lt = x.1 in absurd (omega (arith, lt)));
  number = λ s lt h. absurd (omega (arith, lt));
}

module _ (flags : List Bool) (n : ℕ) (kept numbers : List ℕ) (h : AreNumbered flags n kept numbers) where
  -- the number of an earlier state
  earlier : (s c : ℕ) → s < n → get_or (numbers ++ c ∷ []) s 0 ≡ get_or numbers s 0
  earlier s c lt = get_or_append_left numbers (c ∷ []) 0 s (let z = h.size in omega (arith, z, lt))

  here : (c : ℕ) → get_or (numbers ++ c ∷ []) n 0 ≡ c
  here c = get_or_push numbers c 0 n h.size

  longer : (c : ℕ) → length (numbers ++ c ∷ []) ≡ n + 1
  longer c = let m = length-append numbers (c ∷ []) in let z = h.size in omega (arith, m, z)

  -- no number is more than how many are kept
  low_push : (s c top : ℕ) → length kept ≤ top → c ≤ top → get_or (numbers ++ c ∷ []) s 0 ≤ top
  low_push s c top more le = elim (cases_lt s n) [
    | inl lt ↦ subst (λ k. k ≤ top) (sym (earlier s c lt)) (let l = h.low s in omega (arith, l, more))
    | inr ge ↦ elim (cases_eq s n) [
      | inl q ↦ subst (λ j. get_or (numbers ++ c ∷ []) j 0 ≤ top) (sym q) (subst (λ k. k ≤ top) (sym (here c)) le)
      | inr ne ↦ subst (λ k. k ≤ top) (sym (get_or_past (numbers ++ c ∷ []) s 0 (let z = longer c in omega (arith, z, ge, ne)))) (omega arith)
    ]
  ]

  -- the next state isn't marked
  pub numbered_left : (c : ℕ) → c ≡ length kept → is_set flags n ≡ false → AreNumbered flags (n + 1) kept (numbers ++ c ∷ [])
  numbered_left c e free = record {
    size = longer c;
    few = (let f = h.few in omega (arith, f));
    low = λ s. low_push s c (length kept) (omega arith) (omega (arith, e));
    ascends = h.ascends;
    marked = λ k x. (let m = h.marked k x in let lt = m.0 in (omega (arith, lt), m.1));
    number = λ s lt x. elim (cases_eq s n) [
      | inl q ↦ absurd (never (sym free ∙ subst (λ k. IsTrue (is_set flags k)) q x))
      | inr ne ↦ (let l : s < n = omega (arith, lt, ne) in subst (λ k. (k < length kept) × (get_or kept k 0 ≡ s)) (sym (earlier s c l)) (h.number s l x))
    ];
  }

  -- it is
  pub numbered_kept : (c : ℕ) → c ≡ length kept → IsTrue (is_set flags n) → AreNumbered flags (n + 1) (kept ++ n ∷ []) (numbers ++ c ∷ [])
  numbered_kept c e set = record {
    size = longer c;
    few = (let f = h.few in let m = more in omega (arith, f, m));
    low = λ s. (let m = more in low_push s c (length (kept ++ n ∷ [])) (omega (arith, m)) (omega (arith, m, e)));
    ascends = all_pairs_push (λ j k. j < k) kept n h.ascends (λ k d l. (h.marked (get_or kept k d) (Contains-get_or kept k d l)).0);
    marked = λ k x. elim (Contains-push_cases kept n k x) [
      | inl y ↦ (let m = h.marked k y in let lt = m.0 in (omega (arith, lt), m.1))
      | inr q ↦ (omega (arith, q), subst (λ k. IsTrue (is_set flags k)) q set)
    ];
    number = λ s lt x. elim (cases_eq s n) [
      | inl q ↦ subst (λ k. (get_or (numbers ++ c ∷ []) k 0 < length (kept ++ n ∷ [])) × (get_or (kept ++ n ∷ []) (get_or (numbers ++ c ∷ []) k 0) 0 ≡ k)) (sym q) last
      | inr ne ↦ (let l : s < n = omega (arith, lt, ne) in subst (λ k. (k < length (kept ++ n ∷ [])) × (get_or (kept ++ n ∷ []) k 0 ≡ s)) (sym (earlier s c l)) (old s l x))
    ];
  }
    where
      more : length (kept ++ n ∷ []) ≡ length kept + 1
      more = length-append kept (n ∷ [])

      last : (get_or (numbers ++ c ∷ []) n 0 < length (kept ++ n ∷ [])) × (get_or (kept ++ n ∷ []) (get_or (numbers ++ c ∷ []) n 0) 0 ≡ n)
      last = subst (λ k. (k < length (kept ++ n ∷ [])) × (get_or (kept ++ n ∷ []) k 0 ≡ n)) (sym (here c)) ((let m = more in omega (arith, m, e)), get_or_push kept n 0 c (sym e))

      old : (s : ℕ) → s < n → IsTrue (is_set flags s) → (get_or numbers s 0 < length (kept ++ n ∷ [])) × (get_or (kept ++ n ∷ []) (get_or numbers s 0) 0 ≡ s)
      old s l x = let (lt, at) = h.number s l x in ((let m = more in omega (arith, m, lt)), get_or_append_left kept (n ∷ []) 0 (get_or numbers s 0) lt ∙ at)
