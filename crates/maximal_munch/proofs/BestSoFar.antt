-- The best of the rules so far.
use Rattle.std.proofs.Common.{◌≡◌, ℕ, suc, ◌+◌, ◌<◌, ◌≤◌, ◌==◌, ◌⊎◌, true, false, List, [], ◌∷◌, length, get_or, inl, inr, ⊎_elim, sym, ap, ◌∙◌, subst, true≢false, arith}
use Rattle.std.proofs.lemmas.Bool.{cases_lt, cases_Bool, eqb-true}
use Rattle.std.specs.List.{list_any}
use Rattle.maximal_munch.specs.Munching.{IsBest, IsLongest, IsStuck}

-- what `IsBest` says, of the first i of the rules that are tried
pub record IsBestOf (len_of : ℕ → ℕ) (tried : List ℕ) (i k n : ℕ) : Type 0 where
  pub has : 0 < n → len_of k ≡ n
  pub longest : (d : ℕ) → d < i → len_of (get_or tried d 0) ≤ n
  pub first : (d : ℕ) → d < i → get_or tried d 0 < k → len_of (get_or tried d 0) < n
  pub none : n ≡ 0 → k ≡ 0

pub none_yet : {f : ℕ → ℕ} {tried : List ℕ} → IsBestOf f tried 0 0 0
none_yet = record { has = λ h. absurd (omega arith); longest = λ d lt. absurd (omega arith); first = λ d lt. absurd (omega arith); none = λ e. e }

-- where a rule is tried
place_of : (tried : List ℕ) (j : ℕ) → list_any (λ x. x == j) tried ≡ true → (d : ℕ) × (d < length tried) × (get_or tried d 0 ≡ j)
place_of [] j e = absurd (true≢false (sym e))
place_of (x ∷ xs) j e = elim (cases_Bool (x == j)) [
  | inl here ↦ (0, omega arith, eqb-true x j here)
  | inr there ↦ let later = place_of xs j (rw there at e) in (suc later.0, omega (arith, later.1), later.2)
]

module _ {f : ℕ → ℕ} {k n : ℕ} where
  pub longest_of : IsBest f k n → 0 < n → IsLongest f k n
  longest_of b some = record { nonempty = some; has = b.has some; longest = b.longest; first = b.first }

  pub stuck_of : IsBest f k n → n ≡ 0 → IsStuck f
  stuck_of b e j = let l = b.longest j in omega arith

  -- the rule that is tried next matches more, or as much and is before
  pub better : (tried : List ℕ) (i r m : ℕ) → r ≡ get_or tried i 0 → IsBestOf f tried i k n → f r ≡ m → (n < m) ⊎ ((m ≡ n) × (r < k)) → IsBestOf f tried (i + 1) r m
  better tried i r m at b is more = record {
    has = λ _. is;
    longest = λ d lt. elim (cases_lt d i) [
      | inl below ↦ let l = b.longest d below in ⊎_elim (λ h. omega arith) (λ h. omega (arith, h.0)) more
      | inr past ↦ let e : d ≡ i = omega arith in let same : f (get_or tried d 0) ≡ m = ap (λ x. f (get_or tried x 0)) e ∙ ap f (sym at) ∙ is in omega arith
    ];
    first = λ d lt before. elim (cases_lt d i) [
      | inl below ↦ let l = b.longest d below in ⊎_elim (λ h. omega arith) (λ h. let s = b.first d below (omega (arith, h.1)) in omega (arith, h.0)) more
      | inr past ↦ let e : d ≡ i = omega arith in let same : get_or tried d 0 ≡ r = ap (λ x. get_or tried x 0) e ∙ sym at in absurd (omega arith)
    ];
    none = λ e. ⊎_elim (λ h. absurd (omega arith)) (λ h. let z = b.none (omega (arith, h.0)) in absurd (omega (arith, h.1))) more;
  }

  -- it matches no more, and no less only where it is behind
  pub no_better : (tried : List ℕ) (i r m : ℕ) → r ≡ get_or tried i 0 → IsBestOf f tried i k n → f r ≡ m → m ≤ n → (m ≡ n → k ≤ r) → IsBestOf f tried (i + 1) k n
  no_better tried i r m at b is less behind = record {
    has = b.has;
    longest = λ d lt. elim (cases_lt d i) [
      | inl below ↦ b.longest d below
      | inr past ↦ let e : d ≡ i = omega arith in let same : f (get_or tried d 0) ≡ m = ap (λ x. f (get_or tried x 0)) e ∙ ap f (sym at) ∙ is in omega arith
    ];
    first = λ d lt before. elim (cases_lt d i) [
      | inl below ↦ b.first d below before
      | inr past ↦
          let e : d ≡ i = omega arith in
          let here : get_or tried d 0 ≡ r = ap (λ x. get_or tried x 0) e ∙ sym at in
          let same : f (get_or tried d 0) ≡ m = ap f here ∙ is in
          elim (cases_lt m n) [ inl lt' ↦ omega arith | inr ge ↦ let h = behind (omega arith) in absurd (omega arith) ]
    ];
    none = b.none;
  }

  -- all are tried that match
  pub best_of_all : (tried : List ℕ) (i : ℕ) → length tried ≤ i → IsBestOf f tried i k n → ((j : ℕ) → list_any (λ x. x == j) tried ≡ false → f j ≡ 0) → IsBest f k n
  best_of_all tried i all b none = record {
    has = b.has;
    longest = λ j. elim (cases_Bool (list_any (λ x. x == j) tried)) [
      | inl is ↦ let d = place_of tried j is in subst (λ x. f x ≤ n) d.2 (b.longest d.0 (omega (arith, d.1)))
      | inr not ↦ let z = none j not in omega arith
    ];
    first = λ j before. elim (cases_Bool (list_any (λ x. x == j) tried)) [
      | inl is ↦ let d = place_of tried j is in subst (λ x. f x < n) d.2 (b.first d.0 (omega (arith, d.1)) (omega (arith, d.2)))
      | inr not ↦ let z = none j not in elim (cases_lt 0 n) [ inl some ↦ omega arith | inr empty ↦ let h = b.none (omega arith) in absurd (omega arith) ]
    ];
  }

  -- one rule and one length
  pub one_length : {k' n' : ℕ} → IsLongest f k n → IsLongest f k' n' → n ≡ n'
  one_length {k'} {n'} a b = let p = a.longest k' in let q = b.longest k in let h = a.has in let h' = b.has in omega arith

  pub one_rule : {k' n' : ℕ} → IsLongest f k n → IsLongest f k' n' → k ≡ k'
  one_rule {k'} {n'} a b = elim (cases_lt k k') [
    | inl lt ↦ absurd (let p = b.first k lt in let q = a.has in let r = one_length a b in omega arith)
    | inr ge ↦ elim (cases_lt k' k) [
      | inl lt ↦ absurd (let p = a.first k' lt in let q = b.has in let r = one_length a b in omega arith)
      | inr le ↦ omega arith
    ]
  ]
