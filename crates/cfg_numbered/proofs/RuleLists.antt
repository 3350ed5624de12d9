-- The productions of a rule as a list.
use Rattle.std.proofs.Common.{◌≡◌, ◌≢◌, ℕ, zero, suc, ◌+◌, ◌<◌, ◌≤◌, List, [], ◌∷◌, ◌++◌, length, get_or, Bool, true, false, cond, refl, sym, ap, ◌∙◌, subst, arith, append-nil, inl, inr}
use Rattle.std.specs.Prelude.{map, set, filter, replicate, ◌==◌}
use Rattle.std.specs.List.{range_with_len, All, AllPairs, Contains}
use Rattle.std.proofs.lemmas.List.{get_or-set_same, get_or-set_other, length-set, length-replicate, get_or-replicate, length-map, map-set, map-append, get_or-map}
use Rattle.std.proofs.lemmas.List.Elements.{filter-append, filter_passes, All-contains, All-filter, Contains-append_right}
use Rattle.std.proofs.lemmas.List.FromFn.{length-range_with_len, get_or-range_with_len}
use Rattle.std.proofs.lemmas.List.Kept.{AllPairs-filter}
use Rattle.std.proofs.lemmas.Bool.{ne_eqb, eq-eqb, eqb-true, cases_eq}
use Rattle.cfg_theory.specs.Grammar.{Grammar, Production, head_of}
use Rattle.cfg_base.specs.declared.symbol.PIdx.{PIdx}
use Rattle.cfg_numbered.specs.Symbols.{numbers_of}
use Rattle.cfg_numbered.specs.Value.{productions_of}
use Rattle.cfg_numbered.specs.Info.{ListsBelow, ListsProductions, with_productions}

range_more : (a n : ℕ) → range_with_len a (suc n) ≡ range_with_len a n ++ (a + n) ∷ []
range_more a zero = let e : a ≡ a + 0 = omega arith in ap (λ k. k ∷ []) e
range_more a (suc n) = let e : (a + 1) + n ≡ a + suc n = omega arith in ap (λ l. a ∷ l) (range_more (a + 1) n ∙ ap (λ k. range_with_len (a + 1) n ++ k ∷ []) e)

range_next : (n : ℕ) → range_with_len 0 (n + 1) ≡ range_with_len 0 n ++ n ∷ []
range_next n =
    let e : n + 1 ≡ suc n = omega arith in
    let z : 0 + n ≡ n = omega arith in
    ap (range_with_len 0) e ∙ range_more 0 n ∙ ap (λ k. range_with_len 0 n ++ k ∷ []) z

module _ (G : Grammar) where
  -- none of the first none
  pub below_none : (lists : List (List ℕ)) → lists ≡ replicate G.rules [] → ListsBelow G 0 lists
  below_none lists e = record {
    count = ap length e ∙ length-replicate G.rules [];
    each = λ A lt. ap (λ l. get_or l A []) e ∙ get_or-replicate G.rules A [] [] lt;
  }

  one_more : (n A : ℕ) → filter (λ p. head_of G p == A) (range_with_len 0 (n + 1)) ≡ filter (λ p. head_of G p == A) (range_with_len 0 n) ++ cond (head_of G n == A) (n ∷ []) []
  one_more n A = ap (filter (λ p. head_of G p == A)) (range_next n) ∙ filter-append (λ p. head_of G p == A) (range_with_len 0 n) (n ∷ [])

  -- the next production is put last into its rule's list
  pub below_more : (n A : ℕ) (row : List ℕ) (lists : List (List ℕ)) → ListsBelow G n lists → A < G.rules → head_of G n ≡ A → row ≡ get_or lists A [] ++ n ∷ [] → ListsBelow G (n + 1) (set lists A row)
  below_more n A row lists below lt head made = record { count = length-set lists A row ∙ below.count; each = each }
    where
      within : A < length lists
      within = subst (λ k. A < k) (sym below.count) lt

      here : get_or (set lists A row) A [] ≡ filter (λ p. head_of G p == A) (range_with_len 0 (n + 1))
      here =
          let same : cond (head_of G n == A) (n ∷ []) [] ≡ n ∷ [] = rw head (rw (eq-eqb A A refl) refl) in
          get_or-set_same lists A row [] within ∙ made ∙ ap (λ l. l ++ n ∷ []) (below.each A lt) ∙ ap (λ l. filter (λ p. head_of G p == A) (range_with_len 0 n) ++ l) (sym same) ∙ sym (one_more n A)

      other : (B : ℕ) → B < G.rules → B ≢ A → get_or (set lists A row) B [] ≡ filter (λ p. head_of G p == B) (range_with_len 0 (n + 1))
      other B in_range ne =
          let not : (head_of G n == B) ≡ false = ne_eqb (head_of G n) B (λ e. ne (sym e ∙ head)) in
          let nothing : cond (head_of G n == B) (n ∷ []) [] ≡ [] = rw not refl in
          get_or-set_other lists A B row [] ne ∙ below.each B in_range ∙ sym (append-nil (filter (λ p. head_of G p == B) (range_with_len 0 n))) ∙ ap (λ l. filter (λ p. head_of G p == B) (range_with_len 0 n) ++ l) (sym nothing) ∙ sym (one_more n B)

      each : (B : ℕ) → B < G.rules → get_or (set lists A row) B [] ≡ filter (λ p. head_of G p == B) (range_with_len 0 (n + 1))
      each B in_range = elim (cases_eq B A) [ inl e ↦ subst (λ C. get_or (set lists A row) C [] ≡ filter (λ p. head_of G p == C) (range_with_len 0 (n + 1))) (sym e) here | inr ne ↦ other B in_range ne ]

-- only the rules and the productions matter
pub lists_of_any : (rules tokens start : ℕ) (ps : List Production) (lists : List (List ℕ)) → ListsProductions (with_productions rules ps) lists → ListsProductions (record { rules = rules; tokens = tokens; productions = ps; start = start }) lists
unfolding head_of
lists_of_any rules tokens start ps lists h = record { count = h.count; each = h.each }

-- all of them
pub all_below : {X : Type 0} (view : X → Production) (rules n : ℕ) (ps : List X) (lists : List (List ℕ)) → length ps ≤ n → n ≤ length ps → ListsBelow (with_productions rules (map view ps)) n lists → ListsProductions (with_productions rules (map view ps)) lists
all_below view rules n ps lists le ge h =
    let e : n ≡ length (map view ps) = let len = length-map ps view in omega (arith, len, le, ge) in
    record { count = h.count; each = λ A lt. h.each A lt ∙ ap (λ k. filter (λ p. head_of (with_productions rules (map view ps)) p == A) (range_with_len 0 k)) e }

-- a production's number is put last into the list of its rule
pub put_last : {V : Type 0} (G : Grammar) (n r : ℕ) (vs : List V) (old new : V) (f : V → List ℕ) → ListsBelow G n (map f vs) → r < G.rules → head_of G n ≡ r → old ≡ get_or vs r old → f new ≡ f old ++ n ∷ [] → ListsBelow G (n + 1) (map f (set vs r new))
put_last G n r vs old new f below lt head is made =
    let len = length-map vs f in
    let count = below.count in
    let within : r < length vs = omega (arith, len, count, lt) in
    let row : f new ≡ get_or (map f vs) r [] ++ n ∷ [] = made ∙ ap (λ l. l ++ n ∷ []) (ap f is ∙ sym (get_or-map f vs r old [] within)) in
    subst (ListsBelow G (n + 1)) (sym (map-set f vs r new)) (below_more G n r (f new) (map f vs) below lt head row)

pub numbers_push : {S : Type 0} (number : S → ℕ) (xs : List (PIdx S)) (x : PIdx S) (n : ℕ) → number x.0 ≡ n → numbers_of number (xs ++ x ∷ []) ≡ numbers_of number xs ++ n ∷ []
numbers_push number xs x n e = map-append (λ (p : PIdx _). number p.0) xs (x ∷ []) ∙ ap (λ k. numbers_of number xs ++ k ∷ []) e

-- What a filter keeps.
module _ {X : Type 0} (p : X → Bool) where
  behind : (y : X) (ys : List X) (x : X) → Contains (filter p ys) x → Contains (filter p (y ∷ ys)) x
  behind y ys x h = by (p y)
    where
      by : (b : Bool) → Contains (cond b (y ∷ filter p ys) (filter p ys)) x
      by true = Contains-append_right (y ∷ []) (filter p ys) x h
      by false = h

  kept : (xs : List X) (x : X) (k : ℕ) → p x ≡ true → k < length xs → get_or xs k x ≡ x → Contains (filter p xs) x
  kept [] x k t lt e = absurd (omega (arith, lt))
  kept (y ∷ ys) x zero t lt e = subst (λ l. Contains l x) (sym (ap (λ b. cond b (y ∷ filter p ys) (filter p ys)) (ap p e ∙ t))) (0, omega arith, e)
  kept (y ∷ ys) x (suc k) t lt e = behind y ys x (kept ys x k t (omega (arith, lt)) e)

in_range : (n k d : ℕ) → k < n → get_or (range_with_len 0 n) k d ≡ k
in_range n k d lt = let zero_more : 0 + k ≡ k = omega arith in get_or-range_with_len 0 n k d lt ∙ zero_more

-- each production stands in the list of its rule
pub listed : (G : Grammar) (p : ℕ) → p < length G.productions → Contains (productions_of G (head_of G p)) p
listed G p lt =
    let len = length-range_with_len 0 (length G.productions) in
    kept (λ q. head_of G q == head_of G p) (range_with_len 0 (length G.productions)) p p (eq-eqb (head_of G p) (head_of G p) refl) (omega (arith, lt, len)) (in_range (length G.productions) p p lt)

-- and in no other
below_all : (n : ℕ) → All (λ p. p < n) (range_with_len 0 n)
below_all n = λ k d lt. let len = length-range_with_len 0 n in let low : k < n = omega (arith, lt, len) in subst (λ q. q < n) (sym (in_range n k d low)) low

pub alone : (G : Grammar) (A p : ℕ) → Contains (productions_of G A) p → (p < length G.productions) × (head_of G p ≡ A)
alone G A p h =
    let range = range_with_len 0 (length G.productions) in (
      All-contains (λ q. q < length G.productions) (productions_of G A) p (All-filter (λ q. head_of G q == A) (λ q. q < length G.productions) range (below_all (length G.productions))) h,
      eqb-true (head_of G p) A (All-contains (λ q. (head_of G q == A) ≡ true) (productions_of G A) p (filter_passes (λ q. head_of G q == A) range) h),
    )

-- in ascending order
range_ascends : (n : ℕ) → AllPairs (λ p q. p < q) (range_with_len 0 n)
range_ascends n = λ i j d lt within.
    let len = length-range_with_len 0 n in
    let high : j < n = omega (arith, within, len) in
    let low : i < n = omega (arith, lt, high) in
    let a = in_range n i d low in
    let b = in_range n j d high in
    omega (arith, a, b, lt)

pub ascending : (G : Grammar) (A : ℕ) → AllPairs (λ p q. p < q) (productions_of G A)
ascending G A = AllPairs-filter (λ p q. p < q) (λ q. head_of G q == A) (range_with_len 0 (length G.productions)) (range_ascends (length G.productions))
