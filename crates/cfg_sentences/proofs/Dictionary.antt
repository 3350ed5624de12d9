-- The dictionary order, and lists that are kept in it.
use Rattle.std.proofs.Common.{◌≡◌, ℕ, zero, suc, ◌+◌, ◌-◌, ◌<◌, ◌≤◌, ◌⊎◌, inl, inr, ◌↔◌, Bool, true, false, ◌||◌, List, [], ◌∷◌, ◌++◌, length, get_or, take, drop, map, refl, sym, ap, ◌∙◌, subst, arith}
use Rattle.std.specs.Prelude.{Contains, AllPairs}
use Rattle.std.specs.List.{insert}
use Rattle.std.proofs.lemmas.Bool.{cases_eq, cases_lt}
use Rattle.std.proofs.lemmas.List.{length-map, drop_all}
use Rattle.std.proofs.lemmas.List.Edits.{length-insert, get_or-insert_below, get_or-insert_at, get_or-insert_above}
use Rattle.cfg_theory.specs.Cost.{IsBefore}
use Rattle.cfg_theory.proofs.FirstLists.{before_on}
use Rattle.std.specs.declared.alloc.Global.{Global}
use Rattle.std.specs.declared.vec.Vec.{Vec}
use Rattle.std.proofs.lemmas.List.{map-append, take-map, drop-map, take_more, flat_map_more}
use Rattle.cfg_base.specs.declared.symbol.TIdx.{TIdx}
use Rattle.cfg_sentences.specs.TokenLists.{tokens_of, lists_of, joined, spare, AddsLists, BelongsAt}

-- the order by the lists' first tokens
abbrev pub Before : List ℕ → List ℕ → Type 0
Before [] [] = ⊥
Before [] (u ∷ w) = Unit {0}
Before (t ∷ v) [] = ⊥
Before (t ∷ v) (u ∷ w) = (t < u) ⊎ ((t ≡ u) × Before v w)

to_before : {v w : List ℕ} → IsBefore v w → Before v w
to_before IsBefore.shorter = tt
to_before (IsBefore.smaller lt) = inl lt
to_before (IsBefore.later h) = inr (refl, to_before h)

of_before : (v w : List ℕ) → Before v w → IsBefore v w
of_before [] [] h = absurd h
of_before [] (u ∷ w) h = IsBefore.shorter
of_before (t ∷ v) [] h = absurd h
of_before (t ∷ v) (u ∷ w) (inl lt) = IsBefore.smaller lt
of_before (t ∷ v) (u ∷ w) (inr (e, h)) = subst (λ k. IsBefore (t ∷ v) (k ∷ w)) e (IsBefore.later (of_before v w h))

pub as_before : (v w : List ℕ) → Before v w ↔ IsBefore v w
as_before v w = (of_before v w, λ h. to_before h)

alike : (u v : List ℕ) → (Before u v → ⊥) → (Before v u → ⊥) → u ≡ v
alike [] [] n m = refl
alike [] (t ∷ v) n m = absurd (n tt)
alike (s ∷ u) [] n m = absurd (m tt)
alike (s ∷ u) (t ∷ v) n m =
    let a : t ≤ s = elim (cases_lt s t) [ inl lt ↦ absurd (n (inl lt)) | inr le ↦ le ] in
    let b : s ≤ t = elim (cases_lt t s) [ inl lt ↦ absurd (m (inl lt)) | inr le ↦ le ] in
    let e : s ≡ t = omega arith in
    ap (λ x. x ∷ u) e ∙ ap (λ l. t ∷ l) (alike u v (λ h. n (inr (e, h))) (λ h. m (inr (sym e, h))))

pub same_if : (u v : List ℕ) → (IsBefore u v → ⊥) → (IsBefore v u → ⊥) → u ≡ v
same_if u v n m = alike u v (λ h. n (of_before u v h)) (λ h. m (of_before v u h))

-- ---- the rests of two lists

drop_mapped : {X : Type 0} (f : X → ℕ) (xs : List X) (i : ℕ) (x : X) → i < length xs → x ≡ get_or xs i x → drop i (map f xs) ≡ f x ∷ drop (suc i) (map f xs)
drop_mapped f [] i x lt e = absurd (omega (arith, lt))
drop_mapped f (y ∷ xs) zero x lt e = ap (λ z. f z ∷ map f xs) (sym e)
drop_mapped f (y ∷ xs) (suc i) x lt e = drop_mapped f xs i x (omega (arith, lt)) e

pub drop_tokens : {S : Type 0} (number : S → ℕ) (xs : List (TIdx S)) (i : ℕ) (x : TIdx S) → i < length xs → x ≡ get_or xs i x → drop i (tokens_of number xs) ≡ number x.0 ∷ drop (suc i) (tokens_of number xs)
drop_tokens {S} number xs i x lt e = drop_mapped (λ (t : TIdx S). number t.0) xs i x lt e

pub read_is : {S : Type 0} (number : S → ℕ) (k : ℕ) (x : TIdx S) {y : TIdx S} → x ≡ y → k ≡ number y.0 → k ≡ number x.0
read_is {S} number k x e is = is ∙ ap (λ (t : TIdx S). number t.0) (sym e)

pub tokens_count : {S : Type 0} (number : S → ℕ) (xs : List (TIdx S)) → length (tokens_of number xs) ≡ length xs
tokens_count {S} number xs = length-map xs (λ (t : TIdx S). number t.0)

pub lists_count : {S : Type 0} (number : S → ℕ) (xs : List (Vec (TIdx S) Global)) → length (lists_of number xs) ≡ length xs
lists_count {S} number xs = length-map xs (λ (l : Vec (TIdx S) Global). tokens_of number l.items)

-- a list by its index
pub list_at : {S : Type 0} (number : S → ℕ) (xs : List (Vec (TIdx S) Global)) (i : ℕ) (x : Vec (TIdx S) Global) (s : List (TIdx S)) → i < length xs → x ≡ get_or xs i x → s ≡ x.items → tokens_of number s ≡ get_or (lists_of number xs) i []
list_at {S} number xs i x s lt e is = ap (tokens_of number) is ∙ at_place xs i x lt e
  where
    at_place : (l : List (Vec (TIdx S) Global)) (k : ℕ) (y : Vec (TIdx S) Global) → k < length l → y ≡ get_or l k y → tokens_of number y.items ≡ get_or (lists_of number l) k []
    at_place [] k y less q = absurd (omega (arith, less))
    at_place (z ∷ l) zero y less q = ap (λ (v : Vec (TIdx S) Global). tokens_of number v.items) q
    at_place (z ∷ l) (suc k) y less q = at_place l k y (omega (arith, less)) q

module _ (A B : List ℕ) (i x y : ℕ) (a : drop i A ≡ x ∷ drop (suc i) A) (b : drop i B ≡ y ∷ drop (suc i) B) (rests : Before (drop i A) (drop i B) ↔ IsBefore A B) where
  here : Before (x ∷ drop (suc i) A) (y ∷ drop (suc i) B) ↔ IsBefore A B
  here = subst (λ l. Before l (y ∷ drop (suc i) B) ↔ IsBefore A B) a (subst (λ l. Before (drop i A) l ↔ IsBefore A B) b rests)

  pub less_here : x < y → IsBefore A B
  less_here lt = here.0 (inl lt)

  pub more_here : y < x → IsBefore A B → ⊥
  more_here lt h = elim (here.1 h) [ inl le ↦ (let z : ⊥ = absurd (omega (arith, le, lt)) in z) | inr r ↦ (let e = r.0 in let z : ⊥ = absurd (omega (arith, e, lt)) in z) ]

  pub same_here : y ≤ x → x ≤ y → Before (drop (i + 1) A) (drop (i + 1) B) ↔ IsBefore A B
  same_here le ge =
      let n : suc i ≡ i + 1 = omega arith in
      let e : x ≡ y = omega (arith, le, ge) in
      subst (λ k. Before (drop k A) (drop k B) ↔ IsBefore A B) n ((λ h. here.0 (inr (e, h))), λ h. elim (here.1 h) [ inl lt ↦ absurd (omega (arith, lt, e)) | inr r ↦ r.1 ])

-- where the first list ends
pub at_end : (A B : List ℕ) (i : ℕ) → length A ≤ i → (Before (drop i A) (drop i B) ↔ IsBefore A B) → (i < length B) ↔ IsBefore A B
at_end A B i le rests = ((λ lt. own.0 (longer B i lt)), λ h. shorter_of B i (own.1 h))
  where
    own : Before [] (drop i B) ↔ IsBefore A B
    own = subst (λ l. Before l (drop i B) ↔ IsBefore A B) (drop_all i A le) rests

    longer : (l : List ℕ) (k : ℕ) → k < length l → Before [] (drop k l)
    longer [] k lt = absurd (omega (arith, lt))
    longer (z ∷ l) zero lt = tt
    longer (z ∷ l) (suc k) lt = longer l k (omega (arith, lt))

    shorter_of : (l : List ℕ) (k : ℕ) → Before [] (drop k l) → k < length l
    shorter_of [] zero h = absurd h
    shorter_of [] (suc k) h = absurd h
    shorter_of (z ∷ l) zero h = omega arith
    shorter_of (z ∷ l) (suc k) h = let lt = shorter_of l k h in omega (arith, lt)

-- where the second one does
pub at_other_end : (A B : List ℕ) (i : ℕ) → length B ≤ i → (Before (drop i A) (drop i B) ↔ IsBefore A B) → IsBefore A B → ⊥
at_other_end A B i le rests h = nothing (drop i A) (subst (Before (drop i A)) (drop_all i B le) (rests.1 h))
  where
    nothing : (l : List ℕ) → Before l [] → ⊥
    nothing [] k = k
    nothing (z ∷ l) k = k

-- ---- halves of lists in order

pub any_default : (V : List (List ℕ)) (k : ℕ) (d e : List ℕ) → k < length V → get_or V k d ≡ get_or V k e
any_default [] k d e lt = absurd (omega (arith, lt))
any_default (v ∷ V) zero d e lt = refl
any_default (v ∷ V) (suc k) d e lt = any_default V k d e (omega (arith, lt))

module _ (V : List (List ℕ)) (W : List ℕ) (ordered : AllPairs IsBefore V) (m : ℕ) (lt : m < length V) where
  pub all_before : IsBefore (get_or V m []) W → (k : ℕ) → k < m + 1 → IsBefore (get_or V k []) W
  all_before h k less = elim (cases_eq k m) [
    | inl e ↦ subst (λ i. IsBefore (get_or V i []) W) (sym e) h
    | inr ne ↦ before_on (get_or V k []) (get_or V m []) W (ordered k m [] (omega (arith, ne, less)) lt) h
  ]

  pub none_behind : (IsBefore (get_or V m []) W → ⊥) → (k : ℕ) → m ≤ k → k < length V → IsBefore (get_or V k []) W → ⊥
  none_behind not k le less h = elim (cases_eq k m) [
    | inl e ↦ not (subst (λ i. IsBefore (get_or V i []) W) e h)
    | inr ne ↦ not (before_on (get_or V m []) (get_or V k []) W (ordered m k [] (omega (arith, ne, le)) less) h)
  ]

  pub all_behind : IsBefore W (get_or V m []) → (k : ℕ) → m ≤ k → k < length V → IsBefore W (get_or V k [])
  all_behind h k le less = elim (cases_eq k m) [
    | inl e ↦ subst (λ i. IsBefore W (get_or V i [])) (sym e) h
    | inr ne ↦ before_on W (get_or V m []) (get_or V k []) h (ordered m k [] (omega (arith, ne, le)) less)
  ]

-- ---- one more list

module _ (V : List (List ℕ)) (W : List ℕ) (n : ℕ) (h : BelongsAt V W n) where
  at : (k : ℕ) → k < length V + 1 → ((k < n) × (get_or (insert V n W) k [] ≡ get_or V k [])) ⊎ (((k ≡ n) × (get_or (insert V n W) k [] ≡ W)) ⊎ ((i : ℕ) × (k ≡ i + 1) × (n ≤ i) × (get_or (insert V n W) k [] ≡ get_or V i [])))
  at k lt = elim (cases_lt k n) [
    | inl less ↦ inl (less, get_or-insert_below V n W [] k less h.within)
    | inr le ↦ elim (cases_eq k n) [
      | inl e ↦ inr (inl (e, subst (λ i. get_or (insert V n W) i [] ≡ W) (sym e) (get_or-insert_at V n W [] h.within)))
      | inr ne ↦ (let q : k ≡ (k - 1) + 1 = omega (arith, ne, le) in let ge : n ≤ k - 1 = omega (arith, ne, le) in inr (inr (k - 1, q, ge, subst (λ i. get_or (insert V n W) i [] ≡ get_or V (k - 1) []) (sym q) (get_or-insert_above V n W [] (k - 1) ge h.within))))
    ]
  ]

  count : length (insert V n W) ≡ length V + 1
  count = length-insert V n W h.within

  pub sound_insert : (v : List ℕ) → Contains (insert V n W) v → Contains V v ⊎ (v ≡ W)
  sound_insert v (k, lt, e) =
      let less : k < length V + 1 = subst (λ i. k < i) count lt in
      let q : get_or (insert V n W) k [] ≡ v = any_default (insert V n W) k [] v lt ∙ e in
      elim (at k less) [
        | inl a ↦ (let within : k < length V = let x = a.0 in let y = h.within in omega (arith, x, y) in inl (k, within, any_default V k v [] within ∙ sym a.1 ∙ q))
        | inr b ↦ elim b [
          | inl c ↦ inr (sym q ∙ c.1)
          | inr d ↦ (let within : d.0 < length V = let x = d.1 in omega (arith, x, less) in inl (d.0, within, any_default V d.0 v [] within ∙ sym d.3 ∙ q))
        ]
      ]

  pub kept_insert : (v : List ℕ) → Contains V v → Contains (insert V n W) v
  kept_insert v (k, lt, e) = elim (cases_lt k n) [
    | inl less ↦ found k (omega (arith, lt)) (get_or-insert_below V n W [] k less h.within ∙ any_default V k [] v lt ∙ e)
    | inr le ↦ found (k + 1) (omega (arith, lt)) (get_or-insert_above V n W [] k le h.within ∙ any_default V k [] v lt ∙ e)
  ]
    where
      found : (i : ℕ) → i < length V + 1 → get_or (insert V n W) i [] ≡ v → Contains (insert V n W) v
      found i less q = let within : i < length (insert V n W) = subst (λ m. i < m) (sym count) less in (i, within, any_default (insert V n W) i v [] within ∙ q)

  pub here_insert : Contains (insert V n W) W
  here_insert = let low = h.within in let within : n < length (insert V n W) = subst (λ m. n < m) (sym count) (omega (arith, low)) in (n, within, get_or-insert_at V n W W h.within)

  pub adds_one : length (insert V n W) ≤ 18446744073709551615 → AddsLists (λ v. v ≡ W) V (insert V n W) true
  adds_one room = record {
    kept = kept_insert;
    only = sound_insert;
    here = λ v e. subst (Contains (insert V n W)) (sym e) here_insert;
    still = λ e. cc;
    fewer = λ e. let c = count in omega (arith, c, room);
  }

  carry : {x y u v : List ℕ} → x ≡ u → y ≡ v → IsBefore u v → IsBefore x y
  carry {x} {y} {u} {v} e f h = subst (λ l. IsBefore l y) (sym e) (subst (IsBefore u) (sym f) h)

  abbrev Spot : ℕ → Type 0
  Spot k = ((k < n) × (get_or (insert V n W) k [] ≡ get_or V k [])) ⊎ (((k ≡ n) × (get_or (insert V n W) k [] ≡ W)) ⊎ ((i : ℕ) × (k ≡ i + 1) × (n ≤ i) × (get_or (insert V n W) k [] ≡ get_or V i [])))

  module _ (ordered : AllPairs IsBefore V) where
    pairs : (i j : ℕ) → i < j → j < length V + 1 → Spot i → Spot j → IsBefore (get_or (insert V n W) i []) (get_or (insert V n W) j [])
    pairs i j lt less (inl (a, p)) (inl (b, q)) = carry p q (ordered i j [] lt (let w = h.within in omega (arith, b, w)))
    pairs i j lt less (inl (a, p)) (inr (inl (b, q))) = carry p q (h.before i a)
    pairs i j lt less (inl (a, p)) (inr (inr (k, e, le, q))) = carry p q (ordered i k [] (omega (arith, a, le)) (omega (arith, e, less)))
    pairs i j lt less (inr (inl (a, p))) (inl (b, q)) = absurd (omega (arith, a, b, lt))
    pairs i j lt less (inr (inl (a, p))) (inr (inl (b, q))) = absurd (omega (arith, a, b, lt))
    pairs i j lt less (inr (inl (a, p))) (inr (inr (k, e, le, q))) = carry p q (h.behind k le (omega (arith, e, less)))
    pairs i j lt less (inr (inr (k, e, le, p))) (inl (b, q)) = absurd (omega (arith, e, le, b, lt))
    pairs i j lt less (inr (inr (k, e, le, p))) (inr (inl (b, q))) = absurd (omega (arith, e, le, b, lt))
    pairs i j lt less (inr (inr (k, e, le, p))) (inr (inr (m, f, ge, q))) = carry p q (ordered k m [] (omega (arith, e, f, lt)) (omega (arith, f, less)))

    pub ordered_insert : AllPairs IsBefore (insert V n W)
    ordered_insert i j d lt less =
        let top : j < length V + 1 = subst (λ k. j < k) count less in
        let low : i < length V + 1 = omega (arith, lt, top) in
        let low' : i < length (insert V n W) = omega (arith, lt, less) in
        carry (any_default (insert V n W) i d [] low') (any_default (insert V n W) j d [] less) (pairs i j lt top (at i low) (at j top))

-- lists of tokens with one more
module _ {S : Type 0} (number : S → ℕ) (xs new : List (Vec (TIdx S) Global)) (copy : Vec (TIdx S) Global) (n : ℕ) (w : List (TIdx S)) (is : new ≡ insert xs n copy) (same : copy.items ≡ w) where
  with_list : lists_of number new ≡ insert (lists_of number xs) n (tokens_of number w)
  with_list =
      let f = λ (l : Vec (TIdx S) Global). tokens_of number l.items in
      ap (lists_of number) is ∙ map-append f (take n xs) (copy ∷ drop n xs)
      ∙ ap (λ l. l ++ (tokens_of number copy.items ∷ map f (drop n xs))) (sym (take-map f n xs))
      ∙ ap (λ l. take n (lists_of number xs) ++ (tokens_of number copy.items ∷ l)) (sym (drop-map f n xs))
      ∙ ap (λ l. take n (lists_of number xs) ++ (l ∷ drop n (lists_of number xs))) (ap (tokens_of number) same)

  module _ (s : List (Vec (TIdx S) Global)) (e : s ≡ xs) (h : BelongsAt (lists_of number s) (tokens_of number w) n) where
    here' : BelongsAt (lists_of number xs) (tokens_of number w) n
    here' = subst (λ l. BelongsAt (lists_of number l) (tokens_of number w) n) e h

    pub still_ordered : AllPairs IsBefore (lists_of number xs) → AllPairs IsBefore (lists_of number new)
    still_ordered o = subst (AllPairs IsBefore) (sym with_list) (ordered_insert (lists_of number xs) (tokens_of number w) n here' o)

    pub added : (V : List (List ℕ)) → lists_of number xs ≡ V → length (lists_of number new) ≤ 18446744073709551615 → AddsLists (λ v. v ≡ tokens_of number w) V (lists_of number new) true
    added V q room =
        let one = adds_one (lists_of number xs) (tokens_of number w) n here' (subst (λ l. length l ≤ 18446744073709551615) with_list room) in
        subst (λ l. AddsLists (λ v. v ≡ tokens_of number w) l (lists_of number new) true) q (subst (λ l. AddsLists (λ v. v ≡ tokens_of number w) (lists_of number xs) l true) (sym with_list) one)

-- ---- lists with more of them

pub adds_none : (V : List ℕ → Type 0) (lists : List (List ℕ)) → ((v : List ℕ) → V v → Contains lists v) → AddsLists V lists lists false
adds_none V lists there = record { kept = λ v c. c; only = λ v c. inl c; here = there; still = λ e. refl; fewer = λ e. cc }

pub adds_both : (U V W : List ℕ → Type 0) (a b c : List (List ℕ)) (x y : Bool) → AddsLists U a b x → AddsLists V b c y → ((v : List ℕ) → W v ↔ (U v ⊎ V v)) → AddsLists W a c (x || y)
adds_both U V W a b c x y h k both = record {
  kept = λ v i. k.kept v (h.kept v i);
  only = λ v i. elim (k.only v i) [ inl j ↦ elim (h.only v j) [ inl o ↦ inl o | inr u ↦ inr ((both v).1 (inl u)) ] | inr j ↦ inr ((both v).1 (inr j)) ];
  here = λ v i. elim ((both v).0 i) [ inl u ↦ k.kept v (h.here v u) | inr j ↦ k.here v j ];
  still = still x y h k;
  fewer = fewer x y h k;
}
  where
    still : (x y : Bool) → AddsLists U a b x → AddsLists V b c y → (x || y) ≡ false → c ≡ a
    still true y h k e = cc
    still false y h k e = k.still e ∙ h.still refl

    fewer : (x y : Bool) → AddsLists U a b x → AddsLists V b c y → (x || y) ≡ true → spare c < spare a
    fewer true true h k e = let p = h.fewer refl in let q = k.fewer refl in omega (arith, p, q)
    fewer true false h k e = let p = h.fewer refl in let q = ap spare (k.still refl) in omega (arith, p, q)
    fewer false y h k e = let p = k.fewer e in let q = ap spare (h.still refl) in omega (arith, p, q)

-- v is one of the first n
abbrev pub IsOneBelow : List (List ℕ) → ℕ → List ℕ → Type 0
IsOneBelow V n v = (k : ℕ) × (k < n) × (get_or V k [] ≡ v)

pub one_more : (V : List (List ℕ)) (n : ℕ) (v : List ℕ) → IsOneBelow V (n + 1) v ↔ (IsOneBelow V n v ⊎ (v ≡ get_or V n []))
one_more V n v = (there, back)
  where
    there : IsOneBelow V (n + 1) v → IsOneBelow V n v ⊎ (v ≡ get_or V n [])
    there (k, lt, e) = elim (cases_eq k n) [ inl q ↦ inr (sym e ∙ ap (λ i. get_or V i []) q) | inr ne ↦ inl (k, omega (arith, lt, ne), e) ]

    back : IsOneBelow V n v ⊎ (v ≡ get_or V n []) → IsOneBelow V (n + 1) v
    back (inl (k, lt, e)) = (k, omega (arith, lt), e)
    back (inr e) = (n, omega arith, sym e)

pub none_below : (V own : List (List ℕ)) → AddsLists (IsOneBelow V 0) own own false
none_below V own = adds_none (IsOneBelow V 0) own (λ v (k, lt, e). absurd (omega (arith, lt)))

-- each of the lists is there
pub all_added : (V : List (List ℕ)) (n : ℕ) (a b : List (List ℕ)) (x : Bool) → n ≡ length V → AddsLists (IsOneBelow V n) a b x → AddsLists (Contains V) a b x
all_added V n a b x all h = record {
  kept = h.kept;
  only = λ v c. elim (h.only v c) [ inl o ↦ inl o | inr (k, lt, e) ↦ (let within : k < length V = omega (arith, lt, all) in inr (k, within, any_default V k v [] within ∙ e)) ];
  here = λ v c. let (k, lt, q) = c in h.here v (k, omega (arith, lt, all), any_default V k [] v lt ∙ q);
  still = h.still;
  fewer = h.fewer;
}

-- the next of the first lists before each of the others
pub joined_more : {S : Type 0} (number : S → ℕ) (us : List (Vec (TIdx S) Global)) (vs : List (List ℕ)) (i : ℕ) (x : Vec (TIdx S) Global) (s : List (TIdx S)) (old new : List (List ℕ)) → i < length us → x ≡ get_or us i x → s ≡ x.items → old ≡ joined (lists_of number (take i us)) vs → new ≡ old ++ map (λ v. tokens_of number s ++ v) vs → new ≡ joined (lists_of number (take (i + 1) us)) vs
joined_more {S} number us vs i x s old new lt e is so_far made =
    let f = λ (u : List ℕ). map (λ v. u ++ v) vs in
    let g = λ (l : Vec (TIdx S) Global). tokens_of number l.items in
    let whole : take (i + 1) us ≡ take i us ++ x ∷ [] = take_more us i x lt ∙ ap (λ y. take i us ++ y ∷ []) (sym e) in
    let lists : lists_of number (take (i + 1) us) ≡ lists_of number (take i us) ++ tokens_of number s ∷ [] = ap (lists_of number) whole ∙ map-append g (take i us) (x ∷ []) ∙ ap (λ y. lists_of number (take i us) ++ tokens_of number y ∷ []) (sym is) in
    made ∙ ap (λ l. l ++ f (tokens_of number s)) so_far ∙ flat_map_more f [] (lists_of number (take i us)) (tokens_of number s) ∙ ap (λ l. joined l vs) (sym lists)
