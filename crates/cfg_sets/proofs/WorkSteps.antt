-- Takings from work lists, and lists of the productions that name each rule.
use Rattle.std.proofs.Common.{◌≡◌, ℕ, zero, suc, ◌+◌, ◌<◌, ◌≤◌, ◌⊎◌, inl, inr, Bool, true, false, List, [], ◌∷◌, ◌++◌, length, get_or, set, replicate, Some, slice_get, refl, sym, ap, ◌∙◌, subst, arith}
use Rattle.std.specs.Prelude.{IsTrue, map}
use Rattle.std.specs.List.{Contains}
use Rattle.std.proofs.lemmas.List.{length-set, length-map, length-replicate, get_or-set_same, get_or-set_other, get_or-map, get_or-replicate, map-set, get_or_past}
use Rattle.std.proofs.lemmas.List.Elements.{Contains-push, Contains-push_cases, Contains-append_left}
use Rattle.std.proofs.lemmas.Bool.{cases_eq, cases_lt}
use Rattle.cfg_theory.specs.Grammar.{Sym, rule, token, Grammar, WellFormed, InRange, IsNext, body_of}
use Rattle.vob.specs.Sets.{is_set}
use Rattle.vob.proofs.Bits.{set_same}
use Rattle.cfg_sets.specs.WorkLists.{NamesOne, ListsNaming, AddsNamed, IsRule, IsSomeOf, IsSomeBelow, HasList, StandsFrom}

-- ---- lists of productions

get_any : (l : List ℕ) (i d e : ℕ) → i < length l → get_or l i d ≡ get_or l i e
get_any [] i d e lt = absurd (omega (arith, lt))
get_any (x ∷ l) zero d e lt = refl
get_any (x ∷ l) (suc i) d e lt = get_any l i d e (omega (arith, lt))

pub from_start : (list : List ℕ) (q : ℕ) → Contains list q → StandsFrom list 0 q
from_start list q (k, lt, e) = (k, omega arith, lt, e)

pub none_left : (list : List ℕ) (i q : ℕ) → length list ≤ i → StandsFrom list i q → ⊥
none_left list i q le (j, from, lt, e) = omega (arith, le, from, lt)

-- one more was gone through
pub next_one : (C D : ℕ → Type 0) (list : List ℕ) (i x : ℕ) → i < length list → get_or list i 0 ≡ x → ((q : ℕ) → C q → D q) → D x → (q : ℕ) → C q ⊎ StandsFrom list i q → D q ⊎ StandsFrom list (i + 1) q
next_one C D list i x lt at kept here q (inl c) = inl (kept q c)
next_one C D list i x lt at kept here q (inr (j, from, in_list, e)) = elim (cases_eq j i) [
  | inl same ↦ inl (subst D (sym at ∙ get_any list i 0 q lt ∙ sym (ap (λ k. get_or list k q) same) ∙ e) here)
  | inr ne ↦ inr (j, omega (arith, from, ne), in_list, e)
]

-- a rule that was taken off: what named it is in its list
pub taken_off : (G : Grammar) (n : ℕ) (lists : List (List ℕ)) (work : List ℕ) (A q : ℕ) → ListsNaming G n lists → q < n → NamesOne G (work ++ A ∷ []) q → NamesOne G work q ⊎ StandsFrom (get_or lists A []) 0 q
taken_off G n lists work A q h lt (B, d, next, waits) = elim (Contains-push_cases work A B waits) [
  | inl c ↦ inl (B, d, next, c)
  | inr e ↦ inr (from_start (get_or lists A []) q (h.named q d A lt (subst (λ C. IsNext G q d (rule C)) (sym e) next)))
]

pub in_range : (G : Grammar) (n : ℕ) (lists : List (List ℕ)) (A i d : ℕ) → ListsNaming G n lists → i < length (get_or lists A []) → get_or (get_or lists A []) i d < n
in_range G n lists A i d h lt = h.within A (get_or (get_or lists A []) i d) (i, lt, get_any (get_or lists A []) i (get_or (get_or lists A []) i d) d lt)

-- ---- productions that are taken out of a set

never : false ≡ true → ⊥
never e = cc

put_out : (xs : List Bool) (n t : ℕ) → n < length xs → IsTrue (is_set (set xs n false) t) → IsTrue (is_set xs t) × (t ≡ n → ⊥)
put_out xs n t lt h = elim (cases_eq t n) [
  | inl e ↦ absurd (never (sym (get_or-set_same xs n false false lt) ∙ subst (λ k. IsTrue (is_set (set xs n false) k)) e h))
  | inr ne ↦ (sym (get_or-set_other xs n t false false ne) ∙ h, ne)
]

-- the first i of the list were taken out
pub record IsOutTo (list : List ℕ) (i : ℕ) (old new : List Bool) : Type 0 where
  pub width : length new ≡ length old
  pub fewer : (p : ℕ) → IsTrue (is_set new p) → IsTrue (is_set old p)
  pub left : (p : ℕ) → Contains list p → IsTrue (is_set new p) → StandsFrom list i p

pub out_none : (list : List ℕ) (old : List Bool) → IsOutTo list 0 old old
out_none list old = record { width = refl; fewer = λ p h. h; left = λ p c h. from_start list p c }

pub out_more : (list : List ℕ) (i : ℕ) (old mid new : List Bool) → i < length list → get_or list i 0 < length mid → new ≡ set mid (get_or list i 0) false → IsOutTo list i old mid → IsOutTo list (i + 1) old new
out_more list i old mid new lt low is m = subst (IsOutTo list (i + 1) old) (sym is) (record {
  width = length-set mid (get_or list i 0) false ∙ m.width;
  fewer = λ p h. m.fewer p (put_out mid (get_or list i 0) p low h).0;
  left = λ p c h. (let o = put_out mid (get_or list i 0) p low h in let (j, from, in_list, e) = m.left p c o.0 in elim (cases_eq j i) [
    | inl same ↦ absurd (o.1 (sym (get_any list i 0 p lt ∙ sym (ap (λ k. get_or list k p) same) ∙ e)))
    | inr ne ↦ (j, omega (arith, from, ne), in_list, e)
  ]);
})

-- ---- how they are made

no_member : (x : ℕ) → Contains [] x → ⊥
no_member x (k, lt, e) = omega (arith, lt)

pub lists_none : (G : Grammar) (n : ℕ) (lists : List (List ℕ)) → n ≡ G.rules → lists ≡ replicate n [] → ListsNaming G 0 lists
lists_none G n lists rules e = record {
  count = ap length e ∙ length-replicate {A = List ℕ} n [] ∙ rules;
  within = λ A p c. absurd (nothing A p c);
  named = λ p d A lt. absurd (omega (arith, lt));
}
  where
    nothing : (A p : ℕ) → Contains (get_or lists A []) p → ⊥
    nothing A p c = elim (cases_lt A n) [
      | inl lt ↦ no_member p (subst (λ l. Contains l p) (ap (λ l. get_or l A []) e ∙ get_or-replicate n A [] [] lt) c)
      | inr le ↦ no_member p (subst (λ l. Contains l p) (ap (λ l. get_or l A []) e ∙ get_or_past (replicate n []) A [] (let len = length-replicate {A = List ℕ} n [] in omega (arith, len, le))) c)
    ]

pub lists_more : (G : Grammar) (n : ℕ) (old new : List (List ℕ)) → ListsNaming G n old → AddsNamed n (IsSomeOf (body_of G n)) old new → ListsNaming G (n + 1) new
lists_more G n old new h a = record {
  count = a.count ∙ h.count;
  within = λ A p c. elim (a.only A p c) [ inl o ↦ (let lt = h.within A p o in omega (arith, lt)) | inr e ↦ omega (arith, e) ];
  named = λ p d A lt next. elim (cases_eq p n) [
    | inl e ↦ subst (λ q. Contains (get_or new A []) q) (sym e) (a.named A (d, subst (λ q. slice_get (body_of G q) d ≡ Some (rule A)) e next.at))
    | inr ne ↦ a.kept A p (h.named p d A (omega (arith, lt, ne)) next)
  ];
}

pub adds_nothing : (p : ℕ) (P : ℕ → Type 0) (lists : List (List ℕ)) → ((A : ℕ) → P A → ⊥) → AddsNamed p P lists lists
adds_nothing p P lists none = record { count = refl; kept = λ A q c. c; only = λ A q c. inl c; named = λ A h. absurd (none A h) }

pub adds_both : (p : ℕ) (P Q R : ℕ → Type 0) (a b c : List (List ℕ)) → AddsNamed p P a b → AddsNamed p Q b c → ((A : ℕ) → R A → P A ⊎ Q A) → AddsNamed p R a c
adds_both p P Q R a b c h k both = record {
  count = k.count ∙ h.count;
  kept = λ A q x. k.kept A q (h.kept A q x);
  only = λ A q x. elim (k.only A q x) [ inl y ↦ h.only A q y | inr e ↦ inr e ];
  named = λ A r. elim (both A r) [ inl y ↦ k.kept A p (h.named A y) | inr y ↦ k.named A y ];
}

-- the rules among one symbol more
pub some_more : (a : List Sym) (i : ℕ) (X : Sym) → slice_get a i ≡ Some X → (A : ℕ) → IsSomeBelow a (i + 1) A → IsSomeBelow a i A ⊎ IsRule X A
some_more a i X at A (d, lt, e) = elim (cases_eq d i) [ inl q ↦ inr (same X (rule A) (sym at ∙ ap (slice_get a) (sym q) ∙ e)) | inr ne ↦ inl (d, omega (arith, lt, ne), e) ]
  where
    same : (X Y : Sym) → Some X ≡ Some Y → X ≡ Y
    same X Y e = cc

pub some_all : (a : List Sym) (n : ℕ) → length a ≤ n → (A : ℕ) → IsSomeOf a A → IsSomeBelow a n A
some_all a n le A (d, e) = (d, (let lt = within a d (rule A) e in omega (arith, lt, le)), e)
  where
    within : (l : List Sym) (k : ℕ) (Y : Sym) → slice_get l k ≡ Some Y → k < length l
    within [] k Y q = cc
    within (x ∷ l) zero Y q = omega arith
    within (x ∷ l) (suc k) Y q = let h = within l k Y q in omega (arith, h)

-- a list without the end at which p stands already
pub adds_here : (p A : ℕ) (lists : List (List ℕ)) → Contains (get_or lists A []) p → AddsNamed p (λ B. B ≡ A) lists lists
adds_here p A lists c = record { count = refl; kept = λ B q x. x; only = λ B q x. inl x; named = λ B e. subst (λ C. Contains (get_or lists C []) p) (sym e) c }

-- p is put last
pub adds_last : (p A : ℕ) (lists : List (List ℕ)) (row : List ℕ) → A < length lists → row ≡ get_or lists A [] ++ p ∷ [] → AddsNamed p (λ B. B ≡ A) lists (set lists A row)
adds_last p A lists row lt made = record { count = length-set lists A row; kept = kept; only = only; named = named }
  where
    here : get_or (set lists A row) A [] ≡ get_or lists A [] ++ p ∷ []
    here = get_or-set_same lists A row [] lt ∙ made

    there : (B : ℕ) → (B ≡ A → ⊥) → get_or (set lists A row) B [] ≡ get_or lists B []
    there B ne = get_or-set_other lists A B row [] ne

    kept : (B q : ℕ) → Contains (get_or lists B []) q → Contains (get_or (set lists A row) B []) q
    kept B q x = elim (cases_eq B A) [
      | inl e ↦ subst (λ l. Contains l q) (sym (ap (λ C. get_or (set lists A row) C []) e ∙ here)) (Contains-append_left (get_or lists A []) (p ∷ []) q (subst (λ C. Contains (get_or lists C []) q) e x))
      | inr ne ↦ subst (λ l. Contains l q) (sym (there B ne)) x
    ]

    only : (B q : ℕ) → Contains (get_or (set lists A row) B []) q → Contains (get_or lists B []) q ⊎ (q ≡ p)
    only B q x = elim (cases_eq B A) [
      | inl e ↦ elim (Contains-push_cases (get_or lists A []) p q (subst (λ l. Contains l q) (ap (λ C. get_or (set lists A row) C []) e ∙ here) x)) [ inl y ↦ inl (subst (λ C. Contains (get_or lists C []) q) (sym e) y) | inr y ↦ inr (sym y) ]
      | inr ne ↦ inl (subst (λ l. Contains l q) (there B ne) x)
    ]

    named : (B : ℕ) → B ≡ A → Contains (get_or (set lists A row) B []) p
    named B e = subst (λ C. Contains (get_or (set lists A row) C []) p) (sym e) (subst (λ l. Contains l p) (sym here) (Contains-push (get_or lists A []) p))

-- ---- as vectors of vectors

module _ {V : Type 0} (f : V → List ℕ) (vs : List V) (v : List (List ℕ)) (view : map f vs ≡ v) (A : ℕ) (lt : A < length v) (old : V) (is : old ≡ get_or vs A old) where
  within : A < length vs
  within = let len = length-map vs f in let n = ap length view in omega (arith, len, n, lt)

  row : f old ≡ get_or v A []
  row = ap f is ∙ sym (get_or-map f vs A old [] within) ∙ ap (λ l. get_or l A []) view

  pub vec_last : (p : ℕ) (new : V) → f new ≡ f old ++ p ∷ [] → AddsNamed p (λ B. B ≡ A) v (map f (set vs A new))
  vec_last p new made =
      let after : map f (set vs A new) ≡ set v A (f new) = map-set f vs A new ∙ ap (λ l. set l A (f new)) view in
      subst (AddsNamed p (λ B. B ≡ A) v) (sym after) (adds_last p A v (f new) lt (made ∙ ap (λ l. l ++ p ∷ []) row))

  pub vec_same : (p : ℕ) → Contains (f old) p → AddsNamed p (λ B. B ≡ A) v (map f (set vs A old))
  vec_same p c =
      let after : map f (set vs A old) ≡ v = ap (map f) (set_same vs A old old within is) ∙ view in
      subst (AddsNamed p (λ B. B ≡ A) v) (sym after) (adds_here p A v (subst (λ l. Contains l p) row c))

-- the symbols of a well-formed grammar have lists
pub has_lists : (G : Grammar) (p n : ℕ) → WellFormed G → n ≡ G.rules → (d : ℕ) (X : Sym) → slice_get (body_of G p) d ≡ Some X → HasList n X
has_lists G p n good e d X at = by X (good.symbols p d X (record { at = at }))
  where
    by : (Y : Sym) → InRange G Y → HasList n Y
    by (rule A) lt = subst (λ k. A < k) (sym e) lt
    by (token t) lt = tt

pub adds_less : (p : ℕ) (P Q : ℕ → Type 0) (a b : List (List ℕ)) → ((A : ℕ) → Q A → P A) → AddsNamed p P a b → AddsNamed p Q a b
adds_less p P Q a b less h = record { count = h.count; kept = h.kept; only = h.only; named = λ A x. h.named A (less A x) }
