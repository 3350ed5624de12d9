-- How takings fill FIRST sets.
use Rattle.std.proofs.Common.{◌≡◌, ℕ, zero, suc, ◌+◌, ◌<◌, ◌≤◌, ◌⊎◌, inl, inr, ◌↔◌, Bool, true, false, not, ◌||◌, List, [], ◌∷◌, ◌++◌, length, get_or, set, take, drop, Some, slice_get, refl, sym, ap, ◌∙◌, subst, arith}
use Rattle.std.specs.Prelude.{IsTrue}
use Rattle.std.specs.List.{Contains}
use Rattle.std.proofs.lemmas.List.{length-set, take-append-drop, get_or_past}
use Rattle.std.proofs.lemmas.List.Sums.{sum_by-set}
use Rattle.std.proofs.lemmas.Bool.{cases_eq, cases_lt, cases_Bool}
use Rattle.cfg_theory.specs.Grammar.{Sym, rule, token, Grammar, IsOf, IsNext, head_of, body_of}
use Rattle.cfg_theory.specs.Derivation.{Nullable, IsFirst}
use Rattle.cfg_theory.specs.First.{AllOf}
use Rattle.cfg_theory.proofs.Derivation.{derives_rule, nullable_of, first_of_list}
use Rattle.vob.specs.Sets.{is_set, is_set_in, missing, missing_in, joined_to, AreRows}
use Rattle.cfg_sets.specs.WorkLists.{ListsNaming, NamesOne}
use Rattle.cfg_sets.specs.Firsts.{FirstSets, HasEpsilon, HasFirst, AreOf, AreSound, AreSoundOf, IsClosedAt, IsClosedOrWaits, AreFirstsClosedBut, IsWithin, IsNullableIn, SymbolFirst, FirstsOf, Adds}
use Rattle.vob.specs.Passes.{PassStep, Anything}
use Rattle.vob.proofs.Bits.{join, length-bitwise, joined, put_in, put_fills, put_again, set_same, row_set, rows_set}

-- ---- one symbol more at the end of a list

pub firsts_snoc : (s : FirstSets) (a : List Sym) (X : Sym) (t : ℕ) → FirstsOf s (a ++ X ∷ []) t ↔ (FirstsOf s a t ⊎ (AllOf (HasEpsilon s) a × SymbolFirst s X t))
firsts_snoc s [] (rule A) t = (λ x. elim x [ inl f ↦ inr (tt, f) | inr n ↦ absurd n.1 ], λ x. elim x [ inl f ↦ absurd f | inr n ↦ inl n.1 ])
firsts_snoc s [] (token u) t = (λ e. inr (tt, e), λ x. elim x [ inl f ↦ absurd f | inr n ↦ n.1 ])
firsts_snoc s (token v ∷ a) X t = (λ e. inl e, λ x. elim x [ inl e ↦ e | inr n ↦ absurd n.0 ])
firsts_snoc s (rule B ∷ a) X t = let h = firsts_snoc s a X t in (to h.0, from h.1)
  where
    to : (FirstsOf s (a ++ X ∷ []) t → FirstsOf s a t ⊎ (AllOf (HasEpsilon s) a × SymbolFirst s X t)) → FirstsOf s (rule B ∷ (a ++ X ∷ [])) t → FirstsOf s (rule B ∷ a) t ⊎ (AllOf (HasEpsilon s) (rule B ∷ a) × SymbolFirst s X t)
    to h (inl f) = inl (inl f)
    to h (inr (n, x)) = elim (h x) [ inl y ↦ inl (inr (n, y)) | inr m ↦ inr ((n, m.0), m.1) ]

    from : (FirstsOf s a t ⊎ (AllOf (HasEpsilon s) a × SymbolFirst s X t) → FirstsOf s (a ++ X ∷ []) t) → FirstsOf s (rule B ∷ a) t ⊎ (AllOf (HasEpsilon s) (rule B ∷ a) × SymbolFirst s X t) → FirstsOf s (rule B ∷ (a ++ X ∷ [])) t
    from h (inl (inl f)) = inl f
    from h (inl (inr (n, y))) = inr (n, h (inl y))
    from h (inr ((n, m), x)) = inr (n, h (inr (m, x)))

pub all_snoc : (s : FirstSets) (a : List Sym) (X : Sym) → AllOf (HasEpsilon s) (a ++ X ∷ []) ↔ (AllOf (HasEpsilon s) a × IsNullableIn s X)
all_snoc s [] (rule A) = (λ x. (tt, x.0), λ x. (x.1, tt))
all_snoc s [] (token u) = (λ x. absurd x, λ x. x.1)
all_snoc s (token v ∷ a) X = (λ x. absurd x, λ x. absurd x.0)
all_snoc s (rule B ∷ a) X =
    let h = all_snoc s a X in
    (λ x. let y = h.0 x.1 in ((x.0, y.0), y.1), λ x. (x.0.0, h.1 (x.0.1, x.1)))

-- a list that goes on
firsts_front : (s : FirstSets) (a b : List Sym) (t : ℕ) → FirstsOf s a t → FirstsOf s (a ++ b) t
firsts_front s [] b t h = absurd h
firsts_front s (token v ∷ a) b t h = h
firsts_front s (rule B ∷ a) b t (inl f) = inl f
firsts_front s (rule B ∷ a) b t (inr (n, h)) = inr (n, firsts_front s a b t h)

-- behind a symbol that isn't nullable nothing counts
firsts_stop : (s : FirstSets) (a b : List Sym) (X : Sym) (t : ℕ) → (IsNullableIn s X → ⊥) → FirstsOf s ((a ++ X ∷ []) ++ b) t → FirstsOf s (a ++ X ∷ []) t
firsts_stop s [] b (rule A) t stops (inl f) = inl f
firsts_stop s [] b (rule A) t stops (inr (n, h)) = absurd (stops n)
firsts_stop s [] b (token u) t stops h = h
firsts_stop s (token v ∷ a) b X t stops h = h
firsts_stop s (rule B ∷ a) b X t stops (inl f) = inl f
firsts_stop s (rule B ∷ a) b X t stops (inr (n, h)) = inr (n, firsts_stop s a b X t stops h)

all_stop : (s : FirstSets) (a b : List Sym) (X : Sym) → AllOf (HasEpsilon s) ((a ++ X ∷ []) ++ b) → IsNullableIn s X
all_stop s [] b (rule A) h = h.0
all_stop s [] b (token u) h = h
all_stop s (token v ∷ a) b X h = absurd h
all_stop s (rule B ∷ a) b X h = all_stop s a b X h.1

-- ---- what is added to a rule

pub adds_none : (A : ℕ) (s : FirstSets) → Adds A (FirstsOf s []) ⊥ s s
adds_none A s = record {
  tokens = refl;
  rules = refl;
  count = refl;
  rows = λ n m r. r;
  first = λ B t. (λ x. inl x, λ x. elim x [ inl y ↦ y | inr q ↦ absurd q.1 ]);
  nullable = λ B. (λ x. inl x, λ x. elim x [ inl y ↦ y | inr q ↦ absurd q.1 ]);
}

pub adds_same : (A : ℕ) (P Q : ℕ → Type 0) (N M : Type 0) (old new : FirstSets) → ((t : ℕ) → P t ↔ Q t) → N ↔ M → Adds A P N old new → Adds A Q M old new
adds_same A P Q N M old new same both h = record {
  tokens = h.tokens;
  rules = h.rules;
  count = h.count;
  rows = h.rows;
  first = λ B t. (λ x. elim ((h.first B t).0 x) [ inl y ↦ inl y | inr q ↦ inr (q.0, (same t).0 q.1) ], λ x. (h.first B t).1 (elim x [ inl y ↦ inl y | inr q ↦ inr (q.0, (same t).1 q.1) ]));
  nullable = λ B. (λ x. elim ((h.nullable B).0 x) [ inl y ↦ inl y | inr q ↦ inr (q.0, both.0 q.1) ], λ x. (h.nullable B).1 (elim x [ inl y ↦ inl y | inr q ↦ inr (q.0, both.1 q.1) ]));
}

module _ (A : ℕ) (start old : FirstSets) (a : List Sym) (h : Adds A (FirstsOf start a) ⊥ start old) where
  pub null_back : (X : Sym) → IsNullableIn old X → IsNullableIn start X
  null_back (rule B) n = elim ((h.nullable B).0 n) [ inl y ↦ y | inr q ↦ absurd q.1 ]
  null_back (token u) n = n

  pub null_on : (X : Sym) → IsNullableIn start X → IsNullableIn old X
  null_on (rule B) n = (h.nullable B).1 (inl n)
  null_on (token u) n = n

  symbol_back : (X : Sym) (t : ℕ) → SymbolFirst old X t → SymbolFirst start X t ⊎ FirstsOf start a t
  symbol_back (rule B) t f = elim ((h.first B t).0 f) [ inl y ↦ inl y | inr q ↦ inr q.1 ]
  symbol_back (token u) t e = inl e

  symbol_on : (X : Sym) (t : ℕ) → SymbolFirst start X t → SymbolFirst old X t
  symbol_on (rule B) t f = (h.first B t).1 (inl f)
  symbol_on (token u) t e = e

  -- what one symbol more adds, behind symbols that are nullable
  pub adds_more : (X : Sym) (new : FirstSets) → AllOf (HasEpsilon start) a → Adds A (SymbolFirst old X) ⊥ old new → Adds A (FirstsOf start (a ++ X ∷ [])) ⊥ start new
  adds_more X new all k = record {
    tokens = k.tokens ∙ h.tokens;
    rules = k.rules ∙ h.rules;
    count = k.count ∙ h.count;
    rows = λ n m r. k.rows n m (h.rows n m r);
    first = λ B t. (to B t, from B t);
    nullable = λ B. (λ x. elim ((k.nullable B).0 x) [ inl y ↦ (h.nullable B).0 y | inr q ↦ inr q ], λ x. (k.nullable B).1 (inl ((h.nullable B).1 x)));
  }
    where
      by_symbol : (t : ℕ) → SymbolFirst start X t ⊎ FirstsOf start a t → FirstsOf start (a ++ X ∷ []) t
      by_symbol t (inl f) = (firsts_snoc start a X t).1 (inr (all, f))
      by_symbol t (inr f) = (firsts_snoc start a X t).1 (inl f)

      to : (B t : ℕ) → HasFirst new B t → HasFirst start B t ⊎ ((B ≡ A) × FirstsOf start (a ++ X ∷ []) t)
      to B t x = elim ((k.first B t).0 x) [
        | inl y ↦ elim ((h.first B t).0 y) [ inl z ↦ inl z | inr q ↦ inr (q.0, (firsts_snoc start a X t).1 (inl q.1)) ]
        | inr q ↦ inr (q.0, by_symbol t (symbol_back X t q.1))
      ]

      at_end : (B t : ℕ) → B ≡ A → FirstsOf start a t ⊎ (AllOf (HasEpsilon start) a × SymbolFirst start X t) → HasFirst new B t
      at_end B t e (inl f) = (k.first B t).1 (inl ((h.first B t).1 (inr (e, f))))
      at_end B t e (inr (n, f)) = (k.first B t).1 (inr (e, symbol_on X t f))

      from : (B t : ℕ) → HasFirst start B t ⊎ ((B ≡ A) × FirstsOf start (a ++ X ∷ []) t) → HasFirst new B t
      from B t (inl z) = (k.first B t).1 (inl ((h.first B t).1 (inl z)))
      from B t (inr (e, f)) = at_end B t e ((firsts_snoc start a X t).0 f)

  -- where that symbol is the last that counts
  pub adds_stop : (X : Sym) (new : FirstSets) (b : List Sym) → AllOf (HasEpsilon start) a → Adds A (SymbolFirst old X) ⊥ old new → (IsNullableIn old X → ⊥) → Adds A (FirstsOf start ((a ++ X ∷ []) ++ b)) (AllOf (HasEpsilon start) ((a ++ X ∷ []) ++ b)) start new
  adds_stop X new b all k stops =
      let ends : IsNullableIn start X → ⊥ = λ n. stops (null_on X n) in
      adds_same A (FirstsOf start (a ++ X ∷ [])) (FirstsOf start ((a ++ X ∷ []) ++ b)) ⊥ (AllOf (HasEpsilon start) ((a ++ X ∷ []) ++ b)) start new
      (λ t. (firsts_front start (a ++ X ∷ []) b t, firsts_stop start a b X t ends))
      (λ x. absurd x, λ x. absurd (ends (all_stop start a b X x)))
      (adds_more X new all k)

  -- where all symbols were nullable
  pub adds_all : (new : FirstSets) → AllOf (HasEpsilon start) a → A < length old.epsilons → new.tokens ≡ old.tokens → new.rows ≡ old.rows → new.epsilons ≡ set old.epsilons A true → Adds A (FirstsOf start a) (AllOf (HasEpsilon start) a) start new
  adds_all new all lt tokens rows epsilons = record {
    tokens = tokens ∙ h.tokens;
    rules = ap length epsilons ∙ length-set old.epsilons A true ∙ h.rules;
    count = ap length rows ∙ h.count;
    rows = λ n m r. subst (AreRows n m) (sym rows) (h.rows n m r);
    first = λ B t. (λ x. (h.first B t).0 (subst (λ l. IsTrue (is_set_in l B t)) rows x), λ x. subst (λ l. IsTrue (is_set_in l B t)) (sym rows) ((h.first B t).1 x));
    nullable = λ B. (to B, from B);
  }
    where
      old_or : (B : ℕ) → HasEpsilon start B ⊎ ((B ≡ A) × ⊥) → HasEpsilon start B
      old_or B (inl y) = y
      old_or B (inr (e, f)) = absurd f

      to : (B : ℕ) → HasEpsilon new B → HasEpsilon start B ⊎ ((B ≡ A) × AllOf (HasEpsilon start) a)
      to B x = elim ((put_in old.epsilons A B lt).0 (subst (λ l. IsTrue (is_set l B)) epsilons x)) [ inl y ↦ inl (old_or B ((h.nullable B).0 y)) | inr e ↦ inr (sym e, all) ]

      from : (B : ℕ) → HasEpsilon start B ⊎ ((B ≡ A) × AllOf (HasEpsilon start) a) → HasEpsilon new B
      from B x = subst (λ l. IsTrue (is_set l B)) (sym epsilons) ((put_in old.epsilons A B lt).1 (elim x [ inl y ↦ inl ((h.nullable B).1 (inl y)) | inr q ↦ inr (sym q.0) ]))

-- ---- one symbol of a body

take_suc : (a : List Sym) (i : ℕ) (X : Sym) → slice_get a i ≡ Some X → take (suc i) a ≡ take i a ++ X ∷ []
take_suc [] i X e = cc
take_suc (Y ∷ a) zero X e = let same : Y ≡ X = cc in ap (λ Z. Z ∷ []) same
take_suc (Y ∷ a) (suc i) X e = ap (λ l. Y ∷ l) (take_suc a i X e)

-- the front of a list with one symbol more
module _ (s : FirstSets) (a : List Sym) (i : ℕ) (X : Sym) (at : slice_get a i ≡ Some X) (all : AllOf (HasEpsilon s) (take i a)) where
  front_suc : take (i + 1) a ≡ take i a ++ X ∷ []
  front_suc = let e : i + 1 ≡ suc i = omega arith in ap (λ n. take n a) e ∙ take_suc a i X at

  front_whole : (take i a ++ X ∷ []) ++ drop (i + 1) a ≡ a
  front_whole = ap (λ l. l ++ drop (i + 1) a) (sym front_suc) ∙ take-append-drop (i + 1) a

  pub front_all : IsNullableIn s X → AllOf (HasEpsilon s) (take (i + 1) a)
  front_all n = subst (AllOf (HasEpsilon s)) (sym front_suc) ((all_snoc s (take i a) X).1 (all, n))

  pub front_null : AllOf (HasEpsilon s) a → IsNullableIn s X
  front_null h = all_stop s (take i a) (drop (i + 1) a) X (subst (AllOf (HasEpsilon s)) (sym front_whole) h)

  pub front_more : (P : ℕ → Type 0) → ((t : ℕ) → P t ↔ FirstsOf s (take i a) t) → (Q : ℕ → Type 0) → ((t : ℕ) → Q t ↔ (P t ⊎ SymbolFirst s X t)) → (t : ℕ) → Q t ↔ FirstsOf s (take (i + 1) a) t
  front_more P was Q put t =
      let h = firsts_snoc s (take i a) X t in
      let both : Q t ↔ FirstsOf s (take i a ++ X ∷ []) t = (
        λ q. h.1 (elim ((put t).0 q) [ inl p ↦ inl ((was t).0 p) | inr f ↦ inr (all, f) ]),
        λ f. (put t).1 (elim (h.0 f) [ inl p ↦ inl ((was t).1 p) | inr n ↦ inr n.1 ]),
      ) in
      subst (λ l. Q t ↔ FirstsOf s l t) (sym front_suc) both

  -- where that symbol is the last that counts
  pub front_first : {Q : Type 0} → (IsNullableIn s X → ⊥) → (t : ℕ) → Q ↔ FirstsOf s (take (i + 1) a) t → Q ↔ FirstsOf s a t
  front_first stops t h = (
    λ q. subst (λ l. FirstsOf s l t) front_whole (firsts_front s (take i a ++ X ∷ []) (drop (i + 1) a) t (subst (λ l. FirstsOf s l t) front_suc (h.0 q))),
    λ f. h.1 (subst (λ l. FirstsOf s l t) (sym front_suc) (firsts_stop s (take i a) (drop (i + 1) a) X t stops (subst (λ l. FirstsOf s l t) (sym front_whole) f))),
  )

pub within_still : (A : ℕ) (P : ℕ → Type 0) (N : Type 0) (old new : FirstSets) → Adds A P N old new → (X : Sym) → IsWithin old X → IsWithin new X
within_still A P N old new h (rule B) lt = subst (λ n. B < n) (sym h.count) lt
within_still A P N old new h (token t) lt = subst (λ n. t < n) (sym h.tokens) lt

module _ (A : ℕ) (start old new : FirstSets) (a : List Sym) (i : ℕ) (X : Sym) (at : slice_get a i ≡ Some X) (h : Adds A (FirstsOf start (take i a)) ⊥ start old) (all : AllOf (HasEpsilon start) (take i a)) (k : Adds A (SymbolFirst old X) ⊥ old new) where
  one_more : take (i + 1) a ≡ take i a ++ X ∷ []
  one_more = let e : i + 1 ≡ suc i = omega arith in ap (λ n. take n a) e ∙ take_suc a i X at

  whole : (take i a ++ X ∷ []) ++ drop (i + 1) a ≡ a
  whole = ap (λ l. l ++ drop (i + 1) a) (sym one_more) ∙ take-append-drop (i + 1) a

  null_was : (Y : Sym) → IsNullableIn new Y → IsNullableIn old Y
  null_was (rule B) n = elim ((k.nullable B).0 n) [ inl y ↦ y | inr q ↦ absurd q.1 ]
  null_was (token u) n = n

  null_is : (Y : Sym) → IsNullableIn old Y → IsNullableIn new Y
  null_is (rule B) n = (k.nullable B).1 (inl n)
  null_is (token u) n = n

  pub next_adds : Adds A (FirstsOf start (take (i + 1) a)) ⊥ start new
  next_adds = subst (λ l. Adds A (FirstsOf start l) ⊥ start new) (sym one_more) (adds_more A start old (take i a) h X new all k)

  pub next_all : IsNullableIn new X → AllOf (HasEpsilon start) (take (i + 1) a)
  next_all n = subst (AllOf (HasEpsilon start)) (sym one_more) ((all_snoc start (take i a) X).1 (all, null_back A start old (take i a) h X (null_was X n)))

  pub last_adds : (IsNullableIn new X → ⊥) → Adds A (FirstsOf start a) (AllOf (HasEpsilon start) a) start new
  last_adds stops = subst (λ l. Adds A (FirstsOf start l) (AllOf (HasEpsilon start) l) start new) whole (adds_stop A start old (take i a) h X new (drop (i + 1) a) all k (λ n. stops (null_is X n)))

pub take_whole : (a : List Sym) (i : ℕ) → length a ≤ i → take i a ≡ a
take_whole [] zero le = refl
take_whole [] (suc i) le = refl
take_whole (X ∷ a) zero le = absurd (omega (arith, le))
take_whole (X ∷ a) (suc i) le = ap (λ l. X ∷ l) (take_whole a i (omega (arith, le)))

-- ---- one set

-- a set was joined to that of a rule
pub adds_row : (A : ℕ) (P : ℕ → Type 0) (ys : List Bool) (old new : FirstSets) → A < length old.rows → length (get_or old.rows A []) ≡ length ys → ((t : ℕ) → IsTrue (is_set ys t) ↔ P t) →
    new.tokens ≡ old.tokens → new.rows ≡ joined_to old.rows A ys → new.epsilons ≡ old.epsilons → Adds A P ⊥ old new
adds_row A P ys old new lt len tells tokens rows epsilons = record {
  tokens = tokens;
  rules = ap length epsilons;
  count = ap length rows ∙ length-set old.rows A (join row ys);
  rows = λ n m r. subst (AreRows n m) (sym rows) (rows_set n m old.rows A (join row ys) r (length-bitwise (λ x y. x || y) row ys len ∙ r.width A (subst (λ k. A < k) r.count lt)));
  first = λ B t. (to B t, from B t);
  nullable = λ B. (λ x. inl (subst (λ l. IsTrue (is_set l B)) epsilons x), λ x. elim x [ inl y ↦ subst (λ l. IsTrue (is_set l B)) (sym epsilons) y | inr q ↦ absurd q.1 ]);
}
  where
    row : List Bool
    row = get_or old.rows A []

    to : (B t : ℕ) → HasFirst new B t → HasFirst old B t ⊎ ((B ≡ A) × P t)
    to B t x =
        let k : IsTrue (is_set_in (joined_to old.rows A ys) B t) = subst (λ l. IsTrue (is_set_in l B t)) rows x in
        elim (row_set old.rows A B t (join row ys) lt) [
          | inl q ↦ elim ((joined row ys t len).0 (sym q.1 ∙ k)) [ inl y ↦ inl (subst (λ C. HasFirst old C t) (sym q.0) y) | inr y ↦ inr (q.0, (tells t).0 y) ]
          | inr q ↦ inl (sym q.1 ∙ k)
        ]

    from : (B t : ℕ) → HasFirst old B t ⊎ ((B ≡ A) × P t) → HasFirst new B t
    from B t x = subst (λ l. IsTrue (is_set_in l B t)) (sym rows) (elim (row_set old.rows A B t (join row ys) lt) [
      | inl q ↦ q.1 ∙ (joined row ys t len).1 (elim x [ inl y ↦ inl (subst (λ C. HasFirst old C t) q.0 y) | inr p ↦ inr ((tells t).1 p.1) ])
      | inr q ↦ q.1 ∙ elim x [ inl y ↦ y | inr p ↦ absurd (q.0 p.0) ]
    ])

-- a token was put into it
pub adds_token : (A u : ℕ) (old new : FirstSets) → A < length old.rows → u < length (get_or old.rows A []) → new.tokens ≡ old.tokens → new.rows ≡ set old.rows A (set (get_or old.rows A []) u true) → new.epsilons ≡ old.epsilons → Adds A (λ t. u ≡ t) ⊥ old new
adds_token A u old new lt within tokens rows epsilons = record {
  tokens = tokens;
  rules = ap length epsilons;
  count = ap length rows ∙ length-set old.rows A (set row u true);
  rows = λ n m r. subst (AreRows n m) (sym rows) (rows_set n m old.rows A (set row u true) r (length-set row u true ∙ r.width A (subst (λ k. A < k) r.count lt)));
  first = λ B t. (to B t, from B t);
  nullable = λ B. (λ x. inl (subst (λ l. IsTrue (is_set l B)) epsilons x), λ x. elim x [ inl y ↦ subst (λ l. IsTrue (is_set l B)) (sym epsilons) y | inr q ↦ absurd q.1 ]);
}
  where
    row : List Bool
    row = get_or old.rows A []

    to : (B t : ℕ) → HasFirst new B t → HasFirst old B t ⊎ ((B ≡ A) × (u ≡ t))
    to B t x =
        let k : IsTrue (is_set_in (set old.rows A (set row u true)) B t) = subst (λ l. IsTrue (is_set_in l B t)) rows x in
        elim (row_set old.rows A B t (set row u true) lt) [
          | inl q ↦ elim ((put_in row u t within).0 (sym q.1 ∙ k)) [ inl y ↦ inl (subst (λ C. HasFirst old C t) (sym q.0) y) | inr y ↦ inr (q.0, y) ]
          | inr q ↦ inl (sym q.1 ∙ k)
        ]

    from : (B t : ℕ) → HasFirst old B t ⊎ ((B ≡ A) × (u ≡ t)) → HasFirst new B t
    from B t x = subst (λ l. IsTrue (is_set_in l B t)) (sym rows) (elim (row_set old.rows A B t (set row u true) lt) [
      | inl q ↦ q.1 ∙ (put_in row u t within).1 (elim x [ inl y ↦ inl (subst (λ C. HasFirst old C t) q.0 y) | inr p ↦ inr p.1 ])
      | inr q ↦ q.1 ∙ elim x [ inl y ↦ y | inr p ↦ absurd (q.0 p.0) ]
    ])

-- ---- productions

module _ (G : Grammar) (A : ℕ) (P : ℕ → Type 0) (N : Type 0) (old new : FirstSets) (h : Adds A P N old new) where
  first_other : (B t : ℕ) → (B ≡ A → ⊥) → HasFirst new B t → HasFirst old B t
  first_other B t ne x = elim ((h.first B t).0 x) [ inl y ↦ y | inr q ↦ absurd (ne q.0) ]

  epsilon_other : (B : ℕ) → (B ≡ A → ⊥) → HasEpsilon new B → HasEpsilon old B
  epsilon_other B ne x = elim ((h.nullable B).0 x) [ inl y ↦ y | inr q ↦ absurd (ne q.0) ]

  -- of a list that doesn't name the rule the sets tell no more
  tells_same : (a : List Sym) → ((d : ℕ) × (slice_get a d ≡ Some (rule A))) ⊎ (((t : ℕ) → FirstsOf new a t → FirstsOf old a t) × (AllOf (HasEpsilon new) a → AllOf (HasEpsilon old) a))
  tells_same [] = inr (λ t x. x, λ x. x)
  tells_same (token u ∷ a) = inr (λ t x. x, λ x. x)
  tells_same (rule B ∷ a) = let h = tells_same a in elim (cases_eq B A) [ inl e ↦ inl (0, ap (λ C. Some (rule C)) e) | inr ne ↦ next ne h ]
    where
      next : (B ≡ A → ⊥) → ((d : ℕ) × (slice_get a d ≡ Some (rule A))) ⊎ (((t : ℕ) → FirstsOf new a t → FirstsOf old a t) × (AllOf (HasEpsilon new) a → AllOf (HasEpsilon old) a)) →
          ((d : ℕ) × (slice_get (rule B ∷ a) d ≡ Some (rule A))) ⊎ (((t : ℕ) → FirstsOf new (rule B ∷ a) t → FirstsOf old (rule B ∷ a) t) × (AllOf (HasEpsilon new) (rule B ∷ a) → AllOf (HasEpsilon old) (rule B ∷ a)))
      next ne (inl (d, at)) = inl (suc d, at)
      next ne (inr (f, n)) = inr (λ t x. elim x [ inl y ↦ inl (first_other B t ne y) | inr q ↦ inr (epsilon_other B ne q.0, f t q.1) ], λ x. (epsilon_other B ne x.0, n x.1))

  -- what was closed is closed, or names the rule
  pub closed_still : (list : List ℕ) (q : ℕ) → Contains list A → IsClosedAt G old q → IsClosedOrWaits G new list q
  closed_still list q waits c = elim (tells_same (body_of G q)) [
    | inl n ↦ inr (A, n.0, record { at = n.1 }, waits)
    | inr same ↦ inl (record { nullable = λ x. (h.nullable (head_of G q)).1 (inl (c.nullable (same.1 x))); first = λ t x. (h.first (head_of G q) t).1 (inl (c.first t (same.0 t x))) })
  ]

pub waits_still : (G : Grammar) (old new : List ℕ) (q : ℕ) → ((A : ℕ) → Contains old A → Contains new A) → NamesOne G old q → NamesOne G new q
waits_still G old new q kept (A, d, next, in_list) = (A, d, next, kept A in_list)

module _ (G : Grammar) (p : ℕ) (old new : FirstSets) (h : Adds (head_of G p) (FirstsOf old (body_of G p)) (AllOf (HasEpsilon old) (body_of G p)) old new) where
  -- the production that was gone through is closed, or names its own rule
  pub closed_here : (list : List ℕ) → Contains list (head_of G p) → IsClosedOrWaits G new list p
  closed_here list waits = elim (tells_same G (head_of G p) (FirstsOf old (body_of G p)) (AllOf (HasEpsilon old) (body_of G p)) old new h (body_of G p)) [
    | inl n ↦ inr (head_of G p, n.0, record { at = n.1 }, waits)
    | inr same ↦ inl (record { nullable = λ x. (h.nullable (head_of G p)).1 (inr (refl, same.1 x)); first = λ t x. (h.first (head_of G p) t).1 (inr (refl, same.0 t x)) })
  ]

  pub closed_same : new ≡ old → IsClosedAt G new p
  closed_same e = record {
    nullable = λ x. (h.nullable (head_of G p)).1 (inr (refl, subst (λ s. AllOf (HasEpsilon s) (body_of G p)) e x));
    first = λ t x. (h.first (head_of G p) t).1 (inr (refl, subst (λ s. FirstsOf s (body_of G p) t) e x));
  }

  -- what it adds is true
  pub still_sound : IsOf G p (head_of G p) → (old_row row : List Bool) → AreSoundOf G old old_row → length row ≡ old.tokens → AreSoundOf G new row
  still_sound o old_row row s len = record { sizes = sizes; sound = sound; width = len ∙ s.sizes.tokens }
    where
      sizes : AreOf G new
      sizes = record { tokens = h.tokens ∙ s.sizes.tokens; rules = h.rules ∙ s.sizes.rules; rows = h.rows G.rules G.tokens s.sizes.rows }

      body_nullable : AllOf (HasEpsilon old) (body_of G p) → Nullable G (rule (head_of G p) ∷ [])
      body_nullable x = derives_rule G o (nullable_of G (HasEpsilon old) (HasFirst old) s.sound.nullable s.sound.first (body_of G p) x)

      body_first : (t : ℕ) → FirstsOf old (body_of G p) t → IsFirst G (rule (head_of G p) ∷ []) t
      body_first t x = let d = first_of_list G (HasEpsilon old) (HasFirst old) s.sound.nullable s.sound.first (body_of G p) t x in (d.0, derives_rule G o d.1)

      sound : AreSound G new
      sound = record {
        nullable = λ B x. elim ((h.nullable B).0 x) [ inl y ↦ s.sound.nullable B y | inr q ↦ subst (λ C. Nullable G (rule C ∷ [])) (sym q.0) (body_nullable q.1) ];
        first = λ B t x. elim ((h.first B t).0 x) [ inl y ↦ s.sound.first B t y | inr q ↦ subst (λ C. IsFirst G (rule C ∷ []) t) (sym q.0) (body_first t q.1) ];
      }

-- ---- how far sets can grow

pub token_step : (rows : List (List Bool)) (A u : ℕ) (was : Bool) → A < length rows → u < length (get_or rows A []) → IsTrue was ↔ IsTrue (is_set_in rows A u) → PassStep missing_in Anything rows (set rows A (set (get_or rows A []) u true)) (not was)
token_step rows A u was lt within tells = by was tells
  where
    row : List Bool
    row = get_or rows A []

    false_true : false ≡ true → ⊥
    false_true e = cc

    free : (IsTrue (is_set_in rows A u) → IsTrue false) → is_set row u ≡ false
    free f = elim (cases_Bool (is_set row u)) [ inl e ↦ absurd (false_true (f e)) | inr e ↦ e ]

    by : (b : Bool) → IsTrue b ↔ IsTrue (is_set_in rows A u) → PassStep missing_in Anything rows (set rows A (set row u true)) (not b)
    by true h = record { still = λ e. ap (λ l. set rows A l) (put_again row u within (h.0 refl)) ∙ set_same rows A row [] lt refl; closed = λ e. tt; fewer = λ e. cc }
    by false h = record {
      still = λ e. cc;
      closed = λ e. tt;
      fewer = λ e. let less = put_fills row u within (free h.1) in omega (arith, sum_by-set missing rows A (set row u true) [] lt, less);
    }

-- what a production's symbols add to its rule
pub adds_of : (G : Grammar) (p q A : ℕ) (a : List Sym) (old new : FirstSets) → q ≡ p → A ≡ head_of G q → a ≡ body_of G q → Adds A (FirstsOf old a) (AllOf (HasEpsilon old) a) old new → Adds (head_of G p) (FirstsOf old (body_of G p)) (AllOf (HasEpsilon old) (body_of G p)) old new
adds_of G p q A a old new same head body h =
    subst (λ k. Adds (head_of G k) (FirstsOf old (body_of G k)) (AllOf (HasEpsilon old) (body_of G k)) old new) same
    (subst (λ l. Adds (head_of G q) (FirstsOf old l) (AllOf (HasEpsilon old) l) old new) body
    (subst (λ B. Adds B (FirstsOf old a) (AllOf (HasEpsilon old) a) old new) head h))

-- ---- productions that were gone through

past_end : (bits : List Bool) (p : ℕ) → length bits ≤ p → IsTrue (is_set bits p) → ⊥
past_end bits p le is = unset (sym (get_or_past bits p false le) ∙ is)
  where
    unset : false ≡ true → ⊥
    unset e = cc

-- the set of one production's rule changed: those that don't name the rule stay closed
module _ (G : Grammar) (n : ℕ) (old new : FirstSets) (h : Adds (head_of G n) (FirstsOf old (body_of G n)) (AllOf (HasEpsilon old) (body_of G n)) old new) (lists : List (List ℕ)) (names : ListsNaming G (length G.productions) lists)
    (done mid after : List Bool) (width : length done ≡ length G.productions) (lt : n < length G.productions) (put : mid ≡ set done n true) (closed : (p : ℕ) → IsTrue (is_set done p) → IsClosedAt G old p)
    (same : length after ≡ length mid) (fewer : (p : ℕ) → IsTrue (is_set after p) → IsTrue (is_set mid p)) (gone : (p : ℕ) → Contains (get_or lists (head_of G n) []) p → IsTrue (is_set after p) → ⊥) where
  abbrev A : ℕ
  A = head_of G n

  waits : Contains (head_of G n ∷ []) (head_of G n)
  waits = (0, omega arith, refl)

  closed_or : (p : ℕ) → IsTrue (is_set mid p) → IsClosedOrWaits G new (head_of G n ∷ []) p
  closed_or p is = elim ((put_in done n p (omega (arith, lt, width))).0 (subst (λ l. IsTrue (is_set l p)) put is)) [
    | inl was ↦ closed_still G (head_of G n) (FirstsOf old (body_of G n)) (AllOf (HasEpsilon old) (body_of G n)) old new h (head_of G n ∷ []) p waits (closed p was)
    | inr e ↦ subst (IsClosedOrWaits G new (head_of G n ∷ [])) e (closed_here G n old new h (head_of G n ∷ []) waits)
  ]

  is_rule : (B : ℕ) → Contains (head_of G n ∷ []) B → B ≡ head_of G n
  is_rule B (zero, within, e) = sym e
  is_rule B (suc k, within, e) = absurd (omega (arith, within))

  pub done_closed : (p : ℕ) → IsTrue (is_set after p) → IsClosedAt G new p
  done_closed p is = elim (closed_or p (fewer p is)) [
    | inl c ↦ c
    | inr (B, d, next, one) ↦ absurd (gone p (names.named p d (head_of G n) low (subst (λ C. IsNext G p d (rule C)) (is_rule B one) next)) is)
  ]
    where
      low : p < length G.productions
      low = elim (cases_lt p (length after)) [
        | inl less ↦ (let s = ap length put ∙ length-set done n true in omega (arith, less, same, s, width))
        | inr le ↦ absurd (past_end after p le is)
      ]

  pub done_width : length after ≡ length G.productions
  done_width = same ∙ ap length put ∙ length-set done n true ∙ width

-- where no rule waits, all is closed
pub closed_all : (G : Grammar) (s : FirstSets) → AreFirstsClosedBut G s [] → (p : ℕ) → p < length G.productions → IsClosedAt G s p
closed_all G s closed p lt = by (closed p lt)
  where
    by : IsClosedOrWaits G s [] p → IsClosedAt G s p
    by (inl c) = c
    by (inr (A, d, next, (k, within, e))) = absurd (omega (arith, within))
