-- The fronts of a grammar's productions.
use Rattle.std.proofs.Common.{◌≡◌, ℕ, zero, suc, ◌+◌, ◌<◌, ◌⊎◌, inl, inr, Bool, true, false, ◌||◌, List, [], ◌∷◌, ◌++◌, length, get_or, set, take, Some, refl, sym, ap, ◌∙◌, subst, arith, length-set, get_or-set_same, get_or-set_other}
use Rattle.std.specs.Prelude.{IsTrue, map}
use Rattle.std.specs.List.{Contains}
use Rattle.std.proofs.lemmas.Bool.{cases_lt, cases_eq}
use Rattle.std.proofs.lemmas.List.{length-map, get_or_past, take-map, get_or_push, get_or_append_left, get_or_default}
use Rattle.std.proofs.lemmas.List.Elements.{Contains-append_left, Contains-append_right, Contains-append_cases, Contains-push_cases}
use Rattle.cfg_theory.specs.Grammar.{Grammar, rule, IsOf, IsNext, WellFormed, head_of}
use Rattle.vob.specs.Sets.{is_set}
use Rattle.cfg_base.specs.declared.symbol.PIdx.{PIdx}
use Rattle.cfg_numbered.specs.Symbols.{numbers_of}
use Rattle.cfg_numbered.specs.Value.{productions_of}
use Rattle.lrtable.specs.Opening.{Front, HasFront}
use Rattle.lrtable.proofs.OpenLaws.{mapped, map_next}
use Rattle.lrtable.specs.Closes.{AreFronts, IsFrontOf, AreFrontsOf, PutsAt, PutsFront, joined_front}
use Rattle.lr_theory.specs.Canonical.{from_dot}
use Rattle.cfg_theory.specs.Derivation.{Nullable, IsFirst}
use Rattle.vob.proofs.Bits.{length-bitwise, joined}

-- one symbol stands there
pub next_is : (G : Grammar) (q d A B : ℕ) → IsNext G q d (rule A) → IsNext G q d (rule B) → A ≡ B
next_is G q d A B h k = let e : Some (rule A) ≡ Some (rule B) = sym h.at ∙ k.at in cc

pub fronts_none : (G : Grammar) → AreFrontsOf G [] []
fronts_none G = record {
  width = λ e h. absurd (nothing e h);
  rules = λ e h. absurd (nothing e h);
  first = λ e t h x. absurd (nothing e h);
  nullable = λ e h x. absurd (nothing e h);
  has_rule = λ q B h n. absurd (no_number q h);
  has_first = λ q B t h n x. absurd (no_number q h);
  has_nullable = λ q B h n x. absurd (no_number q h);
}
  where
    nothing : (e : Front) → Contains [] e → ⊥
    nothing e h = let lt = h.1 in omega (arith, lt)

    no_number : (q : ℕ) → Contains [] q → ⊥
    no_number q h = let lt = h.1 in omega (arith, lt)

only_one : {X : Type 0} (x y : X) → Contains (x ∷ []) y → x ≡ y
only_one x y m = elim (Contains-push_cases [] x y m) [ inl h ↦ absurd (let lt = h.1 in omega (arith, lt)) | inr e ↦ e ]

-- the fronts of one production
one_front : (G : Grammar) (q : ℕ) (e : Front) → IsFrontOf G q e → AreFrontsOf G (q ∷ []) (e ∷ [])
one_front G q e f = record {
  width = λ g m. subst (λ x. length x.first ≡ G.tokens) (only_one e g m) f.rest.width;
  rules = λ g m. (q, here q, subst (λ x. IsNext G q zero (rule x.rule)) (only_one e g m) f.rule);
  first = λ g t m x. (let y = sym (only_one e g m) in (q, here q, subst (λ z. IsNext G q zero (rule z.rule)) (only_one e g m) f.rule, (f.rest.first t).0 (subst (λ z. IsTrue (is_set z.first t)) y x)));
  nullable = λ g m x. (q, here q, subst (λ z. IsNext G q zero (rule z.rule)) (only_one e g m) f.rule, f.rest.nullable.0 (subst (λ z. IsTrue z.nullable) (sym (only_one e g m)) x));
  has_rule = λ r B m n. (e, here e, next_is G q zero e.rule B f.rule (subst (λ s. IsNext G s zero (rule B)) (sym (only_one q r m)) n));
  has_first = λ r B t m n x. (e, here e, next_is G q zero e.rule B f.rule (subst (λ s. IsNext G s zero (rule B)) (sym (only_one q r m)) n), (f.rest.first t).1 (subst (λ s. IsFirst G (from_dot G s (suc zero)) t) (sym (only_one q r m)) x));
  has_nullable = λ r B m n x. (e, here e, next_is G q zero e.rule B f.rule (subst (λ s. IsNext G s zero (rule B)) (sym (only_one q r m)) n), f.rest.nullable.1 (subst (λ s. Nullable G (from_dot G s (suc zero))) (sym (only_one q r m)) x));
}
  where
    here : {X : Type 0} (x : X) → Contains (x ∷ []) x
    here x = (0, omega arith, refl)

-- the fronts of some productions, and of others beside them
module _ (G : Grammar) (ps qs : List ℕ) (es fs new : List Front) (h : AreFrontsOf G ps es) (k : AreFrontsOf G qs fs)
    (width : (e : Front) → Contains new e → length e.first ≡ G.tokens)
    (rules : (e : Front) → Contains new e → ((g : Front) × Contains es g × (g.rule ≡ e.rule)) ⊎ ((g : Front) × Contains fs g × (g.rule ≡ e.rule)))
    (first : (e : Front) (t : ℕ) → Contains new e → IsTrue (is_set e.first t) → ((g : Front) × Contains es g × (g.rule ≡ e.rule) × IsTrue (is_set g.first t)) ⊎ ((g : Front) × Contains fs g × (g.rule ≡ e.rule) × IsTrue (is_set g.first t)))
    (nullable : (e : Front) → Contains new e → IsTrue e.nullable → ((g : Front) × Contains es g × (g.rule ≡ e.rule) × IsTrue g.nullable) ⊎ ((g : Front) × Contains fs g × (g.rule ≡ e.rule) × IsTrue g.nullable))
    (old_in : (g : Front) → Contains es g → (e : Front) × Contains new e × (e.rule ≡ g.rule) × ((t : ℕ) → IsTrue (is_set g.first t) → IsTrue (is_set e.first t)) × (IsTrue g.nullable → IsTrue e.nullable))
    (new_in : (g : Front) → Contains fs g → (e : Front) × Contains new e × (e.rule ≡ g.rule) × ((t : ℕ) → IsTrue (is_set g.first t) → IsTrue (is_set e.first t)) × (IsTrue g.nullable → IsTrue e.nullable)) where
  left : (q : ℕ) → Contains ps q → Contains (ps ++ qs) q
  left q m = Contains-append_left ps qs q m

  right : (q : ℕ) → Contains qs q → Contains (ps ++ qs) q
  right q m = Contains-append_right ps qs q m

  pub fronts_both : AreFrontsOf G (ps ++ qs) new
  fronts_both = record {
    width = width;
    rules = λ e m. elim (rules e m) [
      | inl x ↦ (let y = h.rules x.0 x.1 in (y.0, left y.0 y.1, subst (λ B. IsNext G y.0 zero (rule B)) x.2 y.2))
      | inr x ↦ (let y = k.rules x.0 x.1 in (y.0, right y.0 y.1, subst (λ B. IsNext G y.0 zero (rule B)) x.2 y.2))
    ];
    first = λ e t m s. elim (first e t m s) [
      | inl x ↦ (let y = h.first x.0 t x.1 x.3 in (y.0, left y.0 y.1, subst (λ B. IsNext G y.0 zero (rule B)) x.2 y.2, y.3))
      | inr x ↦ (let y = k.first x.0 t x.1 x.3 in (y.0, right y.0 y.1, subst (λ B. IsNext G y.0 zero (rule B)) x.2 y.2, y.3))
    ];
    nullable = λ e m s. elim (nullable e m s) [
      | inl x ↦ (let y = h.nullable x.0 x.1 x.3 in (y.0, left y.0 y.1, subst (λ B. IsNext G y.0 zero (rule B)) x.2 y.2, y.3))
      | inr x ↦ (let y = k.nullable x.0 x.1 x.3 in (y.0, right y.0 y.1, subst (λ B. IsNext G y.0 zero (rule B)) x.2 y.2, y.3))
    ];
    has_rule = λ q B m n. elim (Contains-append_cases ps qs q m) [
      | inl x ↦ (let (g, i, r) = h.has_rule q B x n in let y = old_in g i in (y.0, y.1, y.2 ∙ r))
      | inr x ↦ (let (g, i, r) = k.has_rule q B x n in let y = new_in g i in (y.0, y.1, y.2 ∙ r))
    ];
    has_first = λ q B t m n s. elim (Contains-append_cases ps qs q m) [
      | inl x ↦ (let (g, i, r, u) = h.has_first q B t x n s in let y = old_in g i in (y.0, y.1, y.2 ∙ r, y.3 t u))
      | inr x ↦ (let (g, i, r, u) = k.has_first q B t x n s in let y = new_in g i in (y.0, y.1, y.2 ∙ r, y.3 t u))
    ];
    has_nullable = λ q B m n s. elim (Contains-append_cases ps qs q m) [
      | inl x ↦ (let (g, i, r, u) = h.has_nullable q B x n s in let y = old_in g i in (y.0, y.1, y.2 ∙ r, y.4 u))
      | inr x ↦ (let (g, i, r, u) = k.has_nullable q B x n s in let y = new_in g i in (y.0, y.1, y.2 ∙ r, y.4 u))
    ];
  }

-- a production that begins with no rule
no_front : (G : Grammar) (q : ℕ) → ((B : ℕ) → IsNext G q zero (rule B) → ⊥) → AreFrontsOf G (q ∷ []) []
no_front G q none = record {
  width = λ e h. absurd (nothing e h);
  rules = λ e h. absurd (nothing e h);
  first = λ e t h x. absurd (nothing e h);
  nullable = λ e h x. absurd (nothing e h);
  has_rule = λ r B m n. absurd (begins r B m n);
  has_first = λ r B t m n x. absurd (begins r B m n);
  has_nullable = λ r B m n x. absurd (begins r B m n);
}
  where
    nothing : (e : Front) → Contains [] e → ⊥
    nothing e h = let lt = h.1 in omega (arith, lt)

    begins : (r B : ℕ) → Contains (q ∷ []) r → IsNext G r zero (rule B) → ⊥
    begins r B m n = none B (subst (λ s. IsNext G s zero (rule B)) (sym (only_one q r m)) n)

or_cases : (a b : Bool) → IsTrue (a || b) → IsTrue a ⊎ IsTrue b
or_cases true b h = inl refl
or_cases false b h = inr h

or_left : (a b : Bool) → IsTrue a → IsTrue (a || b)
or_left true b h = refl
or_left false b h = absurd (let e : false ≡ true = h in cc)

or_right : (a b : Bool) → IsTrue b → IsTrue (a || b)
or_right true b h = refl
or_right false b h = h

-- what a list has in which one was replaced
set_cases : (old : List Front) (i : ℕ) (m g : Front) → i < length old → Contains (set old i m) g → (m ≡ g) ⊎ Contains old g
set_cases old i m g lt (j, lj, e) = elim (cases_eq j i) [
  | inl q ↦ inl (sym (get_or-set_same old i m g lt) ∙ ap (λ n. get_or (set old i m) n g) (sym q) ∙ e)
  | inr ne ↦ inr (j, (let n = length-set old i m in omega (arith, lj, n)), sym (get_or-set_other old i j m g ne) ∙ e)
]

module _ (G : Grammar) (qs : List ℕ) (q : ℕ) (old : List Front) (h : AreFrontsOf G qs old) (e : Front) (f : IsFrontOf G q e) where
  own : AreFrontsOf G (q ∷ []) (e ∷ [])
  own = one_front G q e f

  put_last : AreFrontsOf G (qs ++ q ∷ []) (old ++ e ∷ [])
  put_last = fronts_both G qs (q ∷ []) old (e ∷ []) (old ++ e ∷ []) h own
      (λ g m. elim (Contains-append_cases old (e ∷ []) g m) [ inl x ↦ h.width g x | inr x ↦ own.width g x ])
      (λ g m. elim (Contains-append_cases old (e ∷ []) g m) [ inl x ↦ inl (g, x, refl) | inr x ↦ inr (g, x, refl) ])
      (λ g t m s. elim (Contains-append_cases old (e ∷ []) g m) [ inl x ↦ inl (g, x, refl, s) | inr x ↦ inr (g, x, refl, s) ])
      (λ g m s. elim (Contains-append_cases old (e ∷ []) g m) [ inl x ↦ inl (g, x, refl, s) | inr x ↦ inr (g, x, refl, s) ])
      (λ g m. (g, Contains-append_left old (e ∷ []) g m, refl, (λ t u. u), (λ u. u)))
      (λ g m. (g, Contains-append_right old (e ∷ []) g m, refl, (λ t u. u), (λ u. u)))

  module _ (i : ℕ) (lt : i < length old) (same : (get_or old i e).rule ≡ e.rule) where
    abbrev x : Front
    x = get_or old i e

    abbrev m : Front
    m = joined_front x e.first e.nullable

    x_in : Contains old x
    x_in = (i, lt, get_or_default old i x e lt)

    m_in : Contains (set old i m) m
    m_in = (i, (let n = length-set old i m in omega (arith, lt, n)), get_or-set_same old i m m lt)

    wide : length x.first ≡ length e.first
    wide = h.width x x_in ∙ sym f.rest.width

    put_joined : AreFrontsOf G (qs ++ q ∷ []) (set old i m)
    put_joined = fronts_both G qs (q ∷ []) old (e ∷ []) (set old i m) h own
        (λ g c. elim (set_cases old i m g lt c) [ inl y ↦ subst (λ z. length z.first ≡ G.tokens) y (length-bitwise (λ a b. a || b) x.first e.first wide ∙ h.width x x_in) | inr y ↦ h.width g y ])
        (λ g c. elim (set_cases old i m g lt c) [ inl y ↦ inl (x, x_in, ap (λ z. z.rule) y) | inr y ↦ inl (g, y, refl) ])
        (λ g t c s. elim (set_cases old i m g lt c) [
          | inl y ↦ elim ((joined x.first e.first t wide).0 (subst (λ z. IsTrue (is_set z.first t)) (sym y) s)) [ inl u ↦ inl (x, x_in, ap (λ z. z.rule) y, u) | inr u ↦ inr (e, (0, omega arith, refl), sym same ∙ ap (λ z. z.rule) y, u) ]
          | inr y ↦ inl (g, y, refl, s)
        ])
        (λ g c s. elim (set_cases old i m g lt c) [
          | inl y ↦ elim (or_cases x.nullable e.nullable (subst (λ z. IsTrue z.nullable) (sym y) s)) [ inl u ↦ inl (x, x_in, ap (λ z. z.rule) y, u) | inr u ↦ inr (e, (0, omega arith, refl), sym same ∙ ap (λ z. z.rule) y, u) ]
          | inr y ↦ inl (g, y, refl, s)
        ])
        (λ g c. stays g c)
        (λ g c. (let y = only_one e g c in (m, m_in, same ∙ ap (λ z. z.rule) y, (λ t u. (joined x.first e.first t wide).1 (inr (subst (λ z. IsTrue (is_set z.first t)) (sym y) u))), (λ u. or_right x.nullable e.nullable (subst (λ z. IsTrue z.nullable) (sym y) u)))))
      where
        stays : (g : Front) → Contains old g → (z : Front) × Contains (set old i m) z × (z.rule ≡ g.rule) × ((t : ℕ) → IsTrue (is_set g.first t) → IsTrue (is_set z.first t)) × (IsTrue g.nullable → IsTrue z.nullable)
        stays g (j, lj, at) = elim (cases_eq j i) [
          | inl r ↦ (let y : x ≡ g = get_or_default old i e g lt ∙ ap (λ n. get_or old n g) (sym r) ∙ at in
              (m, m_in, ap (λ z. z.rule) y, (λ t u. (joined x.first e.first t wide).1 (inl (subst (λ z. IsTrue (is_set z.first t)) (sym y) u))), (λ u. or_left x.nullable e.nullable (subst (λ z. IsTrue z.nullable) (sym y) u))))
          | inr ne ↦ (g, (j, (let n = length-set old i m in omega (arith, lj, n)), get_or-set_other old i j m g ne ∙ at), refl, (λ t u. u), (λ u. u))
        ]

-- one production more
pub fronts_more : (G : Grammar) (qs : List ℕ) (q : ℕ) (old new : List Front) → AreFrontsOf G qs old → PutsFront G q old new → AreFrontsOf G (qs ++ q ∷ []) new
fronts_more G qs q old new h (PutsFront.none n) = fronts_both G qs (q ∷ []) old [] old h (no_front G q n) h.width (λ e m. inl (e, m, refl)) (λ e t m s. inl (e, m, refl, s)) (λ e m s. inl (e, m, refl, s))
    (λ g m. (g, m, refl, (λ t u. u), (λ u. u))) (λ g m. absurd (let lt = m.1 in omega (arith, lt)))
fronts_more G qs q old new h (PutsFront.one e f PutsAt.last) = put_last G qs q old h e f
fronts_more G qs q old new h (PutsFront.one e f (PutsAt.joined i lt same)) = put_joined G qs q old h e f i lt same

-- the fronts of all rules
pub fronts_all : (G : Grammar) (fronts : List (List Front)) → WellFormed G →
    ((p : ℕ) → p < length G.productions → Contains (productions_of G (head_of G p)) p) → ((A p : ℕ) → Contains (productions_of G A) p → (p < length G.productions) × (head_of G p ≡ A)) →
    length fronts ≡ G.rules → ((A : ℕ) → A < G.rules → AreFrontsOf G (productions_of G A) (get_or fronts A [])) → AreFronts G fronts
fronts_all G fronts good listed alone count h = record {
  count = count;
  fit = λ A e m. (let (q, c, n) = (h A (at A e m)).rules e m in good.symbols q zero (rule e.rule) n);
  width = λ A e m. (h A (at A e m)).width e m;
  rules = λ A e m. (let (q, c, n) = (h A (at A e m)).rules e m in (q, is_of A q c, n));
  first = λ A t e m x. (let (q, c, n, s) = (h A (at A e m)).first e t m x in (q, is_of A q c, n, s));
  nullable = λ A e m x. (let (q, c, n, s) = (h A (at A e m)).nullable e m x in (q, is_of A q c, n, s));
  has_rule = λ q A B o n. (h A (good.heads q A o)).has_rule q B (member q A o) n;
  has_first = λ q A B t o n x. (h A (good.heads q A o)).has_first q B t (member q A o) n x;
  has_nullable = λ q A B o n x. (h A (good.heads q A o)).has_nullable q B (member q A o) n x;
}
  where
    at : (A : ℕ) (e : Front) → HasFront fronts A e → A < G.rules
    at A e m = elim (cases_lt A G.rules) [
      | inl lt ↦ lt
      | inr ge ↦ absurd (let none = subst (λ l. Contains l e) (get_or_past fronts A [] (omega (arith, ge, count))) m in let lt = none.1 in omega (arith, lt))
    ]

    is_of : (A q : ℕ) → Contains (productions_of G A) q → IsOf G q A
    is_of A q c = let x = alone A q c in record { in_range = x.0; head = x.1 }

    member : (q A : ℕ) → IsOf G q A → Contains (productions_of G A) q
    member q A o = subst (λ C. Contains (productions_of G C) q) o.head (listed q o.in_range)

-- the next of a list that is listed by numbers
pub listed_next : {X : Type 0} (f : X → ℕ) (xs : List X) (qs : List ℕ) (k : ℕ) (x : X) → map f xs ≡ qs → k < length xs → x ≡ get_or xs k x → (take (k + 1) qs ≡ take k qs ++ f x ∷ []) × Contains qs (f x)
listed_next f xs qs k x e lt is =
    subst (λ l. (take (k + 1) l ≡ take k l ++ f x ∷ []) × Contains l (f x)) e (map_next_take f xs k x lt is, mapped f xs k x lt is)
  where
    map_next_take : {X : Type 0} (f : X → ℕ) (xs : List X) (k : ℕ) (x : X) → k < length xs → x ≡ get_or xs k x → take (k + 1) (map f xs) ≡ take k (map f xs) ++ f x ∷ []
    map_next_take f xs k x lt is = take-map f (k + 1) xs ∙ map_next f xs k x lt is ∙ ap (λ l. l ++ f x ∷ []) (sym (take-map f k xs))

-- the fronts of one rule more
pub each_more : (G : Grammar) (old new : List (List Front)) (n : ℕ) (es : List Front) → length old ≡ n → new ≡ old ++ es ∷ [] → ((A : ℕ) → A < n → AreFrontsOf G (productions_of G A) (get_or old A [])) → AreFrontsOf G (productions_of G n) es →
    (A : ℕ) → A < n + 1 → AreFrontsOf G (productions_of G A) (get_or new A [])
each_more G old new n es len e h here A lt = elim (cases_eq A n) [
  | inl q ↦ subst (λ B. AreFrontsOf G (productions_of G B) (get_or new B [])) (sym q) (subst (AreFrontsOf G (productions_of G n)) (sym (ap (λ l. get_or l n []) e ∙ get_or_push old es [] n len)) here)
  | inr ne ↦ subst (AreFrontsOf G (productions_of G A)) (sym (ap (λ l. get_or l A []) e ∙ get_or_append_left old (es ∷ []) [] A (omega (arith, lt, ne, len)))) (h A (omega (arith, lt, ne)))
]

pub listed_prod : {S : Type 0} (number : S → ℕ) (xs : List (PIdx S)) (qs : List ℕ) (k : ℕ) (x : PIdx S) → numbers_of number xs ≡ qs → k < length xs → x ≡ get_or xs k x → (take (k + 1) qs ≡ take k qs ++ number x.0 ∷ []) × Contains qs (number x.0)
listed_prod number xs qs k x e lt is = listed_next (λ p. number p.0) xs qs k x e lt is

pub listed_count : {S : Type 0} (number : S → ℕ) (xs : List (PIdx S)) (qs : List ℕ) → numbers_of number xs ≡ qs → length qs ≡ length xs
listed_count number xs qs e = ap length (sym e) ∙ length-map xs (λ p. number p.0)
