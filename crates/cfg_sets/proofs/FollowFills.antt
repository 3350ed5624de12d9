-- How takings fill FOLLOW sets.
use Rattle.std.proofs.Common.{◌≡◌, ℕ, zero, suc, ◌+◌, ◌<◌, ◌≤◌, ◌⊎◌, inl, inr, ◌↔◌, Bool, ◌||◌, List, [], ◌∷◌, ◌++◌, length, get_or, drop, Some, slice_get, refl, sym, ap, ◌∙◌, subst, arith}
use Rattle.std.specs.Prelude.{IsTrue}
use Rattle.std.specs.List.{Contains}
use Rattle.std.proofs.lemmas.List.{length-set, get_or-map}
use Rattle.std.proofs.lemmas.List.Elements.{Contains-push_cases}
use Rattle.std.proofs.lemmas.Bool.{cases_eq, cases_lt}
use Rattle.cfg_theory.specs.Grammar.{Sym, rule, token, Grammar, IsNext, WellFormed, head_of, body_of}
use Rattle.cfg_theory.specs.First.{AllOf}
use Rattle.cfg_base.specs.declared.symbol.PIdx.{PIdx}
use Rattle.cfg_numbered.specs.Symbols.{numbers_of}
use Rattle.cfg_numbered.specs.Value.{productions_of}
use Rattle.vob.specs.Sets.{is_set, is_set_in, missing_in, joined_to, AreRows}
use Rattle.cfg_sets.specs.WorkLists.{Work, StandsFrom}
use Rattle.cfg_sets.specs.Firsts.{FirstSets, HasEpsilon, IsNullableIn, AreFirsts}
use Rattle.cfg_sets.specs.Follows.{FollowSets, HasFollow, AreFollowsSoundOf, Behind, HoldsAll, HandsOn, HandsOnOrWaits, AreFollowsClosedBut, AddsFollows, Hands, FollowsGoOn, HasAll, added}
use Rattle.vob.proofs.Bits.{join, length-bitwise, joined, row_set, rows_set}
use Rattle.cfg_numbered.proofs.RuleLists.{listed, alone}
use Rattle.cfg_sets.proofs.FollowSteps.{behind_follows, some_same, none_next}
use Rattle.cfg_sets.proofs.WorkSteps.{from_start}

-- ---- what begins behind rules

-- what stands behind the rules of the body of p from its dot d on, as the sets `old` tell, is in their sets
abbrev pub HoldsFrom : Grammar → FirstSets → ℕ → ℕ → FollowSets → FollowSets → Type 0
HoldsFrom G f p from old new = (d R t : ℕ) → from ≤ d → IsNext G p d (rule R) → Behind f (HasFollow old (head_of G p)) (drop (suc d) (body_of G p)) t → HasFollow new R t

pub holds_none : (G : Grammar) (f : FirstSets) (p n : ℕ) (old new : FollowSets) → length (body_of G p) ≤ n → HoldsFrom G f p n old new
holds_none G f p n old new le d R t from next b = absurd (none_next (body_of G p) d (rule R) (omega (arith, le, from)) next.at)

-- one symbol more
pub holds_more : (G : Grammar) (f : FirstSets) (p d : ℕ) (X : Sym) (bits : List Bool) (start old new : FollowSets) → slice_get (body_of G p) d ≡ Some X → ((t : ℕ) → IsTrue (is_set bits t) ↔ Behind f (HasFollow start (head_of G p)) (drop (suc d) (body_of G p)) t) →
    HoldsFrom G f p (suc d) start old → ((A t : ℕ) → HasFollow old A t → HasFollow new A t) → HasAll new X bits → HoldsFrom G f p d start new
holds_more G f p d X bits start old new at tells later kept here i R t le n b = elim (cases_eq i d) [ inl e ↦ at_place e | inr ne ↦ kept R t (later i R t (omega (arith, le, ne)) n b) ]
  where
    at_place : i ≡ d → HasFollow new R t
    at_place e =
        let same : X ≡ rule R = some_same X (rule R) (sym at ∙ ap (slice_get (body_of G p)) (sym e) ∙ n.at) in
        let all : HasAll new (rule R) bits = subst (λ Y. HasAll new Y bits) same here in
        all t ((tells t).1 (subst (λ k. Behind f (HasFollow start (head_of G p)) (drop (suc k) (body_of G p)) t) e b))

pub added_has : (n m : ℕ) (old new : FollowSets) (X : Sym) (bits : List Bool) → AreRows n m old.rows → ((A : ℕ) → X ≡ rule A → A < n) → length bits ≡ m → new.rows ≡ added old.rows X bits → HasAll new X bits
added_has n m old new (token u) bits r within len e = tt
added_has n m old new (rule A) bits r within len e = λ t h.
    let row = get_or old.rows A [] in
    let lt = within A refl in
    subst (λ l. IsTrue (is_set_in l A t)) (sym e) (elim (row_set old.rows A A t (join row bits) (subst (λ k. A < k) (sym r.count) lt)) [
      | inl q ↦ q.1 ∙ (joined row bits t (r.width A lt ∙ sym len)).1 (inr h)
      | inr q ↦ absurd (q.0 refl)
    ])

-- ---- what follows one rule, added to what follows another

pub adds_row : (A R : ℕ) (ys : List Bool) (old new : FollowSets) → R < length old.rows → length (get_or old.rows R []) ≡ length ys → ((t : ℕ) → IsTrue (is_set ys t) ↔ HasFollow old A t) → new.tokens ≡ old.tokens → new.rows ≡ joined_to old.rows R ys → AddsFollows A R old new
adds_row A R ys old new lt len tells tokens rows = record {
  tokens = tokens;
  count = ap length rows ∙ length-set old.rows R (join row ys);
  rows = λ n m r. subst (AreRows n m) (sym rows) (rows_set n m old.rows R (join row ys) r (length-bitwise (λ x y. x || y) row ys len ∙ r.width R (subst (λ k. R < k) r.count lt)));
  follow = λ B t. (to B t, from B t);
}
  where
    row : List Bool
    row = get_or old.rows R []

    to : (B t : ℕ) → HasFollow new B t → HasFollow old B t ⊎ ((B ≡ R) × HasFollow old A t)
    to B t x =
        let k : IsTrue (is_set_in (joined_to old.rows R ys) B t) = subst (λ l. IsTrue (is_set_in l B t)) rows x in
        elim (row_set old.rows R B t (join row ys) lt) [
          | inl q ↦ elim ((joined row ys t len).0 (sym q.1 ∙ k)) [ inl y ↦ inl (subst (λ C. HasFollow old C t) (sym q.0) y) | inr y ↦ inr (q.0, (tells t).0 y) ]
          | inr q ↦ inl (sym q.1 ∙ k)
        ]

    from : (B t : ℕ) → HasFollow old B t ⊎ ((B ≡ R) × HasFollow old A t) → HasFollow new B t
    from B t x = subst (λ l. IsTrue (is_set_in l B t)) (sym rows) (elim (row_set old.rows R B t (join row ys) lt) [
      | inl q ↦ q.1 ∙ (joined row ys t len).1 (elim x [ inl y ↦ inl (subst (λ C. HasFollow old C t) q.0 y) | inr p ↦ inr ((tells t).1 p.1) ])
      | inr q ↦ q.1 ∙ elim x [ inl y ↦ y | inr p ↦ absurd (q.0 p.0) ]
    ])

same_rule : (A B : ℕ) → ◌≡◌ {A = Sym} (rule A) (rule B) → A ≡ B
same_rule A B e = cc

pub hands_rule : (A R : ℕ) (old new : FollowSets) (was is : Work) → AddsFollows A R old new → (new ≡ old) ⊎ Contains is.list R → ((B : ℕ) → Contains was.list B → Contains is.list B) → is.rules ≡ was.rules → missing_in new.rows + length is.list ≤ missing_in old.rows + length was.list → Hands A (rule R) old new was is
hands_rule A R old new was is a waits list rules less = record {
  tokens = a.tokens;
  count = a.count;
  rows = a.rows;
  kept = λ B t h. (a.follow B t).1 (inl h);
  only = λ B t h. elim ((a.follow B t).0 h) [ inl y ↦ inl y | inr q ↦ inr (ap rule (sym q.0), q.1) ];
  handed = λ B t e h. (a.follow B t).1 (inr (sym (same_rule R B e), h));
  waits = elim waits [ inl e ↦ inl e | inr w ↦ inr (λ B e. subst (Contains is.list) (same_rule R B e) w) ];
  list = list;
  rules = rules;
  room = less;
}

pub hands_token : (A u : ℕ) (s : FollowSets) (w : Work) → Hands A (token u) s s w w
hands_token A u s w = record {
  tokens = refl;
  count = refl;
  rows = λ n m r. r;
  kept = λ B t h. h;
  only = λ B t h. inl h;
  handed = λ B t e h. absurd (no_token B e);
  waits = inl refl;
  list = λ B h. h;
  rules = refl;
  room = omega arith;
}
  where
    no_token : (B : ℕ) → ◌≡◌ {A = Sym} (token u) (rule B) → ⊥
    no_token B e = cc

-- ---- one symbol of a body, from its end

pub is_rule : (X : Sym) (B : ℕ) → (X ≡ rule B) ⊎ (X ≡ rule B → ⊥)
is_rule (rule A) B = elim (cases_eq A B) [ inl e ↦ inl (ap rule e) | inr ne ↦ inr (λ e. ne (same_rule A B e)) ]
is_rule (token u) B = inr (λ e. cc)

pub went_none : (G : Grammar) (f : FirstSets) (s : FollowSets) (w : Work) → FollowsGoOn G f s s w w
went_none G f s w = record { kept = λ A t h. h; closed = λ p h. h; rules = refl; room = omega arith }

pub went_more : (G : Grammar) (f : FirstSets) (A : ℕ) (X : Sym) (start old new : FollowSets) (first was is : Work) → FollowsGoOn G f start old first was → Hands A X old new was is → FollowsGoOn G f start new first is
went_more G f A X start old new first was is g h = record {
  kept = λ B t x. h.kept B t (g.kept B t x);
  closed = λ p x. next p (g.closed p x);
  rules = h.rules ∙ g.rules;
  room = let a = g.room in let b = h.room in omega (arith, a, b);
}
  where
    still : (p : ℕ) → (X ≡ rule (head_of G p) → ⊥) → HandsOn G f old p → HandsOn G f new p
    still p ne on d R t n all x = h.kept R t (on d R t n all (elim (h.only (head_of G p) t x) [ inl y ↦ y | inr q ↦ absurd (ne q.0) ]))

    next : (p : ℕ) → HandsOnOrWaits G f old was.list p → HandsOnOrWaits G f new is.list p
    next p (inr w) = inr (h.list (head_of G p) w)
    next p (inl on) = elim h.waits [
      | inl e ↦ inl (subst (λ s. HandsOn G f s p) (sym e) on)
      | inr all ↦ elim (is_rule X (head_of G p)) [ inl e ↦ inr (all (head_of G p) e) | inr ne ↦ inl (still p ne on) ]
    ]

-- what follows the rule of p is in the sets of the rules from the dot d on
abbrev pub HandedFrom : Grammar → ℕ → ℕ → FollowSets → Type 0
HandedFrom G p from s = (d R t : ℕ) → from ≤ d → IsNext G p d (rule R) → HasFollow s (head_of G p) t → HasFollow s R t

pub handed_none : (G : Grammar) (p n : ℕ) (s : FollowSets) → length (body_of G p) ≤ n → HandedFrom G p n s
handed_none G p n s le d R t from next b = absurd (none_next (body_of G p) d (rule R) (omega (arith, le, from)) next.at)

pub drop_past : (l : List Sym) (k : ℕ) → length l ≤ k → drop k l ≡ []
drop_past [] zero le = refl
drop_past [] (suc k) le = refl
drop_past (x ∷ l) zero le = absurd (omega (arith, le))
drop_past (x ∷ l) (suc k) le = drop_past l k (omega (arith, le))

all_at : (f : FirstSets) (l : List Sym) (m d : ℕ) (X : Sym) → m ≤ d → slice_get l d ≡ Some X → AllOf (HasEpsilon f) (drop m l) → IsNullableIn f X
all_at f [] m d X le at all = cc
all_at f (Y ∷ l) zero zero X le at all = let same : Y ≡ X = some_same Y X at in subst (IsNullableIn f) same (front Y all)
  where
    front : (Z : Sym) → AllOf (HasEpsilon f) (Z ∷ l) → IsNullableIn f Z
    front (rule A) h = h.0
    front (token t) h = h
all_at f (Y ∷ l) zero (suc d) X le at all = all_at f l zero d X (omega arith) at (rest Y all)
  where
    rest : (Z : Sym) → AllOf (HasEpsilon f) (Z ∷ l) → AllOf (HasEpsilon f) l
    rest (rule A) h = h.1
    rest (token t) h = absurd h
all_at f (Y ∷ l) (suc m) zero X le at all = absurd (omega (arith, le))
all_at f (Y ∷ l) (suc m) (suc d) X le at all = all_at f l m d X (omega (arith, le)) at all

pub all_cons : (f : FirstSets) (X : Sym) (a : List Sym) → IsNullableIn f X → AllOf (HasEpsilon f) a → AllOf (HasEpsilon f) (X ∷ a)
all_cons f (rule A) a n all = (n, all)
all_cons f (token t) a n all = n

module _ (G : Grammar) (f : FirstSets) (p d : ℕ) (X : Sym) (old new : FollowSets) (was is : Work) (at : slice_get (body_of G p) d ≡ Some X) (h : Hands (head_of G p) X old new was is) where
  pub handed_more : HandedFrom G p (suc d) old → HandedFrom G p d new
  handed_more later i R t le n x =
      let back : HasFollow old (head_of G p) t = elim (h.only (head_of G p) t x) [ inl y ↦ y | inr q ↦ q.1 ] in
      elim (cases_eq i d) [
        | inl e ↦ h.handed R t (some_same X (rule R) (sym at ∙ ap (slice_get (body_of G p)) (sym e) ∙ n.at)) back
        | inr ne ↦ h.kept R t (later i R t (omega (arith, le, ne)) n back)
      ]

  -- the end of what is handed on: the symbol isn't nullable
  pub handed_all : (IsNullableIn f X → ⊥) → HandedFrom G p d new → HandsOn G f new p
  handed_all stops handed i R t n all x = elim (before i) [ inl lt ↦ absurd (stops (all_at f (body_of G p) (suc i) d X (omega (arith, lt)) at all)) | inr le ↦ handed i R t le n x ]
    where
      before : (i : ℕ) → (i < d) ⊎ (d ≤ i)
      before i = cases_lt i d

  -- what is handed on is true
  pub handed_sound : (row new_row : List Bool) → AreFirsts G f → p < length G.productions → AllOf (HasEpsilon f) (drop (suc d) (body_of G p)) → AreFollowsSoundOf G old row → length new_row ≡ old.tokens → AreFollowsSoundOf G new new_row
  handed_sound row new_row k lt all s len = record {
    sizes = record { tokens = h.tokens ∙ s.sizes.tokens; rows = h.rows G.rules G.tokens s.sizes.rows };
    sound = λ R t x. elim (h.only R t x) [ inl y ↦ s.sound R t y | inr q ↦ behind_follows G f old k s.sound p d R t lt (record { at = at ∙ ap Some q.0 }) (inr (all, q.1)) ];
    width = len ∙ s.sizes.tokens;
  }

pub hands_whole : (G : Grammar) (f : FirstSets) (p : ℕ) (s : FollowSets) → HandedFrom G p 0 s → HandsOn G f s p
hands_whole G f p s handed d R t n all x = handed d R t (omega arith) n x

-- ---- the productions of a rule

pub taken_off : (G : Grammar) (f : FirstSets) (s : FollowSets) (work : List ℕ) (A p : ℕ) → p < length G.productions → HandsOnOrWaits G f s (work ++ A ∷ []) p → HandsOnOrWaits G f s work p ⊎ StandsFrom (productions_of G A) 0 p
taken_off G f s work A p lt (inl on) = inl (inl on)
taken_off G f s work A p lt (inr waits) = elim (Contains-push_cases work A (head_of G p) waits) [
  | inl w ↦ inl (inr w)
  | inr e ↦ inr (from_start (productions_of G A) p (subst (λ B. Contains (productions_of G B) p) (sym e) (listed G p lt)))
]

pub number_at : {S : Type 0} (number : S → ℕ) (xs : List (PIdx S)) (i : ℕ) (x : PIdx S) → i < length xs → x ≡ get_or xs i x → get_or (numbers_of number xs) i 0 ≡ number x.0
number_at number xs i x lt e = get_or-map (λ (q : PIdx _). number q.0) xs i x 0 lt ∙ ap (λ (q : PIdx _). number q.0) (sym e)

in_list : (l : List ℕ) (i n : ℕ) → i < length l → get_or l i 0 ≡ n → get_or l i n ≡ n
in_list [] i n lt e = absurd (omega (arith, lt))
in_list (x ∷ l) zero n lt e = e
in_list (x ∷ l) (suc i) n lt e = in_list l i n (omega (arith, lt)) e

pub of_rule : (G : Grammar) (A i n : ℕ) (l : List ℕ) → l ≡ productions_of G A → i < length l → get_or l i 0 ≡ n → n < length G.productions
of_rule G A i n l e lt at = (alone G A n (subst (λ k. Contains k n) e (i, lt, in_list l i n lt at))).0

pub head_is : (G : Grammar) (A i n : ℕ) (l : List ℕ) → l ≡ productions_of G A → i < length l → get_or l i 0 ≡ n → head_of G n ≡ A
head_is G A i n l e lt at = (alone G A n (subst (λ k. Contains k n) e (i, lt, in_list l i n lt at))).1

pub holds_still : (G : Grammar) (f : FirstSets) (old new : FollowSets) (was is : Work) → FollowsGoOn G f old new was is → HoldsAll G f old → HoldsAll G f new
holds_still G f old new was is g h = record {
  firsts = λ p lt d R t n x. g.kept R t (h.firsts p lt d R t n x);
  end = λ t e. g.kept 0 t (h.end t e);
}

-- where no rule waits, all hand on
pub hands_all : (G : Grammar) (f : FirstSets) (s : FollowSets) → AreFollowsClosedBut G f s [] → (p : ℕ) → p < length G.productions → HandsOn G f s p
hands_all G f s closed p lt = by (closed p lt)
  where
    by : HandsOnOrWaits G f s [] p → HandsOn G f s p
    by (inl on) = on
    by (inr (k, within, e)) = absurd (omega (arith, within))

-- where all rules wait, nothing is asked
pub all_wait : (G H : Grammar) (f : FirstSets) (s : FollowSets) (list : List ℕ) (n : ℕ) → WellFormed G → H ≡ G → n ≡ G.rules → ((A : ℕ) → A < n → Contains list A) → AreFollowsClosedBut H f s list
all_wait G H f s list n good same rules all = subst (λ K. AreFollowsClosedBut K f s list) (sym same) (λ p lt. inr (all (head_of G p) (subst (λ k. head_of G p < k) (sym rules) (good.heads p (head_of G p) (record { in_range = lt; head = refl })))))
