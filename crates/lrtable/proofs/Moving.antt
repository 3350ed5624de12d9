-- The items of a closed core move into the sets of symbols.
use Rattle.std.proofs.Common.{◌≡◌, ℕ, suc, ◌+◌, ◌<◌, ◌≤◌, ◌⊎◌, inl, inr, Bool, List, [], ◌∷◌, ◌++◌, length, get_or, map, set, take, replicate, refl, sym, ap, ◌∙◌, subst, subst₂, arith}
use Rattle.std.specs.Prelude.{IsTrue}
use Rattle.std.specs.List.{Contains}
use Rattle.std.proofs.lemmas.Bool.{cases_eq, cases_lt}
use Rattle.std.proofs.lemmas.List.{take_all, length-map, map-set, length-replicate, get_or-replicate, get_or_past}
use Rattle.std.proofs.lemmas.List.Elements.{Contains-append_left, Contains-push, Contains-push_cases}
use Rattle.cfg_theory.specs.Grammar.{Sym, Grammar, InRange, IsOf, IsNext, WellFormed, head_of}
use Rattle.vob.specs.Sets.{is_set}
use Rattle.cfg_numbered.specs.Value.{productions_of}
use Rattle.cfg_numbered.proofs.RuleLists.{listed, alone}
use Rattle.lr_theory.specs.Itemset.{Items, Lookaheads, ItemSet, HasItem, HasLook, Closure, ClosureLook}
use Rattle.state_table.specs.Adding.{Adds, SingleItem, OneLooks}
use Rattle.lrtable.specs.Closes.{AreFronts}
use Rattle.state_table.specs.ItemRows.{no_core, IsAt, Core, IsCoreOf, map_of}
use Rattle.lrtable.specs.Gaining.{core_in, moved_by, AreSets, Gains}
use Rattle.lrtable.specs.Handling.{rank}
use Rattle.state_table.specs.Meeting.{row}
use Rattle.lrtable.specs.Opening.{Front, RuleSets, IsOpen, HasRuleLook}
use Rattle.lrtable.specs.Stepping.{ItemsBelow, LooksBelow, OfRule, OfRuleLooks, OpenAt, OpenLooksAt, OpenBelow, OpenLooksBelow, IsClosureOf, AreGotos}
use Rattle.lrtable.proofs.CloseLaws.{item, look, held_look}
use Rattle.lrtable.proofs.Closing.{look_open}
use Rattle.lrtable.proofs.Gaining.{gains_none, gains_on, gains_as, gains_one}
use Rattle.state_table.proofs.CoreSteps.{map_at}
use Rattle.lrtable.proofs.Ranks.{rank_below}
use Rattle.lrtable.proofs.Seeding.{below_none, below_next, below_all, looks_next, looks_all}
use Rattle.state_table.proofs.Fitting.{no_items}

-- the first k productions of a rule at dot nought
abbrev pub ListedBelow : Grammar → ℕ → ℕ → Items
ListedBelow G A k p d = (d ≡ 0) × Contains (take k (productions_of G A)) p

abbrev pub ListedLooks : Grammar → ℕ → ℕ → (ℕ → Type 0) → Lookaheads
ListedLooks G A k L p d t = (d ≡ 0) × Contains (take k (productions_of G A)) p × L t

none_contained : (p : ℕ) → Contains [] p → ⊥
none_contained p h = let lt = h.1 in omega (arith, lt)

pub listed_begin : (G : Grammar) (A : ℕ) (L : ℕ → Type 0) (sets : List Core) → AreSets G.tokens sets → Gains G (ListedBelow G A 0) (ListedLooks G A 0 L) sets sets
listed_begin G A L sets good = gains_none G (ListedBelow G A 0) (ListedLooks G A 0 L) sets good (λ p d X h n. none_contained p h.1) (λ p d t X h n. none_contained p h.1)

pub listed_more : (G : Grammar) (A k q : ℕ) (bits : List Bool) (a b c : List Core) → take (k + 1) (productions_of G A) ≡ take k (productions_of G A) ++ q ∷ [] →
    Gains G (ListedBelow G A k) (ListedLooks G A k (λ t. IsTrue (is_set bits t))) a b → Gains G (SingleItem q 0) (OneLooks q 0 bits) b c → Gains G (ListedBelow G A (k + 1)) (ListedLooks G A (k + 1) (λ t. IsTrue (is_set bits t))) a c
listed_more G A k q bits a b c e h m = gains_as G (λ p d. ListedBelow G A k p d ⊎ SingleItem q 0 p d) (ListedBelow G A (k + 1)) (λ p d t. ListedLooks G A k (λ u. IsTrue (is_set bits u)) p d t ⊎ OneLooks q 0 bits p d t) (ListedLooks G A (k + 1) (λ t. IsTrue (is_set bits t))) a c
    (λ p d. (to p d, back p d)) (λ p d t. (to_look p d t, back_look p d t)) (gains_on G (ListedBelow G A k) (SingleItem q 0) (ListedLooks G A k (λ t. IsTrue (is_set bits t))) (OneLooks q 0 bits) a b c h m)
  where
    contained : (p : ℕ) → Contains (take k (productions_of G A)) p → Contains (take (k + 1) (productions_of G A)) p
    contained p x = subst (λ l. Contains l p) (sym e) (Contains-append_left (take k (productions_of G A)) (q ∷ []) p x)

    last : (p : ℕ) → p ≡ q → Contains (take (k + 1) (productions_of G A)) p
    last p s = subst (λ r. Contains (take (k + 1) (productions_of G A)) r) (sym s) (subst (λ l. Contains l q) (sym e) (Contains-push (take k (productions_of G A)) q))

    parts : (p : ℕ) → Contains (take (k + 1) (productions_of G A)) p → Contains (take k (productions_of G A)) p ⊎ (q ≡ p)
    parts p x = Contains-push_cases (take k (productions_of G A)) q p (subst (λ l. Contains l p) e x)

    to : (p d : ℕ) → ListedBelow G A k p d ⊎ SingleItem q 0 p d → ListedBelow G A (k + 1) p d
    to p d (inl (z, x)) = (z, contained p x)
    to p d (inr (s, z)) = (z, last p s)

    back : (p d : ℕ) → ListedBelow G A (k + 1) p d → ListedBelow G A k p d ⊎ SingleItem q 0 p d
    back p d (z, x) = elim (parts p x) [ inl y ↦ inl (z, y) | inr s ↦ inr (sym s, z) ]

    to_look : (p d t : ℕ) → ListedLooks G A k (λ u. IsTrue (is_set bits u)) p d t ⊎ OneLooks q 0 bits p d t → ListedLooks G A (k + 1) (λ u. IsTrue (is_set bits u)) p d t
    to_look p d t (inl (z, x, l)) = (z, contained p x, l)
    to_look p d t (inr (s, z, l)) = (z, last p s, l)

    back_look : (p d t : ℕ) → ListedLooks G A (k + 1) (λ u. IsTrue (is_set bits u)) p d t → ListedLooks G A k (λ u. IsTrue (is_set bits u)) p d t ⊎ OneLooks q 0 bits p d t
    back_look p d t (z, x, l) = elim (parts p x) [ inl y ↦ inl (z, y, l) | inr s ↦ inr (sym s, z, l) ]

pub listed_end : (G : Grammar) (A k : ℕ) (L : ℕ → Type 0) (a b : List Core) → length (productions_of G A) ≤ k → Gains G (ListedBelow G A k) (ListedLooks G A k L) a b → Gains G (OfRule G A) (OfRuleLooks G A L) a b
listed_end G A k L a b le h = gains_as G (ListedBelow G A k) (OfRule G A) (ListedLooks G A k L) (OfRuleLooks G A L) a b (λ p d. (λ x. (x.0, to p x.1), λ x. (x.0, back p x.1))) (λ p d t. (λ x. (x.0, to p x.1, x.2), λ x. (x.0, back p x.1, x.2))) h
  where
    to : (p : ℕ) → Contains (take k (productions_of G A)) p → IsOf G p A
    to p x = let y = alone G A p (subst (λ l. Contains l p) (take_all k (productions_of G A) le) x) in record { in_range = y.0; head = y.1 }

    back : (p : ℕ) → IsOf G p A → Contains (take k (productions_of G A)) p
    back p o = subst (λ l. Contains l p) (sym (take_all k (productions_of G A) le)) (subst (λ B. Contains (productions_of G B) p) o.head (listed G p o.in_range))

-- ---- the open rules

pub open_begin : (G : Grammar) (s : RuleSets) (sets : List Core) → AreSets G.tokens sets → Gains G (OpenBelow G s 0) (OpenLooksBelow G s 0) sets sets
open_begin G s sets good = gains_none G (OpenBelow G s 0) (OpenLooksBelow G s 0) sets good (λ p d X h n. (let lt = h.2 in omega (arith, lt))) (λ p d t X h n. (let lt = h.2 in omega (arith, lt)))

-- a rule that is open, and one that isn't
pub open_at : (G : Grammar) (s : RuleSets) (A B : ℕ) (bits : List Bool) (b c : List Core) → A ≡ B → IsOpen s B → bits ≡ get_or s.rows B [] → Gains G (OfRule G A) (OfRuleLooks G A (λ t. IsTrue (is_set bits t))) b c → Gains G (OpenAt G s B) (OpenLooksAt G s B) b c
open_at G s A B bits b c q is_open e h = gains_as G (OfRule G A) (OpenAt G s B) (OfRuleLooks G A (λ t. IsTrue (is_set bits t))) (OpenLooksAt G s B) b c
    (λ p d. (λ x. (x.0, subst (IsOf G p) q x.1, is_open), λ x. (x.0, subst (IsOf G p) (sym q) x.1)))
    (λ p d t. (λ x. (x.0, subst (IsOf G p) q x.1, is_open, subst (λ r. IsTrue (is_set r t)) e x.2), λ x. (x.0, subst (IsOf G p) (sym q) x.1, subst (λ r. IsTrue (is_set r t)) (sym e) x.3))) h

pub closed_at : (G : Grammar) (s : RuleSets) (A : ℕ) (sets : List Core) → AreSets G.tokens sets → (IsOpen s A → ⊥) → Gains G (OpenAt G s A) (OpenLooksAt G s A) sets sets
closed_at G s A sets good none = gains_none G (OpenAt G s A) (OpenLooksAt G s A) sets good (λ p d X h n. none h.2) (λ p d t X h n. none h.2)

pub open_next : (G : Grammar) (s : RuleSets) (A : ℕ) (a b c : List Core) → Gains G (OpenBelow G s A) (OpenLooksBelow G s A) a b → Gains G (OpenAt G s A) (OpenLooksAt G s A) b c → Gains G (OpenBelow G s (A + 1)) (OpenLooksBelow G s (A + 1)) a c
open_next G s A a b c h m = gains_as G (λ p d. OpenBelow G s A p d ⊎ OpenAt G s A p d) (OpenBelow G s (A + 1)) (λ p d t. OpenLooksBelow G s A p d t ⊎ OpenLooksAt G s A p d t) (OpenLooksBelow G s (A + 1)) a c
    (λ p d. (to p d, back p d)) (λ p d t. (to_look p d t, back_look p d t)) (gains_on G (OpenBelow G s A) (OpenAt G s A) (OpenLooksBelow G s A) (OpenLooksAt G s A) a b c h m)
  where
    to : (p d : ℕ) → OpenBelow G s A p d ⊎ OpenAt G s A p d → OpenBelow G s (A + 1) p d
    to p d (inl (z, r, lt, x)) = (z, r, omega (arith, lt), x)
    to p d (inr (z, o, x)) = (z, o.in_range, (let q = o.head in omega (arith, q)), subst (IsOpen s) (sym o.head) x)

    back : (p d : ℕ) → OpenBelow G s (A + 1) p d → OpenBelow G s A p d ⊎ OpenAt G s A p d
    back p d (z, r, lt, x) = elim (cases_eq (head_of G p) A) [ inl q ↦ inr (z, record { in_range = r; head = q }, subst (IsOpen s) q x) | inr ne ↦ inl (z, r, omega (arith, lt, ne), x) ]

    to_look : (p d t : ℕ) → OpenLooksBelow G s A p d t ⊎ OpenLooksAt G s A p d t → OpenLooksBelow G s (A + 1) p d t
    to_look p d t (inl (z, r, lt, x, l)) = (z, r, omega (arith, lt), x, l)
    to_look p d t (inr (z, o, x, l)) = (z, o.in_range, (let q = o.head in omega (arith, q)), subst (IsOpen s) (sym o.head) x, subst (λ B. HasRuleLook s B t) (sym o.head) l)

    back_look : (p d t : ℕ) → OpenLooksBelow G s (A + 1) p d t → OpenLooksBelow G s A p d t ⊎ OpenLooksAt G s A p d t
    back_look p d t (z, r, lt, x, l) = elim (cases_eq (head_of G p) A) [
      | inl q ↦ inr (z, record { in_range = r; head = q }, subst (IsOpen s) q x, subst (λ B. HasRuleLook s B t) q l)
      | inr ne ↦ inl (z, r, omega (arith, lt, ne), x, l)
    ]

-- ---- all of them

pub empty_sets_good : (tokens n : ℕ) → AreSets tokens (replicate n no_core)
empty_sets_good tokens n k lt = subst (λ c. IsCoreOf tokens c) (sym (get_or-replicate n k no_core no_core (let l = length-replicate n no_core in omega (arith, lt, l)))) (record { ascends = λ i j d l w. absurd (omega (arith, w)); count = refl; width = λ i l. absurd (omega (arith, l)) })

pub none_moved : (G : Grammar) (n : ℕ) (X : Sym) → moved_by G (replicate n no_core) X ≡ map_of no_core
none_moved G n X = ap map_of (elim (cases_lt (rank G X) n) [ inl lt ↦ get_or-replicate n (rank G X) no_core no_core lt | inr ge ↦ get_or_past (replicate n no_core) (rank G X) no_core (let l = length-replicate n no_core in omega (arith, ge, l)) ])

pub all_moved : (G : Grammar) (fronts : List (List Front)) (c : Core) (s : RuleSets) (n : ℕ) (a b e : List Core) → WellFormed G → AreFronts G fronts → IsClosureOf G fronts c s → n ≡ G.rules + G.tokens → a ≡ replicate n no_core →
    Gains G (HasItem (map_of c)) (HasLook (map_of c)) a b → Gains G (OpenBelow G s G.rules) (OpenLooksBelow G s G.rules) b e →
    AreGotos G (Closure G (HasItem (map_of c))) (ClosureLook G (HasItem (map_of c)) (HasLook (map_of c))) e
all_moved G fronts c s n a b e good fit closed size none h k = record {
  count = all.count ∙ ap length none ∙ length-replicate n no_core ∙ size;
  good = all.good;
  is = λ X r. record {
    items = λ p d. (λ x. (all.items X r p d).1 (inr x), λ x. elim ((all.items X r p d).0 x) [ inl y ↦ absurd (empty X p d y) | inr y ↦ y ]);
    looks = λ p d t. (λ x. (all.looks X r p d t).1 (inr x), λ x. elim ((all.looks X r p d t).0 x) [ inl y ↦ absurd (empty X p d (record { lookaheads = y.lookaheads; at = y.at })) | inr y ↦ y ]);
  };
}
  where
    in_closure : (p d : ℕ) → (HasItem (map_of c) p d ⊎ OpenBelow G s G.rules p d) → Closure G (HasItem (map_of c)) p d
    in_closure p d x = (item G fronts fit (HasItem (map_of c)) (HasLook (map_of c)) closed.from s (held_look (map_of c)) closed.seeds closed.opened p d).1 (elim x [ inl y ↦ inl y | inr y ↦ inr (y.0, y.1, y.3) ])

    of_closure : (p d : ℕ) → Closure G (HasItem (map_of c)) p d → (HasItem (map_of c) p d ⊎ OpenBelow G s G.rules p d)
    of_closure p d x = elim ((item G fronts fit (HasItem (map_of c)) (HasLook (map_of c)) closed.from s (held_look (map_of c)) closed.seeds closed.opened p d).0 x) [ inl y ↦ inl y | inr y ↦ inr (y.0, y.1, good.heads p (head_of G p) (record { in_range = y.1; head = refl }), y.2) ]

    look_in : (p d t : ℕ) → (HasLook (map_of c) p d t ⊎ OpenLooksBelow G s G.rules p d t) → ClosureLook G (HasItem (map_of c)) (HasLook (map_of c)) p d t
    look_in p d t x = (look G fronts fit (HasItem (map_of c)) (HasLook (map_of c)) closed.from s (held_look (map_of c)) closed.seeds closed.opened p d t).1 (elim x [ inl y ↦ inl y | inr y ↦ inr (y.0, y.1, y.4) ])

    of_look : (p d t : ℕ) → ClosureLook G (HasItem (map_of c)) (HasLook (map_of c)) p d t → (HasLook (map_of c) p d t ⊎ OpenLooksBelow G s G.rules p d t)
    of_look p d t x = elim ((look G fronts fit (HasItem (map_of c)) (HasLook (map_of c)) closed.from s (held_look (map_of c)) closed.seeds closed.opened p d t).0 x) [
      | inl y ↦ inl y
      | inr y ↦ inr (y.0, y.1, good.heads p (head_of G p) (record { in_range = y.1; head = refl }), look_open G fronts c s fit closed (head_of G p) t y.2, y.2)
    ]

    all : Gains G (Closure G (HasItem (map_of c))) (ClosureLook G (HasItem (map_of c)) (HasLook (map_of c))) a e
    all = gains_as G (λ p d. HasItem (map_of c) p d ⊎ OpenBelow G s G.rules p d) (Closure G (HasItem (map_of c))) (λ p d t. HasLook (map_of c) p d t ⊎ OpenLooksBelow G s G.rules p d t) (ClosureLook G (HasItem (map_of c)) (HasLook (map_of c))) a e
        (λ p d. (in_closure p d, of_closure p d)) (λ p d t. (look_in p d t, of_look p d t)) (gains_on G (HasItem (map_of c)) (OpenBelow G s G.rules) (HasLook (map_of c)) (OpenLooksBelow G s G.rules) a b e h k)

    empty : (X : Sym) (p d : ℕ) → HasItem (moved_by G a X) p d → ⊥
    empty X p d x = no_items p d (subst (λ (m : ItemSet). HasItem m p d) (ap (λ l. moved_by G l X) none ∙ none_moved G n X) x)

pub items_begin : (G : Grammar) (c : Core) (sets : List Core) → AreSets G.tokens sets → Gains G (ItemsBelow c 0) (LooksBelow c 0) sets sets
items_begin G c sets good = gains_none G (ItemsBelow c 0) (LooksBelow c 0) sets good (λ p d X h n. below_none c p d h) (λ p d t X h n. below_none c p d (h.0, h.1, h.2))

pub items_more : (G : Grammar) (c : Core) (k p d : ℕ) (bits : List Bool) (a b e : List Core) → IsAt c.items k p d → row c.rows k ≡ bits → Gains G (ItemsBelow c k) (LooksBelow c k) a b → Gains G (SingleItem p d) (OneLooks p d bits) b e → Gains G (ItemsBelow c (k + 1)) (LooksBelow c (k + 1)) a e
items_more G c k p d bits a b e at r h m = gains_as G (λ q f. ItemsBelow c k q f ⊎ SingleItem p d q f) (ItemsBelow c (k + 1)) (λ q f t. LooksBelow c k q f t ⊎ OneLooks p d bits q f t) (LooksBelow c (k + 1)) a e (below_next c k p d at) (looks_next c k p d bits at r)
    (gains_on G (ItemsBelow c k) (SingleItem p d) (LooksBelow c k) (OneLooks p d bits) a b e h m)

pub items_end : (G : Grammar) (c : Core) (k : ℕ) (a b : List Core) → IsCoreOf G.tokens c → length c.items ≤ k → Gains G (ItemsBelow c k) (LooksBelow c k) a b → Gains G (HasItem (map_of c)) (HasLook (map_of c)) a b
items_end G c k a b good le h = gains_as G (ItemsBelow c k) (HasItem (map_of c)) (LooksBelow c k) (HasLook (map_of c)) a b (below_all c G.tokens k good le) (looks_all c G.tokens k good le) h

-- ---- one item

pub no_move : (G : Grammar) (p d : ℕ) (bits : List Bool) (sets : List Core) → AreSets G.tokens sets → ((X : Sym) → IsNext G p d X → ⊥) → Gains G (SingleItem p d) (OneLooks p d bits) sets sets
no_move G p d bits sets good none = gains_none G (SingleItem p d) (OneLooks p d bits) sets good (λ q e X h n. none X (subst₂ (λ r s. IsNext G r s X) h.0 h.1 n)) (λ q e t X h n. none X (subst₂ (λ r s. IsNext G r s X) h.0 h.1 n))

module _ {V : Type 0} (f : V → Core) (tokens : ℕ) (sets : List V) (n : ℕ) (x : V) (lt : n < length sets) (read : x ≡ get_or sets n x) (good : AreSets tokens (map f sets)) where
  pub set_at : core_in (map f sets) n ≡ f x
  set_at = map_at f sets n x no_core lt read

  pub good_at : IsCoreOf tokens (f x)
  good_at = subst (IsCoreOf tokens) set_at (good n (let m = length-map sets f in omega (arith, m, lt)))

pub move_set : {V : Type 0} (G : Grammar) (f : V → Core) (sets : List V) (n : ℕ) (x y : V) (p d : ℕ) (X : Sym) (bits : List Bool) → InRange G X → IsNext G p d X → n ≡ rank G X → length sets ≡ G.rules + G.tokens → AreSets G.tokens (map f sets) → x ≡ get_or sets n x →
    (e : ℕ) → e ≡ d + 1 → Adds (map_of (f x)) p e bits (map_of (f y)) → IsCoreOf G.tokens (f y) → Gains G (SingleItem p d) (OneLooks p d bits) (map f sets) (map f (set sets n y))
move_set G f sets n x y p d X bits range next r count good read e q adds fits =
    let lt = rank_below G X range in
    let lt' : n < length sets = omega (arith, lt, r, count) in
    let m = length-map sets f in
    let at = set_at f G.tokens sets n x lt' read good in
    let s : e ≡ suc d = omega (arith, q) in
    let adds' = subst (λ k. Adds (map_of (f x)) p k bits (map_of (f y))) s adds in
    let there = subst (λ c. Adds (map_of c) p (suc d) bits (map_of (f y))) (sym at ∙ ap (core_in (map f sets)) r) adds' in
    subst (λ l. Gains G (SingleItem p d) (OneLooks p d bits) (map f sets) l) (ap (λ k. set (map f sets) k (f y)) (sym r) ∙ sym (map-set f sets n y))
    (gains_one G (map f sets) (f y) p d X bits range (omega (arith, m, count)) good next fits there)
