-- The productions of open rules, added at dot nought with one set for each rule: with the core's items they are its closure.
use Rattle.std.proofs.Common.{◌≡◌, ℕ, ◌+◌, ◌<◌, ◌≤◌, ◌⊎◌, inl, inr, Bool, List, [], ◌∷◌, ◌++◌, length, get_or, take, refl, sym, ◌∙◌, subst, arith}
use Rattle.std.specs.Prelude.{IsTrue, ◌↔◌}
use Rattle.std.specs.List.{Contains}
use Rattle.std.proofs.lemmas.List.{take_all}
use Rattle.std.proofs.lemmas.List.Elements.{Contains-append_left, Contains-push, Contains-push_cases}
use Rattle.cfg_theory.specs.Grammar.{Grammar, IsOf, WellFormed, head_of}
use Rattle.vob.specs.Sets.{is_set}
use Rattle.cfg_numbered.specs.Value.{productions_of}
use Rattle.table_theory.proofs.CellLists.{contains_nil, contains_cases}
use Rattle.cfg_numbered.proofs.RuleLists.{listed, alone}
use Rattle.lr_theory.specs.Itemset.{ItemSet, HasItem, HasLook, SameItems, SameLooks, Closure, ClosureLook, Is}
use Rattle.state_table.specs.declared.shared_sets.SharedSets.{SharedSets}
use Rattle.state_table.specs.Adding.{SingleItem, OneLooks}
use Rattle.lrtable.specs.Closes.{AreFronts}
use Rattle.state_table.specs.ItemRows.{Core, IsCoreOf, map_of}
use Rattle.state_table.specs.Meeting.{rows_in, row}
use Rattle.lrtable.specs.Opening.{Front, RuleSets, IsOpen, HasRuleLook}
use Rattle.state_table.specs.Sharing.{shared_core, shared_map, PointIn, KeepsSets, TakesIn, GrowsBy}
use Rattle.lrtable.specs.Stepping.{OfRule, OfRuleLooks, OpenBelow, OpenLooksBelow, IsClosureOf}
use Rattle.lrtable.proofs.Clearing.{next_in, rest_in, set_below}
use Rattle.lrtable.proofs.CloseLaws.{item, look, held_look}
use Rattle.lrtable.proofs.Closing.{look_open}
use Rattle.lrtable.proofs.Moving.{ListedBelow, ListedLooks}
use Rattle.state_table.proofs.Sharing.{grows_none, grows_on, grows_as, grows_one, grows_from, stays_pushed}

none_listed : (p : ℕ) → Contains [] p → ⊥
none_listed p h = let lt = h.1 in omega (arith, lt)

-- how far the productions of a rule were added, and that the set which they share stands where it stood
pub record AddsListed {S : Type 0} (number : S → ℕ) (G : Grammar) (A k n : ℕ) (bits : List Bool) (old new : SharedSets S) : Type 0 where
  pub grows : GrowsBy number G.tokens (ListedBelow G A k) (ListedLooks G A k (λ t. IsTrue (is_set bits t))) old new
  pub set : n < length (rows_in new.sets.items)
  pub is : row (rows_in new.sets.items) n ≡ bits

module _ {S : Type 0} (number : S → ℕ) (G : Grammar) where
  pub listed_none : (A n : ℕ) (bits : List Bool) (s : SharedSets S) → IsCoreOf G.tokens (shared_core number s) → PointIn (rows_in s.sets.items) s.entries.items → n < length (rows_in s.sets.items) → row (rows_in s.sets.items) n ≡ bits → AddsListed number G A 0 n bits s s
  listed_none A n bits s core points lt e = record {
    grows = grows_none number G.tokens (ListedBelow G A 0) (ListedLooks G A 0 (λ t. IsTrue (is_set bits t))) s core points (λ p d h. none_listed p h.1) (λ p d t h. none_listed p h.1);
    set = lt;
    is = e;
  }

  pub listed_next : (A k n q : ℕ) (bits : List Bool) (a b c : SharedSets S) → length bits ≡ G.tokens → take (k + 1) (productions_of G A) ≡ take k (productions_of G A) ++ q ∷ [] → AddsListed number G A k n bits a b → TakesIn number q 0 bits b c → AddsListed number G A (k + 1) n bits a c
  listed_next A k n q bits a b c wide e h m = record {
    grows = grows_as number G.tokens (λ p d. ListedBelow G A k p d ⊎ SingleItem q 0 p d) (ListedBelow G A (k + 1)) (λ p d t. ListedLooks G A k (λ u. IsTrue (is_set bits u)) p d t ⊎ OneLooks q 0 bits p d t) (ListedLooks G A (k + 1) (λ t. IsTrue (is_set bits t))) a c
        (λ p d. (to p d, back p d)) (λ p d t. (to_look p d t, back_look p d t))
        (grows_on number G.tokens (ListedBelow G A k) (SingleItem q 0) (ListedLooks G A k (λ t. IsTrue (is_set bits t))) (OneLooks q 0 bits) a b c h.grows (grows_one number G.tokens q 0 bits b c wide m));
    set = (let s = h.set in let more = m.sets.more in omega (arith, s, more));
    is = m.sets.same n h.set ∙ h.is;
  }
    where
      contained : (p : ℕ) → Contains (take k (productions_of G A)) p → Contains (take (k + 1) (productions_of G A)) p
      contained p x = subst (λ l. Contains l p) (sym e) (Contains-append_left (take k (productions_of G A)) (q ∷ []) p x)

      last : (p : ℕ) → p ≡ q → Contains (take (k + 1) (productions_of G A)) p
      last p s = subst (λ r. Contains (take (k + 1) (productions_of G A)) r) (sym s) (subst (λ l. Contains l q) (sym e) (Contains-push (take k (productions_of G A)) q))

      parts : (p : ℕ) → Contains (take (k + 1) (productions_of G A)) p → Contains (take k (productions_of G A)) p ⊎ (q ≡ p)
      parts p x = Contains-push_cases (take k (productions_of G A)) q p (subst (λ l. Contains l p) e x)

      to : (p d : ℕ) → ListedBelow G A k p d ⊎ SingleItem q 0 p d → ListedBelow G A (k + 1) p d
      to p d (inl (z, x)) = (z, contained p x)
      to p d (inr (s, z)) = (z, last p s)

      back : (p d : ℕ) → ListedBelow G A (k + 1) p d → ListedBelow G A k p d ⊎ SingleItem q 0 p d
      back p d (z, x) = elim (parts p x) [ inl y ↦ inl (z, y) | inr s ↦ inr (sym s, z) ]

      to_look : (p d t : ℕ) → ListedLooks G A k (λ u. IsTrue (is_set bits u)) p d t ⊎ OneLooks q 0 bits p d t → ListedLooks G A (k + 1) (λ u. IsTrue (is_set bits u)) p d t
      to_look p d t (inl (z, x, l)) = (z, contained p x, l)
      to_look p d t (inr (s, z, l)) = (z, last p s, l)

      back_look : (p d t : ℕ) → ListedLooks G A (k + 1) (λ u. IsTrue (is_set bits u)) p d t → ListedLooks G A k (λ u. IsTrue (is_set bits u)) p d t ⊎ OneLooks q 0 bits p d t
      back_look p d t (z, x, l) = elim (parts p x) [ inl y ↦ inl (z, y, l) | inr s ↦ inr (sym s, z, l) ]

  pub listed_all : (A k n : ℕ) (bits : List Bool) (a b : SharedSets S) → length (productions_of G A) ≤ k → AddsListed number G A k n bits a b → GrowsBy number G.tokens (OfRule G A) (OfRuleLooks G A (λ t. IsTrue (is_set bits t))) a b
  listed_all A k n bits a b le h = grows_as number G.tokens (ListedBelow G A k) (OfRule G A) (ListedLooks G A k (λ t. IsTrue (is_set bits t))) (OfRuleLooks G A (λ t. IsTrue (is_set bits t))) a b
      (λ p d. (λ x. (x.0, to p x.1), λ x. (x.0, back p x.1))) (λ p d t. (λ x. (x.0, to p x.1, x.2), λ x. (x.0, back p x.1, x.2))) h.grows
    where
      to : (p : ℕ) → Contains (take k (productions_of G A)) p → IsOf G p A
      to p x = let y = alone G A p (subst (λ l. Contains l p) (take_all k (productions_of G A) le) x) in record { in_range = y.0; head = y.1 }

      back : (p : ℕ) → IsOf G p A → Contains (take k (productions_of G A)) p
      back p o = subst (λ l. Contains l p) (sym (take_all k (productions_of G A) le)) (subst (λ B. Contains (productions_of G B) p) o.head (listed G p o.in_range))

  -- so far the productions of the open rules that aren't left were added, and none but those of open rules
  pub record OpensLeft (s : RuleSets) (left : List ℕ) (old new : SharedSets S) : Type 0 where
    pub items : (p d : ℕ) → HasItem (shared_map number new) p d → HasItem (shared_map number old) p d ⊎ OpenBelow G s G.rules p d
    pub looks : (p d t : ℕ) → HasLook (shared_map number new) p d t → HasLook (shared_map number old) p d t ⊎ OpenLooksBelow G s G.rules p d t
    pub kept : (p d : ℕ) → HasItem (shared_map number old) p d → HasItem (shared_map number new) p d
    pub kept_looks : (p d t : ℕ) → HasLook (shared_map number old) p d t → HasLook (shared_map number new) p d t
    pub opens : (p d : ℕ) → OpenBelow G s G.rules p d → HasItem (shared_map number new) p d ⊎ Contains left (head_of G p)
    pub opens_looks : (p d t : ℕ) → OpenLooksBelow G s G.rules p d t → HasLook (shared_map number new) p d t ⊎ Contains left (head_of G p)
    pub are_open : (A : ℕ) → Contains left A → IsOpen s A
    pub core : IsCoreOf G.tokens (shared_core number new)
    pub within : PointIn (rows_in new.sets.items) new.entries.items

  pub opens_none : (s : RuleSets) (left : List ℕ) (b : SharedSets S) → ((A : ℕ) → Contains left A ↔ IsOpen s A) → IsCoreOf G.tokens (shared_core number b) → PointIn (rows_in b.sets.items) b.entries.items → OpensLeft s left b b
  opens_none s left b walks core points = record {
    items = λ p d h. inl h;
    looks = λ p d t h. inl h;
    kept = λ p d h. h;
    kept_looks = λ p d t h. h;
    opens = λ p d h. inr ((walks (head_of G p)).1 h.3);
    opens_looks = λ p d t h. inr ((walks (head_of G p)).1 h.3);
    are_open = λ A. (walks A).0;
    core = core;
    within = points;
  }

  -- the next one is a rule
  pub opens_at : (s : RuleSets) (A : ℕ) (left rest : List ℕ) (a b : SharedSets S) → left ≡ A ∷ rest → length s.opened ≡ G.rules → OpensLeft s left a b → A < G.rules
  opens_at s A left rest a b e n h = subst (λ m. A < m) n (set_below s.opened A (h.are_open A (next_in left rest A e)))

  -- its productions
  pub opens_next : (s : RuleSets) (A B : ℕ) (bits : List Bool) (left rest : List ℕ) (a b c : SharedSets S) → left ≡ B ∷ rest → A ≡ B → B < G.rules → bits ≡ get_or s.rows B [] → OpensLeft s left a b → GrowsBy number G.tokens (OfRule G A) (OfRuleLooks G A (λ t. IsTrue (is_set bits t))) b c → OpensLeft s rest a c
  opens_next s A B bits left rest a b c e q lt is h m = record {
    items = λ p d x. elim ((m.extends.items p d).1 x) [ inl y ↦ h.items p d y | inr y ↦ inr (one p d y) ];
    looks = λ p d t x. elim ((m.extends.looks p d t).1 x) [
      | inl y ↦ h.looks p d t y
      | inr y ↦ inr (let o = one p d (y.0, y.1) in (o.0, o.1, o.2, o.3, subst (λ C. HasRuleLook s C t) (sym (y.1.head ∙ q)) (subst (λ r. IsTrue (is_set r t)) is y.2)))
    ];
    kept = λ p d x. (m.extends.items p d).0 (inl (h.kept p d x));
    kept_looks = λ p d t x. (m.extends.looks p d t).0 (inl (h.kept_looks p d t x));
    opens = λ p d o. elim (h.opens p d o) [
      | inl y ↦ inl ((m.extends.items p d).0 (inl y))
      | inr y ↦ elim (next (head_of G p) y) [ inl z ↦ inl ((m.extends.items p d).0 (inr (o.0, of p o.1 z))) | inr z ↦ inr z ]
    ];
    opens_looks = λ p d t o. elim (h.opens_looks p d t o) [
      | inl y ↦ inl ((m.extends.looks p d t).0 (inl y))
      | inr y ↦ elim (next (head_of G p) y) [ inl z ↦ inl ((m.extends.looks p d t).0 (inr (o.0, of p o.1 z, subst (λ r. IsTrue (is_set r t)) (sym is) (subst (λ C. HasRuleLook s C t) (sym z) o.4)))) | inr z ↦ inr z ]
    ];
    are_open = λ C x. h.are_open C (rest_in left rest B C e x);
    core = m.core;
    within = m.within;
  }
    where
      one : (p d : ℕ) → OfRule G A p d → OpenBelow G s G.rules p d
      one p d (z, o) = (z, o.in_range, (let k = o.head in omega (arith, k, q, lt)), subst (IsOpen s) (sym (o.head ∙ q)) (h.are_open B (next_in left rest B e)))

      next : (C : ℕ) → Contains left C → (B ≡ C) ⊎ Contains rest C
      next C x = contains_cases B C rest (subst (λ l. Contains l C) e x)

      of : (p : ℕ) → p < length G.productions → B ≡ head_of G p → IsOf G p A
      of p r z = record { in_range = r; head = sym (q ∙ z) }

  pub opens_all : (s : RuleSets) (left : List ℕ) (a b : SharedSets S) → left ≡ [] → OpensLeft s left a b → GrowsBy number G.tokens (OpenBelow G s G.rules) (OpenLooksBelow G s G.rules) a b
  opens_all s left a b e h = record {
    extends = record {
      items = λ p d. (λ x. elim x [ inl y ↦ h.kept p d y | inr y ↦ elim (h.opens p d y) [ inl z ↦ z | inr z ↦ absurd (contains_nil (head_of G p) (subst (λ l. Contains l (head_of G p)) e z)) ] ], h.items p d);
      looks = λ p d t. (λ x. elim x [ inl y ↦ h.kept_looks p d t y | inr y ↦ elim (h.opens_looks p d t y) [ inl z ↦ z | inr z ↦ absurd (contains_nil (head_of G p) (subst (λ l. Contains l (head_of G p)) e z)) ] ], h.looks p d t);
    };
    core = h.core;
    within = h.within;
  }

-- ---- the closure

module _ (G : Grammar) (fronts : List (List Front)) (c : Core) (s : RuleSets) (good : WellFormed G) (fit : AreFronts G fronts) (closed : IsClosureOf G fronts c s) where
  pub closure_items : SameItems (λ p d. HasItem (map_of c) p d ⊎ OpenBelow G s G.rules p d) (Closure G (HasItem (map_of c)))
  closure_items p d = (
    λ x. (item G fronts fit (HasItem (map_of c)) (HasLook (map_of c)) closed.from s (held_look (map_of c)) closed.seeds closed.opened p d).1 (elim x [ inl y ↦ inl y | inr y ↦ inr (y.0, y.1, y.3) ]),
    λ x. elim ((item G fronts fit (HasItem (map_of c)) (HasLook (map_of c)) closed.from s (held_look (map_of c)) closed.seeds closed.opened p d).0 x) [
      | inl y ↦ inl y
      | inr y ↦ inr (y.0, y.1, good.heads p (head_of G p) (record { in_range = y.1; head = refl }), y.2)
    ],
  )

  pub closure_looks : SameLooks (λ p d t. HasLook (map_of c) p d t ⊎ OpenLooksBelow G s G.rules p d t) (ClosureLook G (HasItem (map_of c)) (HasLook (map_of c)))
  closure_looks p d t = (
    λ x. (look G fronts fit (HasItem (map_of c)) (HasLook (map_of c)) closed.from s (held_look (map_of c)) closed.seeds closed.opened p d t).1 (elim x [ inl y ↦ inl y | inr y ↦ inr (y.0, y.1, y.4) ]),
    λ x. elim ((look G fronts fit (HasItem (map_of c)) (HasLook (map_of c)) closed.from s (held_look (map_of c)) closed.seeds closed.opened p d t).0 x) [
      | inl y ↦ inl y
      | inr y ↦ inr (y.0, y.1, good.heads p (head_of G p) (record { in_range = y.1; head = refl }), look_open G fronts c s fit closed (head_of G p) t y.2, y.2)
    ],
  )

  -- what is the core and the productions of the open rules is its closure
  pub closed_is : (a b : ItemSet) → a ≡ map_of c → SameItems (λ p d. HasItem a p d ⊎ OpenBelow G s G.rules p d) (HasItem b) → SameLooks (λ p d t. HasLook a p d t ⊎ OpenLooksBelow G s G.rules p d t) (HasLook b) →
      Is b (Closure G (HasItem (map_of c))) (ClosureLook G (HasItem (map_of c)) (HasLook (map_of c)))
  closed_is a b e items looks =
      let items' = subst (λ (m : ItemSet). SameItems (λ p d. HasItem m p d ⊎ OpenBelow G s G.rules p d) (HasItem b)) e items in
      let looks' = subst (λ (m : ItemSet). SameLooks (λ p d t. HasLook m p d t ⊎ OpenLooksBelow G s G.rules p d t) (HasLook b)) e looks in
      record {
        items = λ p d. (λ x. (items' p d).0 ((closure_items p d).1 x), λ x. (closure_items p d).0 ((items' p d).1 x));
        looks = λ p d t. (λ x. (looks' p d t).0 ((closure_looks p d t).1 x), λ x. (closure_looks p d t).0 ((looks' p d t).1 x));
      }

-- where the set that the productions of a rule share stands, before the first is added
pub rule_begun : {S : Type 0} (number : S → ℕ) (G : Grammar) (A n : ℕ) (bits : List Bool) (old new : SharedSets S) → KeepsSets (rows_in old.sets.items) (rows_in new.sets.items) → new.entries.items ≡ old.entries.items → n < length (rows_in new.sets.items) → row (rows_in new.sets.items) n ≡ bits →
    IsCoreOf G.tokens (shared_core number old) → PointIn (rows_in old.sets.items) old.entries.items → AddsListed number G A 0 n bits new new × ((k : ℕ) (b : SharedSets S) → AddsListed number G A k n bits new b → AddsListed number G A k n bits old b)
rule_begun {S = S} number G A n bits old new keeps es lt is core points =
    let same = stays_pushed number old new points keeps es in (
      listed_none number G A n bits new (subst (IsCoreOf G.tokens) (sym same.core) core) same.within lt is,
      λ k b h. record { grows = grows_from number G.tokens (ListedBelow G A k) (ListedLooks G A k (λ t. IsTrue (is_set bits t))) old new b same.core h.grows; set = h.set; is = h.is },
    )
