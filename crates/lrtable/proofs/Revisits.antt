-- The goto sets of a state that was taken before: where the rows of their lookaheads stand, and what an edge that stays
-- where it is tells.
use Rattle.std.proofs.Common.{◌≡◌, ◌≢◌, ℕ, zero, suc, ◌+◌, ◌-◌, ◌<◌, ◌≤◌, inl, inr, ◌↔◌, Bool, true, false, cond, List, [], ◌∷◌, ◌++◌, length, get_or, None, Some, refl, sym, ap, ap₂, ◌∙◌, subst, arith, length-append, length-set, get_or-set_same, get_or-set_other}
use Rattle.std.specs.Prelude.{IsTrue}
use Rattle.std.proofs.lemmas.Bool.{cases_eq, cases_lt}
use Rattle.std.proofs.lemmas.List.{get_or_default, get_or_append_left}
use Rattle.std.proofs.lemmas.List.Elements.{Contains-get_or}
use Rattle.std.proofs.Math.Seq.{get_or-append_seam}
use Rattle.cfg_theory.specs.Grammar.{Sym, rule, token, Grammar, WellFormed, InRange, IsNext, head_of}
use Rattle.vob.specs.Sets.{is_set}
use Rattle.vob.proofs.Bits.{set_same}
use Rattle.lr_theory.specs.Itemset.{Items, Lookaheads, ItemSet, HasItem, HasLook, SameItems, Closure, ClosureLook, Goto, GotoLook, Is}
use Rattle.lr_theory.specs.ItemLists.{Stands}
use Rattle.lr_theory.specs.Graph.{core_of}
use Rattle.lr_theory.specs.Building.{Building, same_symbol, symbols}
use Rattle.lr_theory.proofs.Building.{reached_sound}
use Rattle.lr_theory.proofs.Place.{same_symbol_true}
use Rattle.lrtable.specs.Closes.{AreFronts, InClosure, LookInClosure}
use Rattle.lrtable.specs.Handling.{rank, AreReached, AreHandled}
use Rattle.state_table.specs.ItemRows.{Item, Core, Ascends, IsAt, IsCoreOf, map_of, set_of, CoversRows, FitsCore}
use Rattle.state_table.specs.Meeting.{row}
use Rattle.lrtable.specs.Opening.{Front, RuleSets, Opened, OpenedLook}
use Rattle.lrtable.specs.MovedItems.{IsKernel}
use Rattle.lrtable.specs.Revisits.{IsMoved, AreMoved, IsRowBehind, AreRowsBehind, AreHeld, LeadsOn}
use Rattle.lrtable.specs.States.{Edge, AscendEdges, StateValue, no_state, state_at, edge_in, edge_of, AreStates, IsLinked, JoinsAt, ListsCore}
use Rattle.state_table.specs.Graphs.{SymBefore}
use Rattle.lrtable.specs.Stepping.{IsClosureOf, IsGotoAt, set_off}
use Rattle.lrtable.proofs.CloseLaws.{item, look, held_look}
use Rattle.lrtable.proofs.CoreSets.{covers_fit}
use Rattle.lrtable.proofs.EdgeOrder.{edge_here, after_differs}
use Rattle.lrtable.proofs.Handling.{skipped}
use Rattle.state_table.proofs.ItemSets.{has_item, has_look, one_place, nought, at_own}
use Rattle.lrtable.proofs.Placed.{placed_kept}
use Rattle.lrtable.proofs.Placing.{core_is, count_is}
use Rattle.lrtable.proofs.Ranks.{rank_at, rank_below, rank_once, symbol_count}
use Rattle.lrtable.proofs.Stepping.{next_in_range, rank_placed}
use Rattle.lrtable.proofs.TakenStates.{IsMade, AreMade, AnySymbol, reached_whole}

-- ---- the items of a goto set

-- where an item of a goto set comes from
pub from_goto : (G : Grammar) (I : Items) (X : Sym) (p d : ℕ) → Goto G I X p d → (e : ℕ) × (d ≡ suc e) × I p e × IsNext G p e X
from_goto G I X p d g = go g
  where
    go : {p d : ℕ} → Goto G I X p d → (e : ℕ) × (d ≡ suc e) × I p e × IsNext G p e X
    go (Goto.moved {p} {d} i n) = (d, refl, i, n)

module _ (G : Grammar) (c : Core) (X : Sym) (t : Core) (good : IsCoreOf G.tokens t) (same : SameItems (Goto G (Closure G (HasItem (map_of c))) X) (HasItem (map_of t))) where
  goto_of : (k : ℕ) → k < length t.items → Goto G (Closure G (HasItem (map_of c))) X (get_or t.items k nought).production (get_or t.items k nought).dot
  goto_of k lt = (same (get_or t.items k nought).production (get_or t.items k nought).dot).1 ((has_item t.items t.rows good.ascends good.count (get_or t.items k nought).production (get_or t.items k nought).dot).1 (k, at_own t.items k lt))

  pub all_moved : AreMoved G c t.items
  all_moved k d lt = subst (IsMoved G c) (get_or_default t.items k nought d lt)
      (let (e, z, i, n) = from_goto G (Closure G (HasItem (map_of c))) X (get_or t.items k nought).production (get_or t.items k nought).dot (goto_of k lt) in (e, z, i))

  pub goto_core_fits : FitsCore G t
  goto_core_fits = record {
    good = good;
    productions = λ k d lt. subst (λ (i : Item). i.production < length G.productions) (get_or_default t.items k nought d lt)
        (let (e, z, i, n) = from_goto G (Closure G (HasItem (map_of c))) X (get_or t.items k nought).production (get_or t.items k nought).dot (goto_of k lt) in next_in_range G (get_or t.items k nought).production e X n);
  }

-- a lookahead of a closure is that of an item of it
look_item : (G : Grammar) (I : Items) (L : Lookaheads) → ((p d t : ℕ) → L p d t → I p d) → {p d t : ℕ} → ClosureLook G I L p d t → Closure G I p d
look_item G I L h (ClosureLook.given {p} {d} {t} l) = Closure.given (h p d t l)
look_item G I L h (ClosureLook.first c n o f) = Closure.opened c n o
look_item G I L h (ClosureLook.passed l n o e) = Closure.opened (look_item G I L h l) n o

-- with the rows of its items a set is the goto set
pub is_goto : (G : Grammar) (c : Core) (X : Sym) (items : List Item) (held rows : List (List Bool)) → Ascends items → length held ≡ length items → SameItems (Goto G (Closure G (HasItem (map_of c))) X) (HasItem (set_of items held)) →
    AreRowsBehind G c items (length items) rows → Is (set_of items rows) (Goto G (Closure G (HasItem (map_of c))) X) (GotoLook G (ClosureLook G (HasItem (map_of c)) (HasLook (map_of c))) X)
is_goto G c X items held rows a n same behind = record { items = λ p d. (has p d, had p d); looks = λ p d t. (gives p d t, gave p d t) }
  where
    I : Items
    I = HasItem (map_of c)

    L : Lookaheads
    L = HasLook (map_of c)

    has : (p d : ℕ) → Goto G (Closure G I) X p d → HasItem (set_of items rows) p d
    has p d g = (has_item items rows a behind.count p d).1 ((has_item items held a n p d).0 ((same p d).0 g))

    had : (p d : ℕ) → HasItem (set_of items rows) p d → Goto G (Closure G I) X p d
    had p d h = (same p d).1 ((has_item items held a n p d).1 ((has_item items rows a behind.count p d).0 h))

    at_item : (k p d : ℕ) → IsAt items k p d → get_or items k (record { production = p; dot = d }) ≡ record { production = p; dot = d }
    at_item k p d at = ap₂ (λ (q e : ℕ). record { production = q; dot = e }) at.production at.dot

    row_is : (k p d : ℕ) → IsAt items k p d → IsRowBehind G c (record { production = p; dot = d }) (row rows k)
    row_is k p d at = subst (λ (i : Item). IsRowBehind G c i (row rows k)) (at_item k p d at) (behind.each k (record { production = p; dot = d }) at.within)

    moved_look : (p d t : ℕ) → GotoLook G (ClosureLook G I L) X p d t → (e : ℕ) × (d ≡ suc e) × ClosureLook G I L p e t × IsNext G p e X
    moved_look p d t g = go g
      where
        go : {p d t : ℕ} → GotoLook G (ClosureLook G I L) X p d t → (e : ℕ) × (d ≡ suc e) × ClosureLook G I L p e t × IsNext G p e X
        go (GotoLook.moved {p} {d} {t} l n) = (d, refl, l, n)

    gives : (p d t : ℕ) → GotoLook G (ClosureLook G I L) X p d t → HasLook (set_of items rows) p d t
    gives p d t g =
        let (e, z, l, next) = moved_look p d t g in
        let (k, at) = (has_item items held a n p d).0 ((same p d).0 (subst (λ m. Goto G (Closure G I) X p m) (sym z) (Goto.moved (look_item G I L (λ q f u. held_look (map_of c) q f u) l) next))) in
        (has_look items rows a behind.count p d t).1 (k, at, ((row_is k p d at).looks e t z).1 l)

    gave : (p d t : ℕ) → HasLook (set_of items rows) p d t → GotoLook G (ClosureLook G I L) X p d t
    gave p d t h =
        let (k, at, x) = (has_look items rows a behind.count p d t).0 h in
        let (e, z, i, m) = from_goto G (Closure G I) X p d (had p d (held_look (set_of items rows) p d t h)) in
        subst (λ f. GotoLook G (ClosureLook G I L) X p f t) (sym z) (GotoLook.moved (((row_is k p d at).looks e t z).0 x) m)

-- ---- where a row stands

module _ (G : Grammar) (good : WellFormed G) (fronts : List (List Front)) (are : AreFronts G fronts) (c : Core) (fits : FitsCore G c) (kernel : IsKernel G (HasItem (map_of c))) (s : RuleSets) (closed : IsClosureOf G fronts c s) where
  abbrev in_core : Items
  in_core = HasItem (map_of c)

  abbrev core_looks : Lookaheads
  core_looks = HasLook (map_of c)

  in_closure : (p d : ℕ) → Closure G in_core p d ↔ InClosure G in_core s p d
  in_closure = item G fronts are in_core core_looks closed.from s (λ p d t. held_look (map_of c) p d t) closed.seeds closed.opened

  look_in : (p d t : ℕ) → ClosureLook G in_core core_looks p d t ↔ LookInClosure G core_looks s p d t
  look_in = look G fronts are in_core core_looks closed.from s (λ p d t. held_look (map_of c) p d t) closed.seeds closed.opened

  -- the start rule isn't opened, and has no lookahead
  not_open : {A : ℕ} → Opened fronts closed.from A → A ≡ 0 → ⊥
  not_open (Opened.given {A} h) z = let (p, d, i, n) = (closed.seeds.rules A).0 h in good.no_start p d (subst (λ B. IsNext G p d (rule B)) z n)
  not_open (Opened.opened {A} {B} e o m r) z = let (q, f, n) = are.rules A e m in good.no_start q zero (subst (λ C. IsNext G q zero (rule C)) (r ∙ z) n)

  no_look : {A t : ℕ} → OpenedLook fronts closed.from A t → A ≡ 0 → ⊥
  no_look (OpenedLook.given {A} {t} h) z = elim ((closed.seeds.looks A t).0 h) [
    | inl x ↦ good.no_start x.0 x.1 (subst (λ B. IsNext G x.0 x.1 (rule B)) z x.3)
    | inr x ↦ good.no_start x.0 x.1 (subst (λ B. IsNext G x.0 x.1 (rule B)) z x.3)
  ]
  no_look (OpenedLook.first {A} {B} {t} e o m r f) z = let (q, g, n) = are.rules A e m in good.no_start q zero (subst (λ C. IsNext G q zero (rule C)) (r ∙ z) n)
  no_look (OpenedLook.passed {A} {B} {t} e o l m r f) z = let (q, g, n) = are.rules A e m in good.no_start q zero (subst (λ C. IsNext G q zero (rule C)) (r ∙ z) n)

  head_is : (p : ℕ) → p ≡ G.start → head_of G p ≡ 0
  head_is p e = ap (head_of G) e ∙ good.start_of.head

  -- an item of the closed core is of the grammar
  pub closed_in_range : (p d : ℕ) → Closure G in_core p d → p < length G.productions
  closed_in_range p d h = elim ((in_closure p d).0 h) [
    | inl i ↦
        (let (k, at) = (has_item c.items c.rows fits.good.ascends fits.good.count p d).0 i in
        subst (λ q. q < length G.productions) at.production (fits.productions k (record { production = p; dot = d }) at.within))
    | inr x ↦ x.1
  ]

  pub head_in_range : (p : ℕ) → p < length G.productions → head_of G p < G.rules
  head_in_range p lt = good.heads p (head_of G p) (record { in_range = lt; head = refl })

  -- at dot nought the row is that of the rule, unless it is the start item
  pub by_rule : (i : Item) (bits : List Bool) → i.dot ≡ 1 → i.production ≢ G.start → IsMoved G c i → bits ≡ get_or s.rows (head_of G i.production) [] → length bits ≡ G.tokens → IsRowBehind G c i bits
  by_rule i bits one other moved e width = record { width = width; looks = λ d t z. (to d t z, back d t z) }
    where
      p : ℕ
      p = i.production

      in_range : p < length G.productions
      in_range = let (d, z, h) = moved in closed_in_range p d h

      to : (d t : ℕ) → i.dot ≡ suc d → IsTrue (is_set bits t) → ClosureLook G in_core core_looks p d t
      to d t z h = (look_in p d t).1 (inr ((let q : d ≡ 0 = omega (arith, one, z) in q), in_range, subst (λ (l : List Bool). IsTrue (is_set l t)) e h))

      back : (d t : ℕ) → i.dot ≡ suc d → ClosureLook G in_core core_looks p d t → IsTrue (is_set bits t)
      back d t z h = elim ((look_in p d t).0 h) [
        | inl l ↦ absurd (other (kernel p (subst (HasItem (map_of c) p) (let q : d ≡ 0 = omega (arith, one, z) in q) (held_look (map_of c) p d t l))))
        | inr x ↦ subst (λ (l : List Bool). IsTrue (is_set l t)) (sym e) x.2
      ]

  -- else it is that of the core item
  pub own_item : (p d : ℕ) → (d ≡ 0 → p ≡ G.start) → Closure G in_core p d → Stands c.items p d
  own_item p d begin h = elim ((in_closure p d).0 h) [
    | inl i ↦ (has_item c.items c.rows fits.good.ascends fits.good.count p d).0 i
    | inr x ↦ absurd (not_open ((closed.opened.rules (head_of G p)).0 x.2) (head_is p (begin x.0)))
  ]

  pub by_own : (i : Item) (d k : ℕ) (bits : List Bool) → i.dot ≡ suc d → (d ≡ 0 → i.production ≡ G.start) → IsAt c.items k i.production d → bits ≡ row c.rows k → IsRowBehind G c i bits
  by_own i d k bits z begin at e = record {
    width = ap length e ∙ fits.good.width k (let n = fits.good.count in let lt = at.within in omega (arith, n, lt));
    looks = λ f t y. subst (λ m. IsTrue (is_set bits t) ↔ ClosureLook G in_core core_looks i.production m t) (let q : d ≡ f = omega (arith, z, y) in q) (to t, back t);
  }
    where
      to : (t : ℕ) → IsTrue (is_set bits t) → ClosureLook G in_core core_looks i.production d t
      to t h = (look_in i.production d t).1 (inl ((has_look c.items c.rows fits.good.ascends fits.good.count i.production d t).1 (k, at, subst (λ (l : List Bool). IsTrue (is_set l t)) e h)))

      back : (t : ℕ) → ClosureLook G in_core core_looks i.production d t → IsTrue (is_set bits t)
      back t h = elim ((look_in i.production d t).0 h) [
        | inl l ↦
            (let (j, there, x) = (has_look c.items c.rows fits.good.ascends fits.good.count i.production d t).0 l in
            subst (λ (l : List Bool). IsTrue (is_set l t)) (ap (row c.rows) (one_place c.items fits.good.ascends j k i.production d there at) ∙ sym e) x)
        | inr x ↦ absurd (no_look ((closed.opened.looks (head_of G i.production) t).0 x.2) (head_is i.production (begin x.0)))
      ]

-- ---- the first state of a core

module _ (states : List StateValue) (items : List Item) (bucket : List ℕ) (lists : ListsCore states items bucket) where
  listed_at : (j : ℕ) → j < length states → (state_at states j).core.items ≡ items → (k : ℕ) × (k < length bucket) × (get_or bucket k 0 ≡ j)
  listed_at j lt e = let (k, l, at) = lists.has j lt e in (k, l, get_or_default bucket k 0 j l ∙ at)

  -- none of the numbers before an index is of a state with these items, and those from there on are past n
  pub none_below : (i n : ℕ) → n ≤ length states → ((k : ℕ) → k < i → (state_at states (get_or bucket k 0)).core.items ≡ items → ⊥) → (i < length bucket → n ≤ get_or bucket i 0) →
      (j : ℕ) → j < n → (state_at states j).core.items ≡ items → ⊥
  none_below i n most none past j lt e =
      let (k, l, at) = listed_at j (omega (arith, lt, most)) e in
      elim (cases_lt k i) [
        | inl x ↦ none k x (ap (λ m. (state_at states m).core.items) at ∙ e)
        | inr ge ↦ elim (cases_eq k i) [
          | inl q ↦ (let p = past (omega (arith, q, l)) in let s = ap (λ m. get_or bucket m 0) q in omega (arith, p, s, at, lt))
          | inr ne ↦ (let a = lists.ascends i k 0 (omega (arith, ge, ne)) l in let p = past (omega (arith, ge, ne, l)) in omega (arith, a, p, at, lt))
        ]
      ]

-- ---- an edge that stays

-- a state that is left as it is has its edge
self_linked : (states : List StateValue) (s : ℕ) (X : Sym) (k : ℕ) → s < length states → edge_of states s X ≡ Some k → IsLinked states s X k states
self_linked states s X k lt e = record {
  edges = (state_at states s).edges;
  put = record { at = λ Y. by Y (same_symbol Y X) refl; ascends = λ h. h };
  value = sym (set_same states s (state_at states s) no_state lt refl);
}
  where
    by : (Y : Sym) (b : Bool) → same_symbol Y X ≡ b → edge_in (state_at states s).edges Y ≡ cond (same_symbol Y X) (Some k) (edge_in (state_at states s).edges Y)
    by Y true q = ap (edge_in (state_at states s).edges) (same_symbol_true Y X q) ∙ (e ∙ sym (ap (λ b. cond b (Some k) (edge_in (state_at states s).edges Y)) q))
    by Y false q = sym (ap (λ b. cond b (Some k) (edge_in (state_at states s).edges Y)) q)

-- the set of an edge's symbol is a core
pub set_is_core : (G : Grammar) (c led given : Core) → IsCoreOf G.tokens led → given.items ≡ led.items → AreRowsBehind G c given.items (length given.items) given.rows → IsCoreOf G.tokens given
set_is_core G c led given good same behind = record {
  ascends = subst (λ (l : List Item). Ascends l) (sym same) good.ascends;
  count = behind.count;
  width = λ k l. (behind.each k nought (let n = behind.count in omega (arith, l, n))).width;
}

-- rows of the same items
pub same_behind : (G : Grammar) (c : Core) (from items : List Item) (k : ℕ) (old rows : List (List Bool)) → items ≡ from → length from ≡ k → rows ≡ old → AreRowsBehind G c from k old → AreRowsBehind G c items (length items) rows
same_behind G c from items k old rows e n r h =
    subst (λ (x : List (List Bool)). AreRowsBehind G c items (length items) x) (sym r) (subst (λ j. AreRowsBehind G c items j old) (sym (ap length e ∙ n)) (subst (λ (l : List Item). AreRowsBehind G c l k old) (sym e) h))

module _ (G : Grammar) (before : Building) (s : ℕ) (c : Core) (core : core_of before.graph s ≡ map_of c) (states : List StateValue) (all : AreStates G.tokens states) (lt : s < length states) (e : Edge) (leads : LeadsOn G c states s e) where
  abbrev on : Sym
  on = e.symbol

  abbrev led : Core
  led = (state_at states e.target).core

  -- the set of its symbol, as the building has it
  pub set_is_goto : (given : Core) → given.items ≡ led.items → AreRowsBehind G c given.items (length given.items) given.rows → IsGotoAt G before s (rank G on) given
  set_is_goto given same behind = record {
    is = λ Y range at.
        let z = rank_once G Y on range leads.range at in
        subst (λ (i : ItemSet). Is (map_of given) (Goto G (Closure G (HasItem i)) Y) (GotoLook G (ClosureLook G (HasItem i) (HasLook i)) Y)) (sym core)
        (subst (λ (Z : Sym). Is (map_of given) (Goto G (Closure G (HasItem (map_of c))) Z) (GotoLook G (ClosureLook G (HasItem (map_of c)) (HasLook (map_of c))) Z)) (sym z)
        (is_goto G c on given.items led.rows given.rows (subst (λ (l : List Item). Ascends l) (sym same) (all.cores e.target leads.target).ascends) ((all.cores e.target leads.target).count ∙ ap length (sym same))
        (subst (λ (l : List Item). SameItems (Goto G (Closure G (HasItem (map_of c))) on) (HasItem (set_of l led.rows))) (sym same) leads.items) behind));
  }

  -- the first state of its core that holds the set keeps the edge
  pub edge_kept : AreHeld G c led.items (length led.items) led.rows → ((j : ℕ) → j < e.target → (state_at states j).core.items ≡ led.items → ⊥) → AreHandled G before s (rank G on) states → AreHandled G before s (rank G on + 1) states
  edge_kept held alone h = rank_placed G before s (rank G on) on leads.range refl given (set_is_goto given refl held.are) states h states good leads.some
      (placed_kept G.tokens states s on given lt all good e.target states states joins covers refl (self_linked states s on e.target lt leads.edge))
    where
      given : Core
      given = record { items = led.items; rows = held.rows }

      good : IsCoreOf G.tokens given
      good = set_is_core G c led given (all.cores e.target leads.target) refl held.are

      covers : CoversRows led.rows held.rows
      covers k u x = elim (cases_lt k (length led.items)) [
        | inl l ↦ held.held_at k u l x
        | inr ge ↦ absurd (none (sym (ap (λ (l : List Bool). is_set l u) (past held.rows k (let n = held.are.count in omega (arith, n, ge)))) ∙ x))
      ]
        where
          none : false ≡ true → ⊥
          none q = cc

          past : (rows : List (List Bool)) (k : ℕ) → length rows ≤ k → row rows k ≡ []
          past [] k le = refl
          past (r ∷ rows) zero le = absurd (omega (arith, le))
          past (r ∷ rows) (suc k) le = past rows k (omega (arith, le))

      joins : JoinsAt states e.target given
      joins = record {
        state = leads.target;
        same = refl;
        fits = covers_fit led.rows held.rows covers;
        first = λ j l. inl (alone j l);
      }

-- ---- the ranks between the edges

pub skip_to : (G : Grammar) (before : Building) (s : ℕ) (states : List StateValue) (n m : ℕ) → n ≤ m → m ≤ G.rules + G.tokens →
    ((X : Sym) (p d : ℕ) → InRange G X → n ≤ rank G X → rank G X < m → Closure G (HasItem (core_of before.graph s)) p d → IsNext G p d X → ⊥) → AreHandled G before s n states → AreHandled G before s m states
skip_to G before s states n zero le top none h = subst (λ k. AreHandled G before s k states) (let e : n ≡ zero = omega (arith, le) in e) h
skip_to G before s states n (suc m) le top none h = elim (cases_eq n (suc m)) [
  | inl e ↦ subst (λ k. AreHandled G before s k states) e h
  | inr ne ↦ subst (λ k. AreHandled G before s k states) (let e : m + 1 ≡ suc m = omega arith in e)
      (one (omega (arith, le, ne)) (skip_to G before s states n m (omega (arith, le, ne)) (omega (arith, top)) (λ X p d r a b. none X p d r a (omega (arith, b))) h))
]
  where
    at : (X : Sym) → InRange G X → rank G X ≡ m → n ≤ m → AreHandled G before s m states → AreHandled G before s (m + 1) states
    at X r e l done = skipped G before s m states done X (let q = symbol_count G in omega (arith, q, top)) (ap (λ k. get_or (symbols G) k X) (sym e) ∙ rank_at G X r)
        (λ p d i x. none X p d r (omega (arith, l, e)) (omega (arith, e)) i x)

    one : n ≤ m → AreHandled G before s m states → AreHandled G before s (m + 1) states
    one l done = elim (cases_lt m G.rules) [
      | inl x ↦ at (rule m) x refl l done
      | inr ge ↦ at (token (m - G.rules)) (omega (arith, ge, top)) (omega (arith, ge)) l done
    ]

-- ---- a state that has edges

-- what stands past the last edge
pub no_edge : Edge
no_edge = record { symbol = rule 0; target = 0 }

module _ (G : Grammar) (good : WellFormed G) (states : List StateValue) (h : AreReached G states) (s : ℕ) (lt : s < length states) (some : 0 < length (state_at states s).edges) where
  abbrev own : Core
  own = (state_at states s).core

  abbrev outs : List Edge
  outs = (state_at states s).edges

  abbrev built : Building
  built = h.building

  none_is : {k : ℕ} → None ≡ Some k → ⊥
  none_is e = cc

  here : (k : ℕ) (d : Edge) → k < length outs → edge_in outs (get_or outs k d).symbol ≡ Some (get_or outs k d).target
  here k d l = edge_here outs (get_or outs k d) (h.cores.edges s lt) (Contains-get_or outs k d l)

  own_core : core_of built.graph s ≡ map_of own
  own_core = core_is states built s h.matches

  made : AreMade G built.graph s (map_of own) AnySymbol
  made = elim (reached_whole G good h.reached s) [
    | inl none ↦ absurd (none_is (sym (none (get_or outs 0 no_edge).symbol) ∙ (h.matches.edges s (get_or outs 0 no_edge).symbol ∙ here 0 no_edge some)))
    | inr m ↦ subst (λ (i : ItemSet). AreMade G built.graph s i AnySymbol) own_core m
  ]

  pub edge_leads : (k : ℕ) (d : Edge) → k < length outs → LeadsOn G own states s (get_or outs k d)
  edge_leads k d l =
      let X = (get_or outs k d).symbol in
      let t = (get_or outs k d).target in
      let at : built.graph.edge s X ≡ Some t = h.matches.edges s X ∙ here k d l in
      let (p, f, state, i, next) = (reached_sound G good h.reached).sound.no_other s t X at in
      let m : IsMade G built.graph s (map_of own) X = made X tt p f (subst (λ (j : ItemSet). Closure G (HasItem j) p f) own_core i) next in
      let same : m.target ≡ t = one_target m.target t (sym m.edge ∙ at) in
      let items : SameItems (Goto G (Closure G (HasItem (map_of own))) X) (HasItem (map_of (state_at states t).core)) =
      subst (λ (j : ItemSet). SameItems (Goto G (Closure G (HasItem (map_of own))) X) (HasItem j)) (ap (core_of built.graph) same ∙ core_is states built t h.matches) m.items in
      let within : t < length states = (let n = count_is states built h.matches in let x = m.state in omega (arith, same, n, x)) in
      let fits = h.cores.cores t within in
      record {
        range = good.symbols p f X next;
        target = within;
        edge = here k d l;
        items = items;
        some = (let (j, stands) = (has_item (state_at states t).core.items (state_at states t).core.rows fits.ascends fits.count p (suc f)).0 ((items p (suc f)).0 (Goto.moved (subst (λ (j : ItemSet). Closure G (HasItem j) p f) own_core i) next)) in let x = stands.within in omega (arith, x));
      }
    where
      one_target : (m n : ℕ) → Some m ≡ Some n → m ≡ n
      one_target m n e = cc

  pub edges_whole : (X : Sym) (p d : ℕ) → edge_in outs X ≡ None → Closure G (HasItem (map_of own)) p d → IsNext G p d X → ⊥
  edges_whole X p d none i next = let m : IsMade G built.graph s (map_of own) X = made X tt p d i next in none_is (sym none ∙ (sym (h.matches.edges s X) ∙ m.edge))

-- ---- edges that lead on later

pub leads_later : (G : Grammar) (c : Core) (states new : List StateValue) (s : ℕ) (e : Edge) → AreStates G.tokens states → AreStates G.tokens new → length states ≤ length new →
    ((k : ℕ) → k < length states → (state_at new k).core.items ≡ (state_at states k).core.items) → edge_of new s e.symbol ≡ edge_of states s e.symbol → LeadsOn G c states s e → LeadsOn G c new s e
leads_later G c states new s e all now more items edge h = record {
  range = h.range;
  target = within;
  edge = edge ∙ h.edge;
  items = λ p d. (
    λ x. (has_item new_core.items new_core.rows fits.ascends fits.count p d).1 (subst (λ (l : List Item). Stands l p d) (sym same) ((has_item old_core.items old_core.rows was.ascends was.count p d).0 ((h.items p d).0 x))),
    λ x. (h.items p d).1 ((has_item old_core.items old_core.rows was.ascends was.count p d).1 (subst (λ (l : List Item). Stands l p d) same ((has_item new_core.items new_core.rows fits.ascends fits.count p d).0 x))),
  );
  some = subst (λ (l : List Item). 0 < length l) (sym same) h.some;
}
  where
    within : e.target < length new
    within = let t = h.target in omega (arith, t, more)

    old_core : Core
    old_core = (state_at states e.target).core

    new_core : Core
    new_core = (state_at new e.target).core

    same : new_core.items ≡ old_core.items
    same = items e.target h.target

    was : IsCoreOf G.tokens old_core
    was = all.cores e.target h.target

    fits : IsCoreOf G.tokens new_core
    fits = now.cores e.target within

-- a state that isn't to be taken any more has its edges
pub leads_off : (G : Grammar) (c : Core) (states : List StateValue) (s : ℕ) (e : Edge) → s < length states → AreStates G.tokens states → AreStates G.tokens (set_off states s) → LeadsOn G c states s e → LeadsOn G c (set_off states s) s e
leads_off G c states s e lt all now h = leads_later G c states (set_off states s) s e all now (let n = length-set states s off in omega (arith, n))
    (λ k l. elim (cases_eq k s) [
      | inl q ↦ ap (λ n. (state_at (set_off states s) n).core.items) q ∙ ap (λ (x : StateValue). x.core.items) (get_or-set_same states s off no_state lt) ∙ ap (λ n. (state_at states n).core.items) (sym q)
      | inr ne ↦ ap (λ (x : StateValue). x.core.items) (get_or-set_other states s k off no_state ne)
    ])
    (ap (λ (x : StateValue). edge_in x.edges e.symbol) (get_or-set_same states s off no_state lt)) h
  where
    off : StateValue
    off = record { core = (state_at states s).core; edges = (state_at states s).edges; todo = false }

-- so it is of a core and edges that were copied from the state
module _ (G : Grammar) (good : WellFormed G) (states : List StateValue) (h : AreReached G states) (s : ℕ) (lt : s < length states) (some : 0 < length (state_at states s).edges) (c : Core) (es : List Edge) (same : c ≡ (state_at states s).core) (alike : es ≡ (state_at states s).edges) where
  pub again_leads : (now : List StateValue) → now ≡ set_off states s → AreStates G.tokens now → (k : ℕ) (d : Edge) → k < length es → LeadsOn G c now s (get_or es k d)
  again_leads now q all k d l =
      subst (λ (x : Core). LeadsOn G x now s (get_or es k d)) (sym same)
      (subst (λ (x : List Edge). LeadsOn G (state_at states s).core now s (get_or x k d)) (sym alike)
      (subst (λ (x : List StateValue). LeadsOn G (state_at states s).core x s (get_or (state_at states s).edges k d)) (sym q)
      (leads_off G (state_at states s).core states s (get_or (state_at states s).edges k d) lt h.cores (subst (AreStates G.tokens) q all)
      (edge_leads G good states h s lt some k d (subst (λ (x : List Edge). k < length x) alike l)))))

  pub again_whole : (X : Sym) (p d : ℕ) → edge_in es X ≡ None → Closure G (HasItem (map_of c)) p d → IsNext G p d X → ⊥
  again_whole X p d none i next = edges_whole G good states h s lt some X p d (subst (λ (x : List Edge). edge_in x X ≡ None) alike none) (subst (λ (x : Core). Closure G (HasItem (map_of x)) p d) same i) next

  pub again_ascends : AscendEdges es
  again_ascends = subst (λ (x : List Edge). AscendEdges x) (sym alike) (h.cores.edges s lt)

  pub again_core : core_of h.building.graph s ≡ map_of c
  again_core = core_is states h.building s h.matches ∙ ap map_of (sym same)

-- ---- through the edges

before_rank : (G : Grammar) (X Y : Sym) → InRange G X → SymBefore X Y → rank G X < rank G Y
before_rank G (rule A) (rule B) r h = h
before_rank G (rule A) (token t) r h = omega (arith, r)
before_rank G (token t) (rule A) r h = absurd h
before_rank G (token t) (token u) r h = omega (arith, h)

no_edge_on : (es : List Edge) (X : Sym) → ((j : ℕ) (d : Edge) → j < length es → (get_or es j d).symbol ≢ X) → edge_in es X ≡ None
no_edge_on [] X h = refl
no_edge_on (e ∷ es) X h = by (no_edge_on es X (λ j d lt. h (suc j) d (omega (arith, lt)))) (same_symbol X e.symbol) refl
  where
    by : edge_in es X ≡ None → (b : Bool) → same_symbol X e.symbol ≡ b → cond (same_symbol X e.symbol) (Some e.target) (edge_in es X) ≡ None
    by rest true q = absurd (h 0 e (omega arith) (sym (same_symbol_true X e.symbol q)))
    by rest false q = ap (λ b. cond b (Some e.target) (edge_in es X)) q ∙ rest

-- the edges before the index `near` were handled, and with them the ranks below n
pub record IsThrough (G : Grammar) (c : Core) (s : ℕ) (es : List Edge) (near n : ℕ) (old now : List StateValue) : Type 0 where
  pub top : n ≤ G.rules + G.tokens
  pub before : (j : ℕ) (d : Edge) → j < near → j < length es → rank G (get_or es j d).symbol < n
  pub after : (j : ℕ) (d : Edge) → near ≤ j → j < length es → n ≤ rank G (get_or es j d).symbol
  pub leads : (j : ℕ) (d : Edge) → near ≤ j → j < length es → LeadsOn G c now s (get_or es j d)
  pub states : AreStates G.tokens now
  pub handled : (before : Building) → core_of before.graph s ≡ map_of c → AreHandled G before s 0 old → AreHandled G before s n now

module _ (G : Grammar) (c : Core) (s : ℕ) (es : List Edge) (old : List StateValue) (ascends : AscendEdges es) (whole : (X : Sym) (p d : ℕ) → edge_in es X ≡ None → Closure G (HasItem (map_of c)) p d → IsNext G p d X → ⊥) where
  pub through_none : AreStates G.tokens old → ((j : ℕ) (d : Edge) → j < length es → LeadsOn G c old s (get_or es j d)) → IsThrough G c s es 0 0 old old
  through_none all leads = record {
    top = omega arith;
    before = λ j d lt l. absurd (omega (arith, lt));
    after = λ j d ge l. omega arith;
    leads = λ j d ge l. leads j d l;
    states = all;
    handled = λ before core h. h;
  }

  module _ (near n : ℕ) (now : List StateValue) (h : IsThrough G c s es near n old now) where
    -- no edge is on a symbol between
    skipped_none : (m : ℕ) → ((j : ℕ) (d : Edge) → near ≤ j → j < length es → m ≤ rank G (get_or es j d).symbol) → (X : Sym) → n ≤ rank G X → rank G X < m → edge_in es X ≡ None
    skipped_none m later X ge lt = no_edge_on es X (λ j d l e. elim (cases_lt j near) [
      | inl x ↦ (let b = h.before j d x l in let q = ap (rank G) e in omega (arith, b, q, ge))
      | inr x ↦ (let b = later j d x l in let q = ap (rank G) e in omega (arith, b, q, lt))
    ])

    pub through_skipped : (m : ℕ) → n ≤ m → m ≤ G.rules + G.tokens → ((j : ℕ) (d : Edge) → near ≤ j → j < length es → m ≤ rank G (get_or es j d).symbol) →
        (before : Building) → core_of before.graph s ≡ map_of c → AreHandled G before s 0 old → AreHandled G before s m now
    through_skipped m le top later before core x = skip_to G before s now n m le top
        (λ X p d r ge lt i next. whole X p d (skipped_none m later X ge lt) (subst (λ (j : ItemSet). Closure G (HasItem j) p d) core i) next) (h.handled before core x)

    -- behind the last edge
    pub through_all : length es ≤ near → (before : Building) → core_of before.graph s ≡ map_of c → AreHandled G before s 0 old → AreHandled G before s (G.rules + G.tokens) now
    through_all done before core x = through_skipped (G.rules + G.tokens) h.top (omega arith) (λ j d ge l. absurd (omega (arith, ge, l, done))) before core x

    module _ (lt : near < length es) where
      -- the ranks before an edge
      pub through_here : (e : Edge) (before : Building) → core_of before.graph s ≡ map_of c → AreHandled G before s 0 old → AreHandled G before s (rank G (get_or es near e).symbol) now
      through_here e before core x = through_skipped (rank G (get_or es near e).symbol) (h.after near e (omega arith) lt) (let b = rank_below G (get_or es near e).symbol (h.leads near e (omega arith) lt).range in omega (arith, b)) later before core x
        where
          later : (j : ℕ) (d : Edge) → near ≤ j → j < length es → rank G (get_or es near e).symbol ≤ rank G (get_or es j d).symbol
          later j d ge l = elim (cases_eq near j) [
            | inl q ↦ (let z = ap (λ k. rank G (get_or es k d).symbol) q in let y = ap (λ (x : Edge). rank G x.symbol) (get_or_default es near e d lt) in omega (arith, z, y))
            | inr ne ↦ (let b = before_rank G (get_or es near d).symbol (get_or es j d).symbol (h.leads near d (omega arith) lt).range (ascends near j d (omega (arith, ge, ne)) l) in
                let y = ap (λ (x : Edge). rank G x.symbol) (get_or_default es near e d lt) in omega (arith, b, y))
          ]

      -- one edge more
      pub through_next : (e : Edge) (new : List StateValue) → AreStates G.tokens new → length now ≤ length new → ((k : ℕ) → k < length now → (state_at new k).core.items ≡ (state_at now k).core.items) →
          ((Y : Sym) (d : Edge) → same_symbol Y (get_or es near d).symbol ≡ false → edge_of new s Y ≡ edge_of now s Y) →
          ((before : Building) (d : Edge) → core_of before.graph s ≡ map_of c → AreHandled G before s (rank G (get_or es near d).symbol) now → AreHandled G before s (rank G (get_or es near d).symbol + 1) new) →
          IsThrough G c s es (near + 1) (rank G (get_or es near e).symbol + 1) old new
      through_next e new all more items edges step = record {
        top = (let b = rank_below G (get_or es near e).symbol (h.leads near e (omega arith) lt).range in omega (arith, b));
        before = λ j d x l. elim (cases_lt j near) [
          | inl y ↦ (let b = h.before j d y l in let a = h.after near e (omega arith) lt in omega (arith, b, a))
          | inr ge ↦ (let q : j ≡ near = omega (arith, ge, x) in let z = ap (λ k. rank G (get_or es k d).symbol) q in let y = ap (λ (x : Edge). rank G x.symbol) (get_or_default es near e d lt) in omega (arith, z, y))
        ];
        after = λ j d ge l. (let b = past j d ge l in let y = ap (λ (x : Edge). rank G x.symbol) (get_or_default es near e d lt) in omega (arith, b, y));
        leads = λ j d ge l. leads_later G c now new s (get_or es j d) h.states all more items
            (edges (get_or es j d).symbol d (after_differs (get_or es near d).symbol (get_or es j d).symbol (ascends near j d (omega (arith, ge)) l))) (h.leads j d (omega (arith, ge)) l);
        states = all;
        handled = λ before core x. step before e core (through_here e before core x);
      }
        where
          past : (j : ℕ) (d : Edge) → near + 1 ≤ j → j < length es → rank G (get_or es near d).symbol < rank G (get_or es j d).symbol
          past j d ge l = before_rank G (get_or es near d).symbol (get_or es j d).symbol (h.leads near d (omega arith) lt).range (ascends near j d (omega (arith, ge)) l)

-- ---- rows, one after another

-- an item that stands among others stands at one of their indices
pub never_missed : (items : List Item) (i : Item) → Stands items i.production i.dot → ((k : ℕ) (d : Item) → k < length items → get_or items k d ≡ i → ⊥) → ⊥
never_missed items i (k, at) none = none k i at.within (ap₂ (λ (p d : ℕ). record { production = p; dot = d }) at.production at.dot)

module _ (G : Grammar) (c : Core) (items : List Item) where
  pub behind_none : AreRowsBehind G c items 0 []
  behind_none = record { count = refl; each = λ j d lt. absurd (omega (arith, lt)) }

  pub behind_more : (k : ℕ) (i : Item) (rows : List (List Bool)) (bits : List Bool) → k < length items → get_or items k i ≡ i → IsRowBehind G c i bits → AreRowsBehind G c items k rows → AreRowsBehind G c items (k + 1) (rows ++ bits ∷ [])
  behind_more k i rows bits within at is h = record {
    count = (let n = length-append rows (bits ∷ []) in let m = h.count in omega (arith, n, m));
    each = λ j d lt. elim (cases_lt j k) [
      | inl l ↦ subst (IsRowBehind G c (get_or items j d)) (sym (get_or_append_left rows (bits ∷ []) [] j (let m = h.count in omega (arith, l, m)))) (h.each j d l)
      | inr ge ↦
          (let q : j ≡ k = omega (arith, ge, lt) in
          let here : row (rows ++ bits ∷ []) j ≡ bits = ap (row (rows ++ bits ∷ [])) (q ∙ sym h.count) ∙ get_or-append_seam rows bits [] [] in
          let item : get_or items j d ≡ i = ap (λ n. get_or items n d) q ∙ (get_or_default items k d i within ∙ at) in
          subst (λ (x : Item). IsRowBehind G c x (row (rows ++ bits ∷ []) j)) (sym item) (subst (IsRowBehind G c i) (sym here) is))
    ];
  }

  pub held_none : (held : List (List Bool)) → AreHeld G c items 0 held
  held_none held = record { rows = []; are = behind_none; held_at = λ j t lt h. absurd (omega (arith, lt)) }

  pub held_more : (k : ℕ) (i : Item) (held : List (List Bool)) (bits : List Bool) → k < length items → get_or items k i ≡ i → IsRowBehind G c i bits → ((t : ℕ) → IsTrue (is_set bits t) → IsTrue (is_set (row held k) t)) → AreHeld G c items k held → AreHeld G c items (k + 1) held
  held_more k i held bits within at is holds h = record {
    rows = h.rows ++ bits ∷ [];
    are = behind_more k i h.rows bits within at is h.are;
    held_at = λ j t lt x. elim (cases_lt j k) [
      | inl l ↦ h.held_at j t l (subst (λ (b : List Bool). IsTrue (is_set b t)) (get_or_append_left h.rows (bits ∷ []) [] j (let m = h.are.count in omega (arith, l, m))) x)
      | inr ge ↦
          (let q : j ≡ k = omega (arith, ge, lt) in
          let here : row (h.rows ++ bits ∷ []) j ≡ bits = ap (row (h.rows ++ bits ∷ [])) (q ∙ sym h.are.count) ∙ get_or-append_seam h.rows bits [] [] in
          subst (λ n. IsTrue (is_set (row held n) t)) (sym q) (holds t (subst (λ (b : List Bool). IsTrue (is_set b t)) here x)))
    ];
  }
