-- Sets that don't have the items which are to move into them.
use Rattle.std.proofs.Common.{◌≡◌, ℕ, zero, suc, ◌+◌, ◌<◌, ◌≤◌, inl, inr, List, [], ◌∷◌, ◌++◌, length, get_or, map, set, take, replicate, refl, sym, ap, ap₂, ◌∙◌, subst, subst₂, arith}
use Rattle.std.specs.List.{Contains, insert}
use Rattle.std.specs.declared.alloc.Global.{Global}
use Rattle.std.specs.declared.vec.Vec.{Vec}
use Rattle.std.proofs.lemmas.List.{get_or-take, get_or_default, length-take-le}
use Rattle.std.proofs.Math.Seq.{get_or-append_seam}
use Rattle.cfg_theory.specs.Grammar.{Sym, Grammar, InRange, IsOf, IsNext, WellFormed, head_of}
use Rattle.cfg_numbered.specs.Value.{productions_of}
use Rattle.cfg_numbered.proofs.RuleLists.{alone, ascending}
use Rattle.lr_theory.specs.Itemset.{Items, Lookaheads, HasItem, HasLook, ItemSet, Goto}
use Rattle.state_table.specs.Adding.{Adds, SingleItem, OneLooks}
use Rattle.lrtable.specs.Closes.{AreFronts}
use Rattle.state_table.specs.ItemRows.{no_core, Core, IsAt, IsCoreOf, map_of, BelongsAt}
use Rattle.lrtable.specs.Gaining.{core_in, moved_by, AreSets, Gains}
use Rattle.lrtable.specs.Handling.{rank}
use Rattle.lrtable.specs.LookRows.{LookRows}
use Rattle.lrtable.specs.MovedItems.{AreEmpty, HaveNone, IsKernel, core_of_moved, moved_item, moved_items, row_from, set_of_moved}
use Rattle.lrtable.specs.Opening.{Front, RuleSets, IsOpen}
use Rattle.lrtable.specs.Stepping.{IsClosureOf, ItemsBelow, LooksBelow, OfRule, OpenAt, OpenBelow, OpenLooksBelow}
use Rattle.lrtable.specs.declared.moved_items.MovedItem.{MovedItem}
use Rattle.lrtable.proofs.Closing.{start_closed}
use Rattle.state_table.proofs.CoreSteps.{put_adds, put_core}
use Rattle.state_table.proofs.ItemSets.{has_item, one_place}
use Rattle.lrtable.proofs.Moving.{ListedBelow, ListedLooks, good_at, move_set, none_moved, set_at}
use Rattle.state_table.proofs.Fitting.{no_items}
use Rattle.lrtable.proofs.Ranks.{rank_below}

-- fewer items
pub none_of : (G : Grammar) (I J : Items) (sets : List Core) → ((p d : ℕ) → I p d → J p d) → HaveNone G J sets → HaveNone G I sets
none_of G I J sets le h = λ X p d r g x. h X p d r (go X g) x
  where
    go : (X : Sym) {p d : ℕ} → Goto G I X p d → Goto G J X p d
    go X (Goto.moved {p} {d} i n) = Goto.moved (le p d i) n

-- other items moved
pub none_next : (G : Grammar) (I J : Items) (L : Lookaheads) (old new : List Core) → Gains G I L old new → HaveNone G J old → ((p d : ℕ) → I p d → J p d → ⊥) → HaveNone G J new
none_next G I J L old new h none apart = λ X p d r g x. elim ((h.items X r p d).0 x) [ inl y ↦ none X p d r g y | inr m ↦ both X m g ]
  where
    both : (X : Sym) {p d : ℕ} → Goto G I X p d → Goto G J X p d → ⊥
    both X (Goto.moved {p} {d} i n) (Goto.moved j m) = apart p d i j

-- sets without items
pub none_in_empty : (G : Grammar) (I : Items) (n : ℕ) (sets : List Core) → sets ≡ replicate n no_core → HaveNone G I sets
none_in_empty G I n sets e = λ X p d r g x. no_items p d (subst (λ (m : ItemSet). HasItem m p d) (ap (λ l. moved_by G l X) e ∙ none_moved G n X) x)

-- an item of a core, after those before it
pub none_of_core : (G : Grammar) (c : Core) (k p d : ℕ) (old new : List Core) → IsCoreOf G.tokens c → IsAt c.items k p d → HaveNone G (HasItem (map_of c)) old → Gains G (ItemsBelow c k) (LooksBelow c k) old new → HaveNone G (SingleItem p d) new
none_of_core G c k p d old new good at none h =
    none_next G (ItemsBelow c k) (SingleItem p d) (LooksBelow c k) old new h (none_of G (SingleItem p d) (HasItem (map_of c)) old (λ q e s. subst₂ (λ r f. HasItem (map_of c) r f) (sym s.0) (sym s.1) ((has_item c.items c.rows good.ascends good.count p d).1 (k, at))) none)
    (λ q e s o. let same = one_place c.items good.ascends s.0 k p d (subst₂ (λ r f. IsAt c.items s.0 r f) o.0 o.1 s.2) at in let lt = s.1 in omega (arith, same, lt))

-- a production of a rule, after those before it
pub none_of_rule : (G : Grammar) (A k q : ℕ) (L : ℕ → Type 0) (old new : List Core) → take (k + 1) (productions_of G A) ≡ take k (productions_of G A) ++ q ∷ [] → k < length (productions_of G A) → Contains (productions_of G A) q → HaveNone G (OfRule G A) old → Gains G (ListedBelow G A k) (ListedLooks G A k L) old new → HaveNone G (SingleItem q 0) new
none_of_rule G A k q L old new e lt there none h =
    none_next G (ListedBelow G A k) (SingleItem q 0) (ListedLooks G A k L) old new h (none_of G (SingleItem q 0) (OfRule G A) old (λ p d s. (s.1, subst (λ r. IsOf G r A) (sym s.0) (let a = alone G A q there in record { in_range = a.0; head = a.1 }))) none)
    (λ p d s o. twice p s.1 o.0)
  where
    ps : List ℕ
    ps = productions_of G A

    last : get_or ps k q ≡ q
    last =
        let size : length (take k ps) ≡ k = length-take-le k ps (omega (arith, lt)) in
        sym (get_or-take (k + 1) ps k q (omega arith)) ∙ (ap (λ l. get_or l k q) e ∙ (ap (λ m. get_or (take k ps ++ q ∷ []) m q) (sym size) ∙ get_or-append_seam (take k ps) q [] q))

    twice : (p : ℕ) → Contains (take k ps) p → p ≡ q → ⊥
    twice p c s =
        let i = c.0 in
        let within : i < k = (let w = c.1 in let n = length-take-le k ps (omega (arith, lt)) in omega (arith, w, n)) in
        let here : get_or ps i q ≡ q = sym (get_or-take k ps i q within) ∙ (get_or_default (take k ps) i q p c.1 ∙ (c.2 ∙ s)) in
        let less = ascending G A i k q within lt in
        let there = last in
        omega (arith, here, there, less)

-- an open rule, after those before it
pub none_of_open : (G : Grammar) (s : RuleSets) (n A : ℕ) (old new : List Core) → n ≤ A → A < G.rules → HaveNone G (OpenBelow G s G.rules) old → Gains G (OpenBelow G s n) (OpenLooksBelow G s n) old new → HaveNone G (OpenAt G s A) new
none_of_open G s n A old new le lt none h =
    none_next G (OpenBelow G s n) (OpenAt G s A) (OpenLooksBelow G s n) old new h
    (none_of G (OpenAt G s A) (OpenBelow G s G.rules) old (λ p d o. (o.0, o.1.in_range, (let q = o.1.head in omega (arith, q, lt)), subst (IsOpen s) (sym o.1.head) o.2)) none)
    (λ p d x o. let q = o.1.head in let l = x.2 in omega (arith, q, l, le))

-- the open rules, after a core that has but the start item at dot nought
pub none_of_opened : (G : Grammar) (fronts : List (List Front)) (c : Core) (s : RuleSets) (n : ℕ) (old new : List Core) → WellFormed G → AreFronts G fronts → IsClosureOf G fronts c s → IsKernel G (HasItem (map_of c)) → HaveNone G (OpenBelow G s n) old → Gains G (HasItem (map_of c)) (HasLook (map_of c)) old new →
    HaveNone G (OpenBelow G s n) new
none_of_opened G fronts c s n old new good fit closed kernel none h =
    none_next G (HasItem (map_of c)) (OpenBelow G s n) (HasLook (map_of c)) old new h none
    (λ p d x o.
    let start = kernel p (subst (λ e. HasItem (map_of c) p e) o.0 x) in
    start_closed G fronts c s good fit closed (subst (IsOpen s) (ap (head_of G) start ∙ good.start_of.head) o.3))

-- ---- lists of moved items

module _ {S : Type 0} (number : S → ℕ) (rows : LookRows) where
  none_here : (items : List (MovedItem S)) → moved_items number items ≡ [] → items ≡ []
  none_here [] e = refl
  none_here (m ∷ items) e = cc

  abbrev rest : List Core → List Core
  rest [] = []
  rest (c ∷ sets) = sets

  pub empty_moved : (n : ℕ) (sets : List (Vec (MovedItem S) Global)) → AreEmpty n sets → map (set_of_moved number rows) sets ≡ replicate n no_core
  empty_moved n sets e = sym (seen sets) ∙ (ap (λ l. map (core_of_moved number rows) l) e ∙ none n)
    where
      seen : (sets : List (Vec (MovedItem S) Global)) → map (core_of_moved number rows) (map (λ (v : Vec (MovedItem S) Global). v.items) sets) ≡ map (set_of_moved number rows) sets
      seen [] = refl
      seen (v ∷ sets) = ap (λ l. set_of_moved number rows v ∷ l) (seen sets)

      none : (n : ℕ) → map (core_of_moved number rows) (replicate n []) ≡ replicate n no_core
      none zero = refl
      none (suc n) = ap (λ l. no_core ∷ l) (none n)

  pub moved_empty : (n : ℕ) (sets : List (Vec (MovedItem S) Global)) → map (set_of_moved number rows) sets ≡ replicate n no_core → AreEmpty n sets
  moved_empty zero [] e = refl
  moved_empty zero (v ∷ sets) e = cc
  moved_empty (suc n) [] e = cc
  moved_empty (suc n) (v ∷ sets) e = ap₂ (λ (x : List (MovedItem S)) (l : List (List (MovedItem S))). x ∷ l) (none_here v.items (ap (λ l. (core_in l 0).items) e)) (moved_empty n sets (ap rest e))

  module _ (G : Grammar) (sets : List (Vec (MovedItem S) Global)) (n : ℕ) (x : Vec (MovedItem S) Global) (p d : ℕ) (X : Sym) (range : InRange G X) (next : IsNext G p d X) (r : n ≡ rank G X) (count : length sets ≡ G.rules + G.tokens)
      (good : AreSets G.tokens (map (set_of_moved number rows) sets)) (read : x ≡ get_or sets n x) where
    lt : n < length sets
    lt = let below = rank_below G X range in omega (arith, below, r, count)

    pub fits_there : IsCoreOf G.tokens (set_of_moved number rows x)
    fits_there = good_at (set_of_moved number rows) G.tokens sets n x lt read good

    -- one item moved
    pub one_moved : (y : Vec (MovedItem S) Global) (m : MovedItem S) (k : ℕ) → (moved_item number m).production ≡ p → (moved_item number m).dot ≡ d + 1 → length (row_from rows m.source) ≡ G.tokens → HaveNone G (SingleItem p d) (map (set_of_moved number rows) sets) →
        BelongsAt (moved_items number x.items) (moved_item number m) k → y.items ≡ insert x.items k m → Gains G (SingleItem p d) (OneLooks p d (row_from rows m.source)) (map (set_of_moved number rows) sets) (map (set_of_moved number rows) (set sets n y))
    one_moved y m k a b wide none at e =
        let f = set_of_moved number rows in
        let seen = set_at f G.tokens sets n x lt read good in
        let dot : suc d ≡ (moved_item number m).dot = omega (arith, b) in
        let fresh : HasItem (map_of (f x)) (moved_item number m).production (moved_item number m).dot → ⊥ = (λ h.
        none X p (suc d) range (Goto.moved (refl, refl) next)
        (subst₂ (λ (c : Core) (j : ℕ). HasItem (map_of c) p j) (sym seen ∙ ap (core_in (map f sets)) r) (sym dot) (subst (λ q. HasItem (map_of (f x)) q (moved_item number m).dot) a h))) in
        let adds = put_adds (moved_item number) (λ (i : MovedItem S). row_from rows i.source) x.items k m G.tokens fits_there at fresh wide in
        let core = put_core (moved_item number) (λ (i : MovedItem S). row_from rows i.source) x.items k m G.tokens fits_there at fresh wide in
        let back = ap (core_of_moved number rows) (sym e) in
        move_set G f sets n x y p d X (row_from rows m.source) range next r count good read (moved_item number m).dot b
        (subst₂ (λ (q : ℕ) (c : Core). Adds (map_of (f x)) q (moved_item number m).dot (row_from rows m.source) (map_of c)) a back adds) (subst (IsCoreOf G.tokens) back core)
