-- Steps of the building, one symbol at a time.
use Rattle.std.proofs.Common.{◌≡◌, ℕ, ◌<◌, ◌≤◌, inl, inr, List, ◌++◌, length, take, drop, subst}
use Rattle.std.proofs.lemmas.List.{take_all, take-append-drop}
use Rattle.cfg_theory.specs.Grammar.{Sym, Grammar}
use Rattle.lr_theory.specs.Itemset.{Items, Lookaheads, ItemSet, HasItem, HasLook, SameItems, SameLooks, Closure, ClosureLook, Goto, GotoLook}
use Rattle.lr_theory.specs.Graph.{Graph, CoreItem, core_of}
use Rattle.lr_theory.specs.Building.{Building, Place, Joins, StaysOut, Handled, taken, symbols}
use Rattle.lr_theory.specs.BuildingSteps.{SetsArePlacedAlike, SymbolsAreHandledOn}

-- a set with the same items and lookaheads is placed alike
module _ (J K : Items) (M N : Lookaheads) (same : SameItems J K) (looks : SameLooks M N) where
  items_as : (I : Items) → SameItems I J → SameItems I K
  items_as I h = λ p d. (λ x. (same p d).0 ((h p d).0 x), λ x. (h p d).1 ((same p d).1 x))

  stays_out_as : (g : Graph) (k : ℕ) → StaysOut g k J M → StaysOut g k K N
  stays_out_as g k (inl h) = inl (λ x. h (λ p d. (λ y. (same p d).1 ((x p d).0 y), λ y. (x p d).1 ((same p d).0 y))))
  stays_out_as g k (inr c) = inr (record {
    production = c.production;
    dot = c.dot;
    other_production = c.other_production;
    other_dot = c.other_dot;
    item = c.item;
    other_item = c.other_item;
    differ = c.differ;
    cross = (c.cross.0, c.cross.1, (looks _ _ _).0 c.cross.2);
    apart = c.apart;
    other_apart = λ x. c.other_apart (x.0, (looks _ _ _).1 x.1, (looks _ _ _).1 x.2);
  })

  joins_as : (g : Graph) (k : ℕ) → Joins g k J M → Joins g k K N
  joins_as g k h = record {
    state = h.state;
    same = items_as (CoreItem g k) h.same;
    fits = λ p d q e x y differ. elim (h.fits p d q e x y differ) [
      | inl u ↦ inl ((λ z. u.0 (z.0, z.1, (looks _ _ _).1 z.2)), (λ z. u.1 (z.0, (looks _ _ _).1 z.1, z.2)))
      | inr v ↦ inr (elim v [ inl w ↦ inl w | inr w ↦ inr (w.0, (looks _ _ _).0 w.1, (looks _ _ _).0 w.2) ])
    ];
    first = λ j lt. stays_out_as g j (h.first j lt);
  }

  pub place_as : (b : Building) (s : ℕ) (X : Sym) (c : Building) → Place b s X J M c → Place b s X K N c
  place_as b s X c (Place.kept k h l) = Place.kept k (joins_as b.graph k h) (λ p d t x. l p d t ((looks p d t).1 x))
  place_as b s X c (Place.grown k p d t union h x absent is) = Place.grown k p d t union (joins_as b.graph k h) ((looks p d t).0 x) absent (record {
    items = λ q e. (λ y. (is.items q e).0 ((same q e).1 y), λ y. (same q e).0 ((is.items q e).1 y));
    looks = λ q e u. (
      λ y. (is.looks q e u).0 (elim y [ inl z ↦ inl z | inr z ↦ inr ((looks q e u).1 z) ]),
      λ y. elim ((is.looks q e u).1 y) [ inl z ↦ inl z | inr z ↦ inr ((looks q e u).0 z) ],
    );
  })
  place_as b s X c (Place.added new h is) = Place.added new (λ k lt. stays_out_as b.graph k (h k lt)) (record {
    items = λ q e. (λ y. (is.items q e).0 ((same q e).1 y), λ y. (same q e).0 ((is.items q e).1 y));
    looks = λ q e u. (λ y. (is.looks q e u).0 ((looks q e u).1 y), λ y. (looks q e u).0 ((is.looks q e u).1 y));
  })

-- symbols handled one after another
pub handled_on : (G : Grammar) (s : ℕ) (core : ItemSet) (xs ys : List Sym) (b c e : Building) → Handled G s core xs b c → Handled G s core ys c e → Handled G s core (xs ++ ys) b e
handled_on G s core xs ys b c e h k = go h
  where
    go : {xs : List Sym} {b : Building} → Handled G s core xs b c → Handled G s core (xs ++ ys) b e
    go Handled.done = k
    go (Handled.absent n r) = Handled.absent n (go r)
    go (Handled.placed p d i n pl r) = Handled.placed p d i n pl (go r)

pub sets_are_placed_alike : SetsArePlacedAlike
sets_are_placed_alike = record {
  alike = λ x y b c s X items looks place. place_as (HasItem x) (HasItem y) (HasLook x) (HasLook y) items looks b s X c place;
  as_goto = λ G core new b c s X is place. place_as (HasItem new) (Goto G (Closure G (HasItem core)) X) (HasLook new) (GotoLook G (ClosureLook G (HasItem core) (HasLook core)) X)
      (λ p d. ((is.items p d).1, (is.items p d).0)) (λ p d t. ((is.looks p d t).1, (is.looks p d t).0)) b s X c place;
}

pub symbols_are_handled_on : SymbolsAreHandledOn
symbols_are_handled_on = record {
  on = handled_on;
  moment = λ G before c s count reached todo lowest handled. record {
    before = before;
    reached = reached;
    state = s;
    todo = todo;
    first = lowest;
    handled_symbols = take count (symbols G);
    symbols_left = drop count (symbols G);
    in_order = take-append-drop count (symbols G);
    handled = handled;
  };
  step = λ G before c s count todo lowest le handled. record {
    state = s;
    todo = todo;
    first = lowest;
    handled = subst (λ l. Handled G s (core_of before.graph s) l (taken before s) c) (take_all count (symbols G) le) handled;
  };
}
