-- Trees whose nodes stand in a list.
use Rattle.std.proofs.Common.{◌≡◌, ℕ, suc, ◌-◌, ◌+◌, ◌≤◌, ◌<◌, List, [], ◌∷◌, ◌++◌, length, drop, reverse, Some, None, subst, refl, sym, ap, ◌∙◌, arith, append_assoc, append-nil, length-append, ⊎_elim}
use Rattle.std.proofs.lemmas.Bool.{cases_lt}
use Rattle.std.specs.Prelude.{slice_get, option_map}
use Rattle.std.proofs.lemmas.List.{reverse-append, reverse-reverse}
use Rattle.std.proofs.lemmas.Option.{slice_get_within}
use Rattle.cfg_theory.specs.Tree.{Tree, leaf, node, Forest, none, before}
use Rattle.cfg_theory.specs.Fold.{Span, no_span, span_of, span_over, last_span}
use Rattle.cfg_theory.proofs.Lists.{get_from_drop}
use Rattle.parse_trees.specs.declared.flat.Visit.{Visit}
use Rattle.parse_trees.specs.FlatTrees.{Piece, term, nonterm, flat, flats, size, sizes, below, IsFlat, StandsAt, StandAt, root_visits, preorder, preorders, nodes_below}

pub drop_past : {X : Type 0} (l xs ys : List X) (k : ℕ) → drop k l ≡ xs ++ ys → drop (k + length xs) l ≡ ys
drop_past l [] ys k e = ap (λ j. drop j l) (omega arith) ∙ e
drop_past l (x ∷ xs) ys k e = let h = get_from_drop l k x (xs ++ ys) e in let same : k + suc (length xs) ≡ suc k + length xs = omega arith in ap (λ j. drop j l) same ∙ drop_past l xs ys (suc k) h.1

module _ {L : Type 0} where
  pub size_is : (t : Tree L) → size t ≡ sizes (below t) + 1
  size_is (leaf x) = refl
  size_is (node p f) = refl

  abbrev pub snoc : Forest L → Tree L → Forest L
  snoc none u = before u none
  snoc (before t f) u = before t (snoc f u)

  -- a forest that has nodes has a last tree
  pub last : (f : Forest L) → 0 < sizes f → (g : Forest L) × (u : Tree L) × (f ≡ snoc g u)
  last none some = absurd (omega arith)
  last (before t none) some = (none, t, refl)
  last (before t (before s f)) some =
      let h = last (before s f) (omega (arith, size_is s)) in
      (before t h.0, h.1, ap (before t) h.2)

  sizes_snoc : (f : Forest L) (u : Tree L) → sizes (snoc f u) ≡ sizes f + size u
  sizes_snoc none u = omega arith
  sizes_snoc (before t f) u = let h = sizes_snoc f u in omega arith

  visits_snoc : (k d : ℕ) (f : Forest L) (u : Tree L) → root_visits k d (snoc f u) ≡ root_visits k d f ++ record { index = k + sizes f + size u - 1; depth = d } ∷ []
  visits_snoc k d none u = ap (λ i. record { index = i; depth = d } ∷ []) (omega arith)
  visits_snoc k d (before t f) u = ap (λ vs. record { index = k + size t - 1; depth = d } ∷ vs) (visits_snoc (k + size t) d f u ∙ ap (λ i. root_visits (k + size t) d f ++ record { index = i; depth = d } ∷ []) (omega arith))

  module _ (at : L → Span) where
    mutual
      pub flat_length : (left : Span) (t : Tree L) → length (flat at left t) ≡ size t
      flat_length left (leaf x) = refl
      flat_length left (node p f) = let h = flats_length left f in omega (arith, length-append (flats at left f) (nonterm p (span_over at left f) (length (flats at left f)) ∷ []))

      pub flats_length : (left : Span) (f : Forest L) → length (flats at left f) ≡ sizes f
      flats_length left none = refl
      flats_length left (before t f) = let h = flat_length left t in let r = flats_length (span_of at left t) f in omega (arith, length-append (flat at left t) (flats at (span_of at left t) f))

    flats_snoc : (left : Span) (f : Forest L) (u : Tree L) → flats at left (snoc f u) ≡ flats at left f ++ flat at (last_span at left f) u
    flats_snoc left none u = append-nil (flat at left u)
    flats_snoc left (before t f) u = ap (λ l. flat at left t ++ l) (flats_snoc (span_of at left t) f u) ∙ sym (append_assoc (flat at left t) (flats at (span_of at left t) f) (flat at (last_span at (span_of at left t) f) u))

    module _ (pieces : List (Piece L)) where
      -- what stands at a tree's root
      pub root_at : (k : ℕ) (t : Tree L) → StandsAt at pieces k t → option_map nodes_below (slice_get pieces (k + sizes (below t))) ≡ Some (sizes (below t))
      root_at k (leaf x) s =
          let same : k + 0 ≡ k = omega arith in
          ap (λ j. option_map nodes_below (slice_get pieces j)) same ∙ ap (option_map nodes_below) (get_from_drop pieces k (term x) s.behind s.is).0
      root_at k (node p f) s =
          let root = nonterm p (span_over at s.left f) (length (flats at s.left f)) in
          let past = drop_past pieces (flats at s.left f) (root ∷ s.behind) k (s.is ∙ append_assoc (flats at s.left f) (root ∷ []) s.behind) in
          let place : k + sizes f ≡ k + length (flats at s.left f) = omega (arith, flats_length s.left f) in
          ap (λ j. option_map nodes_below (slice_get pieces j)) place ∙ ap (option_map nodes_below) (get_from_drop pieces (k + length (flats at s.left f)) root s.behind past).0 ∙ ap Some (flats_length s.left f)

      pub below_at : (k i r : ℕ) (t : Tree L) → StandsAt at pieces k t → i + 1 ≡ k + size t → option_map nodes_below (slice_get pieces i) ≡ Some r → r ≡ sizes (below t)
      below_at k i r t s e is =
          let place : i ≡ k + sizes (below t) = omega (arith, size_is t) in
          let same = sym is ∙ ap (λ j. option_map nodes_below (slice_get pieces j)) place ∙ root_at k t s in
          cc

      within : (i r : ℕ) → option_map nodes_below (slice_get pieces i) ≡ Some r → i < length pieces
      within i r e = by (slice_get pieces i) refl e
        where
          by : (o : _) → slice_get pieces i ≡ o → option_map nodes_below o ≡ Some r → i < length pieces
          by None is h = absurd cc
          by (Some x) is h = slice_get_within pieces i x is

      pub root_within : (k i : ℕ) (t : Tree L) → StandsAt at pieces k t → i + 1 ≡ k + size t → i < length pieces
      root_within k i t s e =
          let place : k + sizes (below t) ≡ i = omega (arith, size_is t) in
          within i (sizes (below t)) (ap (λ j. option_map nodes_below (slice_get pieces j)) (sym place) ∙ root_at k t s)

      -- the children stand before their parent
      pub children_at : (k : ℕ) (t : Tree L) → StandsAt at pieces k t → StandAt at pieces k (below t)
      children_at k (leaf x) s = record { left = s.left; behind = drop k pieces; is = refl }
      children_at k (node p f) s = record { left = s.left; behind = nonterm p (span_over at s.left f) (length (flats at s.left f)) ∷ s.behind; is = s.is ∙ append_assoc (flats at s.left f) (nonterm p (span_over at s.left f) (length (flats at s.left f)) ∷ []) s.behind }

      pub first_at : (k : ℕ) (t : Tree L) (f : Forest L) → StandAt at pieces k (before t f) → StandsAt at pieces k t
      first_at k t f s = record { left = s.left; behind = flats at (span_of at s.left t) f ++ s.behind; is = s.is ∙ append_assoc (flat at s.left t) (flats at (span_of at s.left t) f) s.behind }

      pub others_at : (k : ℕ) (t : Tree L) (f : Forest L) → StandAt at pieces k (before t f) → StandAt at pieces (k + size t) f
      others_at k t f s = record {
        left = span_of at s.left t;
        behind = s.behind;
        is = ap (λ j. drop (k + j) pieces) (sym (flat_length s.left t)) ∙ drop_past pieces (flat at s.left t) (flats at (span_of at s.left t) f ++ s.behind) k (s.is ∙ append_assoc (flat at s.left t) (flats at (span_of at s.left t) f) s.behind);
      }

      first_is : (k : ℕ) (f : Forest L) (u : Tree L) (s : StandAt at pieces k (snoc f u)) → drop k pieces ≡ flats at s.left f ++ (flat at (last_span at s.left f) u ++ s.behind)
      first_is k f u s = s.is ∙ ap (λ l. l ++ s.behind) (flats_snoc s.left f u) ∙ append_assoc (flats at s.left f) (flat at (last_span at s.left f) u) s.behind

      initial_at : (k : ℕ) (f : Forest L) (u : Tree L) → StandAt at pieces k (snoc f u) → StandAt at pieces k f
      initial_at k f u s = record {
        left = s.left;
        behind = flat at (last_span at s.left f) u ++ s.behind;
        is = first_is k f u s;
      }

      last_at : (k : ℕ) (f : Forest L) (u : Tree L) → StandAt at pieces k (snoc f u) → StandsAt at pieces (k + sizes f) u
      last_at k f u s = record {
        left = last_span at s.left f;
        behind = s.behind;
        is = ap (λ j. drop (k + j) pieces) (sym (flats_length s.left f)) ∙ drop_past pieces (flats at s.left f) (flat at (last_span at s.left f) u ++ s.behind) k (first_is k f u s);
      }

      -- the children that are still to be put on those that wait, whose last one's root stands before `end`
      pub record Left (k d end : ℕ) (t : Tree L) (waited waiting : List Visit) : Type 0 where
        pub others : Forest L
        pub stand : StandAt at pieces k others
        pub ends : end ≡ k + sizes others
        pub put : waiting ++ reverse (root_visits k d others) ≡ waited ++ reverse (root_visits k d (below t))

      pub all_left : (k d end : ℕ) (t : Tree L) (waited : List Visit) → StandsAt at pieces k t → end + 1 ≡ k + size t → Left k d end t waited waited
      all_left k d end t waited s e = record { others = below t; stand = children_at k t s; ends = omega (arith, size_is t); put = refl }

      -- the last one's root is next
      pub next_left : (k d end : ℕ) (t : Tree L) (waited waiting : List Visit) → Left k d end t waited waiting → k < end → (j : ℕ) × (u : Tree L) × StandsAt at pieces j u × (end ≡ j + size u) × (k ≤ j)
      next_left k d end t waited waiting l some =
          let h = last l.others (omega (arith, l.ends)) in
          (k + sizes h.0, h.1, last_at k h.0 h.1 (subst (StandAt at pieces k) h.2 l.stand), omega (arith, l.ends, ap sizes h.2, sizes_snoc h.0 h.1), omega arith)

      pub less_left : (k d end end' r : ℕ) (t : Tree L) (waited waiting waiting' : List Visit) → Left k d end t waited waiting → k < end → option_map nodes_below (slice_get pieces (end - 1)) ≡ Some r → end' ≡ end - 1 - r →
          waiting' ≡ waiting ++ record { index = end - 1; depth = d } ∷ [] → Left k d end' t waited waiting'
      less_left k d end end' r t waited waiting waiting' l some is e put =
          let h = last l.others (omega (arith, l.ends)) in
          let stand = subst (StandAt at pieces k) h.2 l.stand in
          let long : end ≡ k + sizes h.0 + size h.1 = omega (arith, l.ends, ap sizes h.2, sizes_snoc h.0 h.1) in
          let u = size_is h.1 in
          let counted = below_at (k + sizes h.0) (end - 1) r h.1 (last_at k h.0 h.1 stand) (omega arith) is in
          let visit : Visit = record { index = end - 1; depth = d } in
          let turned : reverse (root_visits k d l.others) ≡ visit ∷ reverse (root_visits k d h.0) =
          ap (λ f. reverse (root_visits k d f)) h.2 ∙ ap reverse (visits_snoc k d h.0 h.1 ∙ ap (λ i. root_visits k d h.0 ++ record { index = i; depth = d } ∷ []) (omega arith)) ∙ reverse-append (root_visits k d h.0) (visit ∷ []) in
          record {
            others = h.0;
            stand = initial_at k h.0 h.1 stand;
            ends = omega arith;
            put = ap (λ l. l ++ reverse (root_visits k d h.0)) put ∙ append_assoc waiting (visit ∷ []) (reverse (root_visits k d h.0)) ∙ ap (λ m. waiting ++ m) (sym turned) ∙ l.put;
          }

      pub none_left : (k d end : ℕ) (t : Tree L) (waited waiting : List Visit) → Left k d end t waited waiting → end ≤ k → waiting ≡ waited ++ reverse (root_visits k d (below t))
      none_left k d end t waited waiting l less = sym (append-nil waiting) ∙ ap (λ m. waiting ++ m) (sym (nothing l.others (omega (arith, l.ends)))) ∙ l.put
        where
          nothing : (f : Forest L) → sizes f ≡ 0 → reverse (root_visits k d f) ≡ []
          nothing none z = refl
          nothing (before u f) z = absurd (omega (arith, size_is u))

      mutual
        -- each node among a tree's is the root of some tree
        pub root_in : (k i : ℕ) (t : Tree L) → StandsAt at pieces k t → k ≤ i → i < k + size t → (j : ℕ) × (u : Tree L) × StandsAt at pieces j u × (i + 1 ≡ j + size u)
        root_in k i (leaf x) s le lt = (k, leaf x, s, omega arith)
        root_in k i (node p f) s le lt = ⊎_elim (λ h. root_among k i f (children_at k (node p f) s) le h) (λ h. (k, node p f, s, omega arith)) (cases_lt i (k + sizes f))

        root_among : (k i : ℕ) (f : Forest L) → StandAt at pieces k f → k ≤ i → i < k + sizes f → (j : ℕ) × (u : Tree L) × StandsAt at pieces j u × (i + 1 ≡ j + size u)
        root_among k i none s le lt = absurd (omega arith)
        root_among k i (before t f) s le lt = ⊎_elim (λ h. root_in k i t (first_at k t f s) le h) (λ h. root_among (k + size t) i f (others_at k t f s) h (omega arith)) (cases_lt i (k + size t))

      -- what waits, the next one first, stands for what is to come
      abbrev pub Waits : List Visit → List Visit → Type 0
      Waits [] todo = todo ≡ []
      Waits (v ∷ vs) todo = (k : ℕ) × (t : Tree L) × (rest : List Visit) × StandsAt at pieces k t × (v.index + 1 ≡ k + size t) × (v.depth + size t ≤ length pieces) × (todo ≡ preorder k v.depth t ++ rest) × Waits vs rest

      -- trees beside each other
      forest_waits : (k d : ℕ) (f : Forest L) (vs rest : List Visit) → StandAt at pieces k f → d + sizes f ≤ length pieces → Waits vs rest → Waits (root_visits k d f ++ vs) (preorders k d f ++ rest)
      forest_waits k d none vs rest s fits w = w
      forest_waits k d (before t f) vs rest s fits w = (
        k,
        t,
        preorders (k + size t) d f ++ rest,
        first_at k t f s,
        omega (arith, size_is t),
        omega arith,
        append_assoc (preorder k d t) (preorders (k + size t) d f) rest,
        forest_waits (k + size t) d f vs rest (others_at k t f s) (omega arith) w,
      )

      -- a node comes before its children
      preorder_is : (k : ℕ) (v : Visit) (t : Tree L) → v.index + 1 ≡ k + size t → preorder k v.depth t ≡ v ∷ preorders k (v.depth + 1) (below t)
      preorder_is k v (leaf x) e = ap (λ i. record { index = i; depth = v.depth } ∷ []) (omega arith)
      preorder_is k v (node p f) e = ap (λ i. record { index = i; depth = v.depth } ∷ preorders k (v.depth + 1) f) (omega arith)

      -- the walk so far
      pub record Walks (all found waiting : List Visit) : Type 0 where
        pub todo : List Visit
        pub waits : Waits (reverse waiting) todo
        pub is : found ++ todo ≡ all

      pub turned : (vs : List Visit) (v : Visit) → reverse (vs ++ v ∷ []) ≡ v ∷ reverse vs
      turned vs v = reverse-append vs (v ∷ [])

      -- the next one, and its children
      pub next_stands : (all found waiting waiting' : List Visit) (v : Visit) → Walks all found waiting → waiting ≡ waiting' ++ v ∷ [] → (k : ℕ) × (t : Tree L) × StandsAt at pieces k t × (v.index + 1 ≡ k + size t) × (v.depth < length pieces)
      next_stands all found waiting waiting' v w e =
          let h : Waits (v ∷ reverse waiting') w.todo = subst (λ l. Waits l w.todo) (ap reverse e ∙ turned waiting' v) w.waits in
          let b = h.5 in
          (h.0, h.1, h.3, h.4, omega (arith, size_is h.1, b))

      pub next_walks : (all found waiting waiting' waiting'' found' : List Visit) (v : Visit) → Walks all found waiting → waiting ≡ waiting' ++ v ∷ [] → found' ≡ found ++ v ∷ [] →
          ((k : ℕ) (t : Tree L) → StandsAt at pieces k t → v.index + 1 ≡ k + size t → waiting'' ≡ waiting' ++ reverse (root_visits k (v.depth + 1) (below t))) → Walks all found' waiting''
      next_walks all found waiting waiting' waiting'' found' v w e is put =
          let h : Waits (v ∷ reverse waiting') w.todo = subst (λ l. Waits l w.todo) (ap reverse e ∙ turned waiting' v) w.waits in
          let k = h.0 in
          let t = h.1 in
          let b = h.5 in
          let rest = h.2 in
          let visits = root_visits k (v.depth + 1) (below t) in
          let back : reverse waiting'' ≡ visits ++ reverse waiting' = ap reverse (put k t h.3 h.4) ∙ reverse-append waiting' (reverse visits) ∙ ap (λ l. l ++ reverse waiting') (reverse-reverse visits) in
          record {
            todo = preorders k (v.depth + 1) (below t) ++ rest;
            waits = subst (λ l. Waits l (preorders k (v.depth + 1) (below t) ++ rest)) (sym back) (forest_waits k (v.depth + 1) (below t) (reverse waiting') rest (children_at k t h.3) (omega (arith, size_is t, b)) h.7);
            is = ap (λ l. l ++ (preorders k (v.depth + 1) (below t) ++ rest)) is ∙ append_assoc found (v ∷ []) (preorders k (v.depth + 1) (below t) ++ rest) ∙ ap (λ l. found ++ l) (sym (h.6 ∙ ap (λ l. l ++ rest) (preorder_is k v t h.4))) ∙ w.is;
          }

      pub walk_ends : (all found waiting : List Visit) → Walks all found waiting → waiting ≡ [] → found ≡ all
      walk_ends all found waiting w e =
          let none_left : w.todo ≡ [] = subst (λ l. Waits (reverse l) w.todo) e w.waits in
          sym (append-nil found) ∙ ap (λ l. found ++ l) (sym none_left) ∙ w.is

    mutual
      pub preorder_length : (k d : ℕ) (t : Tree L) → length (preorder k d t) ≡ size t
      preorder_length k d (leaf x) = refl
      preorder_length k d (node p f) = let h = preorders_length k (d + 1) f in omega arith

      preorders_length : (k d : ℕ) (f : Forest L) → length (preorders k d f) ≡ sizes f
      preorders_length k d none = refl
      preorders_length k d (before t f) = let h = preorder_length k d t in let r = preorders_length (k + size t) d f in omega (arith, length-append (preorder k d t) (preorders (k + size t) d f))

    -- the walk begins at the root
    pub walk_begins : (pieces : List (Piece L)) (t : Tree L) (v : Visit) (found waiting : List Visit) → IsFlat at t pieces → v.index + 1 ≡ length pieces → v.depth ≡ 0 → found ≡ [] → waiting ≡ v ∷ [] → Walks pieces (preorder 0 0 t) found waiting
    walk_begins pieces t v found waiting flat_is e top nothing one =
        let long : length pieces ≡ size t = ap length flat_is.pieces_are ∙ flat_length no_span t in
        record {
          todo = preorder 0 0 t;
          waits = subst (λ l. Waits pieces (reverse l) (preorder 0 0 t)) (sym one) (0, t, [], record { left = no_span; behind = []; is = flat_is.pieces_are ∙ sym (append-nil (flat at no_span t)) }, omega arith, omega arith, ap (λ d. preorder 0 d t) (sym top) ∙ sym (append-nil (preorder 0 v.depth t)), refl);
          is = ap (λ l. l ++ preorder 0 0 t) nothing;
        }

    pub some_nodes : (pieces : List (Piece L)) (t : Tree L) → IsFlat at t pieces → 0 < length pieces
    some_nodes pieces t flat_is = omega (arith, ap length flat_is.pieces_are, flat_length no_span t, size_is t)

    -- each turn finds a node
    pub found_less : (pieces : List (Piece L)) (t : Tree L) (found found' waiting waiting' : List Visit) (v : Visit) → IsFlat at t pieces → Walks pieces (preorder 0 0 t) found' waiting' → found' ≡ found ++ v ∷ [] → length pieces - length found' < length pieces - length found
    found_less pieces t found found' waiting waiting' v flat_is w is =
        let long : length pieces ≡ size t = ap length flat_is.pieces_are ∙ flat_length no_span t in
        omega (arith, long, preorder_length 0 0 t, ap length w.is, length-append found' w.todo, ap length is, length-append found (v ∷ []))

    pub any_root : (pieces : List (Piece L)) (t : Tree L) (i : ℕ) → IsFlat at t pieces → i < length pieces → (j : ℕ) × (u : Tree L) × StandsAt at pieces j u × (i + 1 ≡ j + size u)
    any_root pieces t i flat_is lt =
        let long : length pieces ≡ size t = ap length flat_is.pieces_are ∙ flat_length no_span t in
        root_in pieces 0 i t (record { left = no_span; behind = []; is = flat_is.pieces_are ∙ sym (append-nil (flat at no_span t)) }) (omega arith) (omega (arith, long, lt))
