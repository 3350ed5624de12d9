-- Walks over outlines: what waits stands for what is to come.
use Rattle.std.proofs.Common.{◌≡◌, ℕ, suc, ◌-◌, ◌+◌, ◌^◌, ◌≤◌, ◌<◌, List, [], ◌∷◌, ◌++◌, map, length, drop, reverse, Option, None, Some, subst, refl, sym, ap, ◌∙◌, arith, append_assoc, append-nil, length-append}
use Rattle.std.specs.Prelude.{slice_get, option_map}
use Rattle.std.proofs.lemmas.List.{length-map, reverse-append, reverse-reverse}
use Rattle.std.proofs.lemmas.Option.{slice_get-map}
use Rattle.cfg_theory.specs.Fold.{Span, no_span, span_over}
use Rattle.cfg_theory.specs.Tree.{Tree, leaf, node, Forest, none, before}
use Rattle.cfg_theory.proofs.Lists.{get_from_drop}
use Rattle.parse_trees.specs.declared.flat.Visit.{Visit}
use Rattle.parse_trees.specs.FlatTrees.{Piece, term, nonterm, flats, size, sizes, below, IsFlat, StandsAt, StandAt, root_visits, nodes_below}
use Rattle.parse_trees.specs.declared.outline.OutlineNode.{OutlineNode}
use Rattle.parse_trees.specs.Outlines.{Mark, leaf_mark, prod_mark, erased, unplaced, mark_of, marks_of, mark_below, symbol_by, leaf_count, SymbolVisit, symbols, symbols_in, leaves, leaves_in, OutlineWaits, IsLeft}
use Rattle.parse_trees.proofs.FlatWalks.{drop_past, flats_length, flat_length, size_is, children_at, first_at, others_at, root_within}

at_most_one : (m : Mark) → leaf_count m ≤ 1
at_most_one leaf_mark = omega arith
at_most_one (prod_mark p n) = omega arith

module _ {L : Type 0} where
  -- of a node's mark and of its piece
  below_mark : (o : Option (Piece L)) (r : ℕ) → option_map mark_below (option_map erased o) ≡ Some r → option_map nodes_below o ≡ Some r
  below_mark None r e = e
  below_mark (Some (term x)) r e = e
  below_mark (Some (nonterm p span n)) r e = e

  pub below_piece : (marks : List Mark) (pieces : List (Piece L)) (i r : ℕ) (m : Mark) → marks ≡ map erased pieces → slice_get marks i ≡ Some m → r ≡ mark_below m → option_map nodes_below (slice_get pieces i) ≡ Some r
  below_piece marks pieces i r m are at is =
      below_mark (slice_get pieces i) r (ap (option_map mark_below) (sym (slice_get-map erased pieces i) ∙ ap (λ l. slice_get l i) (sym are) ∙ at) ∙ ap (λ k. Some k) (sym is))

  abbrev pub root_mark : Tree L → Mark
  root_mark (leaf x) = leaf_mark
  root_mark (node p f) = prod_mark p (sizes f)

  module _ (pieces : List (Piece L)) where
    root_piece : (k : ℕ) (t : Tree L) → StandsAt unplaced pieces k t → option_map erased (slice_get pieces (k + sizes (below t))) ≡ Some (root_mark t)
    root_piece k (leaf x) s =
        let same : k + 0 ≡ k = omega arith in
        ap (λ j. option_map erased (slice_get pieces j)) same ∙ ap (option_map erased) (get_from_drop pieces k (term x) s.behind s.is).0
    root_piece k (node p f) s =
        let root = nonterm p (span_over unplaced s.left f) (length (flats unplaced s.left f)) in
        let past = drop_past pieces (flats unplaced s.left f) (root ∷ s.behind) k (s.is ∙ append_assoc (flats unplaced s.left f) (root ∷ []) s.behind) in
        let place : k + sizes f ≡ k + length (flats unplaced s.left f) = omega (arith, flats_length unplaced s.left f) in
        ap (λ j. option_map erased (slice_get pieces j)) place ∙ ap (option_map erased) (get_from_drop pieces (k + length (flats unplaced s.left f)) root s.behind past).0 ∙ ap (λ n. Some (prod_mark p n)) (flats_length unplaced s.left f)

    -- the mark of a tree's root
    pub root_is : (marks : List Mark) (k i : ℕ) (t : Tree L) (m : Mark) → marks ≡ map erased pieces → StandsAt unplaced pieces k t → i + 1 ≡ k + size t → slice_get marks i ≡ Some m → m ≡ root_mark t
    root_is marks k i t m are s e at =
        let place : i ≡ k + sizes (below t) = omega (arith, size_is t, e) in
        let read = sym at ∙ ap (λ l. slice_get l i) are ∙ slice_get-map erased pieces i ∙ ap (λ j. option_map erased (slice_get pieces j)) place ∙ root_piece k t s in
        cc

    -- a node comes before its children
    pub symbols_is : (k d : ℕ) (t : Tree L) → symbols k d t ≡ record { symbol = symbol_by (root_mark t) k; depth = d } ∷ symbols_in k (d + 1) (below t)
    symbols_is k d (leaf x) = refl
    symbols_is k d (node p f) = refl

    forest_waits : (j d k : ℕ) (f : Forest L) (vs : List Visit) (rest : List SymbolVisit) → StandAt unplaced pieces j f → d + sizes f ≤ length pieces → OutlineWaits pieces vs (k + leaves_in f) rest → OutlineWaits pieces (root_visits j d f ++ vs) k (symbols_in k d f ++ rest)
    forest_waits j d k none vs rest s fits w = let same : k + 0 ≡ k = omega arith in subst (λ n. OutlineWaits pieces vs n rest) same w
    forest_waits j d k (before t f) vs rest s fits w = (
      j,
      t,
      symbols_in (k + leaves t) d f ++ rest,
      first_at unplaced pieces j t f s,
      omega (arith, size_is t),
      omega (arith, fits),
      append_assoc (symbols k d t) (symbols_in (k + leaves t) d f) rest,
      forest_waits (j + size t) d (k + leaves t) f vs rest (others_at unplaced pieces j t f s) (omega (arith, fits, size_is t)) (let same : k + (leaves t + leaves_in f) ≡ k + leaves t + leaves_in f = omega arith in subst (λ n. OutlineWaits pieces vs n rest) same w),
    )

    seen_is : (k : ℕ) (t : Tree L) → k + leaf_count (root_mark t) + leaves_in (below t) ≡ k + leaves t
    seen_is k (leaf x) = omega arith
    seen_is k (node p f) = omega arith

    symbols_below : (k d : ℕ) (t : Tree L) → symbols_in k d (below t) ≡ symbols_in (k + leaf_count (root_mark t)) d (below t)
    symbols_below k d (leaf x) = refl
    symbols_below k d (node p f) = let same : k ≡ k + 0 = omega arith in ap (λ n. symbols_in n d f) same

    pub next_fits : (waiting waiting' : List Visit) (v : Visit) (k : ℕ) (rest : List SymbolVisit) → OutlineWaits pieces (reverse waiting) k rest → waiting ≡ waiting' ++ v ∷ [] → (v.index < length pieces) × (v.depth < length pieces)
    next_fits waiting waiting' v k rest w e =
        let h : OutlineWaits pieces (v ∷ reverse waiting') k rest = subst (λ l. OutlineWaits pieces l k rest) (ap reverse e ∙ reverse-append waiting' (v ∷ [])) w in
        let b = h.5 in
        (root_within unplaced pieces h.0 v.index h.1 h.3 h.4, omega (arith, size_is h.1, b))

    -- the next one that waits, and what waits behind it with its children
    pub next_waits : (waiting waiting' waiting'' : List Visit) (v : Visit) (k : ℕ) (rest : List SymbolVisit) → OutlineWaits pieces (reverse waiting) k rest → waiting ≡ waiting' ++ v ∷ [] →
        ((j : ℕ) (t : Tree L) → StandsAt unplaced pieces j t → v.index + 1 ≡ j + size t → waiting'' ≡ waiting' ++ reverse (root_visits j (v.depth + 1) (below t))) →
        (j : ℕ) × (t : Tree L) × (others : List SymbolVisit) × StandsAt unplaced pieces j t × (v.index + 1 ≡ j + size t) × (v.depth < length pieces) × (rest ≡ record { symbol = symbol_by (root_mark t) k; depth = v.depth } ∷ others) × OutlineWaits pieces (reverse waiting'') (k + leaf_count (root_mark t)) others
    next_waits waiting waiting' waiting'' v k rest w e put =
        let h : OutlineWaits pieces (v ∷ reverse waiting') k rest = subst (λ l. OutlineWaits pieces l k rest) (ap reverse e ∙ reverse-append waiting' (v ∷ [])) w in
        let j = h.0 in
        let t = h.1 in
        let behind = h.2 in
        let b = h.5 in
        let n = k + leaf_count (root_mark t) in
        let visits = root_visits j (v.depth + 1) (below t) in
        let back : reverse waiting'' ≡ visits ++ reverse waiting' = ap reverse (put j t h.3 h.4) ∙ reverse-append waiting' (reverse visits) ∙ ap (λ l. l ++ reverse waiting') (reverse-reverse visits) in
        let left : OutlineWaits pieces (reverse waiting') (n + leaves_in (below t)) behind = subst (λ m. OutlineWaits pieces (reverse waiting') m behind) (sym (seen_is k t)) h.7 in (
          j,
          t,
          symbols_in n (v.depth + 1) (below t) ++ behind,
          h.3,
          h.4,
          omega (arith, size_is t, b),
          h.6 ∙ ap (λ l. l ++ behind) (symbols_is k v.depth t ∙ ap (λ l. record { symbol = symbol_by (root_mark t) k; depth = v.depth } ∷ l) (symbols_below k (v.depth + 1) t)),
          subst (λ l. OutlineWaits pieces l n (symbols_in n (v.depth + 1) (below t) ++ behind)) (sym back) (forest_waits j (v.depth + 1) n (below t) (reverse waiting') behind (children_at unplaced pieces j t h.3) (omega (arith, size_is t, b)) left),
        )

  mutual
    pub symbols_length : (k d : ℕ) (t : Tree L) → length (symbols k d t) ≡ size t
    symbols_length k d (leaf x) = refl
    symbols_length k d (node p f) = let h = symbols_in_length k (d + 1) f in omega (arith, h)

    symbols_in_length : (k d : ℕ) (f : Forest L) → length (symbols_in k d f) ≡ sizes f
    symbols_in_length k d none = refl
    symbols_in_length k d (before t f) = let h = symbols_length k d t in let r = symbols_in_length (k + leaves t) d f in omega (arith, h, r, length-append (symbols k d t) (symbols_in (k + leaves t) d f))

  -- a walk begins at the root
  pub begins : (pieces : List (Piece L)) (t : Tree L) (v : Visit) (waiting : List Visit) → IsFlat unplaced t pieces → v.index + 1 ≡ length pieces → v.depth ≡ 0 → waiting ≡ v ∷ [] → OutlineWaits pieces (reverse waiting) 0 (symbols 0 0 t)
  begins pieces t v waiting flat_is e top one =
      let long : length pieces ≡ size t = ap length flat_is.pieces_are ∙ flat_length unplaced no_span t in
      subst (λ l. OutlineWaits pieces (reverse l) 0 (symbols 0 0 t)) (sym one)
      (0, t, [], record { left = no_span; behind = []; is = flat_is.pieces_are ∙ sym (append-nil _) }, omega (arith, e, long), omega (arith, top, long), ap (λ d. symbols 0 d t) (sym top) ∙ sym (append-nil (symbols 0 v.depth t)), refl)

  -- a step of a walk: what it comes to, and what is left
  pub stepped : {S : Type 0} (number : S → ℕ) (nodes : List (OutlineNode S)) (waiting waiting' waiting'' : List Visit) (v : Visit) (n : OutlineNode S) (seen seen' : ℕ) (rest : List SymbolVisit) (left : IsLeft L number nodes waiting seen rest) →
      waiting ≡ waiting' ++ v ∷ [] → slice_get nodes v.index ≡ Some n →
      ((j : ℕ) (t : Tree L) → StandsAt unplaced left.pieces j t → v.index + 1 ≡ j + size t → waiting'' ≡ waiting' ++ reverse (root_visits j (v.depth + 1) (below t))) →
      (seen + 1 < 2 ^ 64 → seen' ≡ seen + leaf_count (mark_of number n)) →
      (others : List SymbolVisit) × (rest ≡ record { symbol = symbol_by (mark_of number n) seen; depth = v.depth } ∷ others) × IsLeft L number nodes waiting'' seen' others
  stepped number nodes waiting waiting' waiting'' v n seen seen' rest left e at put count =
      let w = next_waits left.pieces waiting waiting' waiting'' v seen rest left.waits e put in
      let read : slice_get (marks_of number nodes) v.index ≡ Some (mark_of number n) = slice_get-map (mark_of number) nodes v.index ∙ ap (option_map (mark_of number)) at in
      let same : mark_of number n ≡ root_mark w.1 = root_is left.pieces (marks_of number nodes) w.0 v.index w.1 (mark_of number n) left.are w.3 w.4 read in
      let long = ap length w.6 in
      let within = left.within in
      let few = left.few in
      let counted = count (omega (arith, long, within, few)) in
      let one = at_most_one (mark_of number n) in
      let seen_same : seen + leaf_count (root_mark w.1) ≡ seen' = ap (λ m. seen + leaf_count m) (sym same) ∙ sym counted in (
        w.2,
        w.6 ∙ ap (λ m. record { symbol = symbol_by m seen; depth = v.depth } ∷ w.2) (sym same),
        record {
          pieces = left.pieces;
          are = left.are;
          waits = subst (λ k. OutlineWaits left.pieces (reverse waiting'') k w.2) seen_same w.7;
          within = omega (arith, long, within, counted, one);
          few = few;
        },
      )
