-- Nodes that are put together from the front of a tree's list come to the tree.
use Rattle.std.proofs.Common.{◌≡◌, ℕ, zero, suc, ◌+◌, ◌<◌, ◌≤◌, List, [], ◌∷◌, ◌++◌, length, drop, Option, None, Some, refl, sym, ap, ◌∙◌, arith, append_assoc, append-nil}
use Rattle.std.specs.Prelude.{Bool, true, false, nat_le, slice_get, option_map, option_and_then, if◌then◌else◌}
use Rattle.std.proofs.lemmas.Bool.{le-leb, leb-true}
use Rattle.std.proofs.lemmas.List.{drop_all}
use Rattle.cfg_theory.proofs.Lists.{drop_from_get}
use Rattle.cfg_theory.specs.Grammar.{Grammar, body_of}
use Rattle.cfg_theory.specs.Tree.{Tree, leaf, node, Forest, none, before, count, roots, IsTree, AreTrees}
use Rattle.cfg_theory.specs.Fold.{Span, no_span, span_of, span_over}
use Rattle.lr_theory.specs.Machine.{pop}
use Rattle.parse_trees.specs.FlatTrees.{Piece, nonterm, flat, flats, IsFlat}
use Rattle.parse_trees.specs.FlatReading.{put, put_each}
use Rattle.parse_trees.proofs.OnlyTree.{put_on, joined, joined_none}

module _ {L : Type 0} where
  popped : (f : Forest L) (ts : List (Tree L)) (n : ℕ) (acc : Forest L) → pop (count f + n) (put_on f ts) acc ≡ pop n ts (joined f acc)
  popped none ts n acc = ap (λ k. pop k ts acc) (omega arith)
  popped (before t f) ts n acc =
      let same : suc (count f) + n ≡ count f + suc n = omega arith in
      ap (λ k. pop k (put_on f (t ∷ ts)) acc) same ∙ popped f (t ∷ ts) (suc n) acc

  all_popped : (f : Forest L) (ts : List (Tree L)) → pop (count f) (put_on f ts) none ≡ Some (f, ts)
  all_popped f ts =
      let same : count f ≡ count f + 0 = omega arith in
      ap (λ k. pop k (put_on f ts) none) same ∙ popped f ts 0 none ∙ ap (λ g. Some (g, ts)) (joined_none f)

  pub enough : (n : ℕ) (ts : List (Tree L)) (acc f : Forest L) (below : List (Tree L)) → pop n ts acc ≡ Some (f, below) → n ≤ length ts
  enough zero ts acc f below e = omega arith
  enough (suc n) [] acc f below e = absurd cc
  enough (suc n) (t ∷ ts) acc f below e = let le = enough n ts (before t acc) f below e in omega (arith, le)

  module _ (G : Grammar) where
    -- what is put on for a node of a production
    pub for_node : (p n : ℕ) (span : Span) (ts us : List (Tree L)) → put G (nonterm p span n) ts ≡ Some us →
        (p < length G.productions) × ((f : Forest L) × (below : List (Tree L)) × (pop (length (body_of G p)) ts none ≡ Some (f, below)) × (us ≡ node p f ∷ below))
    for_node p n span ts us e = by (nat_le (suc p) (length G.productions)) refl e
      where
        then_by : (o : Option (Forest L × List (Tree L))) → pop (length (body_of G p)) ts none ≡ o → option_map (λ (g : Forest L × List (Tree L)). node p g.0 ∷ g.1) o ≡ Some us →
            (f : Forest L) × (below : List (Tree L)) × (pop (length (body_of G p)) ts none ≡ Some (f, below)) × (us ≡ node p f ∷ below)
        then_by None is h = absurd cc
        then_by (Some g) is h = (g.0, g.1, is, cc)

        by : (b : Bool) → nat_le (suc p) (length G.productions) ≡ b → (if b then option_map (λ (g : Forest L × List (Tree L)). node p g.0 ∷ g.1) (pop (length (body_of G p)) ts none) else None) ≡ Some us →
            (p < length G.productions) × ((f : Forest L) × (below : List (Tree L)) × (pop (length (body_of G p)) ts none ≡ Some (f, below)) × (us ≡ node p f ∷ below))
        by true is h = let le = leb-true (suc p) (length G.productions) is in (omega (arith, le), then_by (pop (length (body_of G p)) ts none) refl h)
        by false is h = absurd cc

  module _ (G : Grammar) (tok : L → ℕ) where
    as_many : (f : Forest L) → length (roots G tok f) ≡ count f
    as_many none = refl
    as_many (before t f) = ap suc (as_many f)

    node_put : (p n : ℕ) (span : Span) (f : Forest L) (ts : List (Tree L)) → IsTree G tok (node p f) → put G (nonterm p span n) (put_on f ts) ≡ Some (node p f ∷ ts)
    node_put p n span f ts is =
        let within : suc p ≤ length G.productions = omega (arith, is.0) in
        let many : length (body_of G p) ≡ count f = sym (ap length is.1) ∙ as_many f in
        ap (λ b. if b then option_map (λ (g : Forest L × List (Tree L)). node p g.0 ∷ g.1) (pop (length (body_of G p)) (put_on f ts) none) else None) (le-leb (suc p) (length G.productions) within)
        ∙ ap (λ k. option_map (λ (g : Forest L × List (Tree L)). node p g.0 ∷ g.1) (pop k (put_on f ts) none)) many
        ∙ ap (option_map (λ (g : Forest L × List (Tree L)). node p g.0 ∷ g.1)) (all_popped f ts)

    module _ (at : L → Span) where
      mutual
        put_one : (left : Span) (t : Tree L) (ps : List (Piece L)) (ts : List (Tree L)) → IsTree G tok t → put_each G (flat at left t ++ ps) ts ≡ put_each G ps (t ∷ ts)
        put_one left (leaf x) ps ts is = refl
        put_one left (node p f) ps ts is =
            let root = nonterm p (span_over at left f) (length (flats at left f)) in
            ap (λ l. put_each G l ts) (append_assoc (flats at left f) (root ∷ []) ps) ∙ put_all left f (root ∷ ps) ts is.2
            ∙ ap (option_and_then (put_each G ps)) (node_put p (length (flats at left f)) (span_over at left f) f ts is)

        put_all : (left : Span) (f : Forest L) (ps : List (Piece L)) (ts : List (Tree L)) → AreTrees G tok f → put_each G (flats at left f ++ ps) ts ≡ put_each G ps (put_on f ts)
        put_all left none ps ts are = refl
        put_all left (before t f) ps ts are =
            ap (λ l. put_each G l ts) (append_assoc (flat at left t) (flats at (span_of at left t) f) ps)
            ∙ put_one left t (flats at (span_of at left t) f ++ ps) ts are.0 ∙ put_all (span_of at left t) f ps (t ∷ ts) are.1

      pub whole_put : (t : Tree L) (pieces : List (Piece L)) → IsFlat at t pieces → IsTree G tok t → put_each G pieces [] ≡ Some (t ∷ [])
      whole_put t pieces is tree = ap (λ l. put_each G l []) (is.pieces_are ∙ sym (append-nil (flat at no_span t))) ∙ put_one no_span t [] [] tree

  -- the first of what is left is put on
  pub one_put : (G : Grammar) (p : Piece L) (ps : List (Piece L)) (ts vs : List (Tree L)) → put_each G (p ∷ ps) ts ≡ Some vs → (us : List (Tree L)) × (put G p ts ≡ Some us) × (put_each G ps us ≡ Some vs)
  one_put G p ps ts vs h = by (put G p ts) refl h
    where
      by : (o : Option (List (Tree L))) → put G p ts ≡ o → option_and_then (put_each G ps) o ≡ Some vs → (us : List (Tree L)) × (put G p ts ≡ Some us) × (put_each G ps us ≡ Some vs)
      by None is k = absurd cc
      by (Some us) is k = (us, is, k)

  pub next_put : (G : Grammar) (pieces : List (Piece L)) (i : ℕ) (p : Piece L) (ts vs : List (Tree L)) → slice_get pieces i ≡ Some p → put_each G (drop i pieces) ts ≡ Some vs →
      (us : List (Tree L)) × (put G p ts ≡ Some us) × (put_each G (drop (i + 1) pieces) us ≡ Some vs)
  next_put G pieces i p ts vs e h =
      let one = one_put G p (drop (suc i) pieces) ts vs (ap (λ l. put_each G l ts) (sym (drop_from_get pieces i p e)) ∙ h) in
      let same : i + 1 ≡ suc i = omega arith in
      (one.0, one.1, ap (λ k. put_each G (drop k pieces) one.0) same ∙ one.2)

  pub all_put : (G : Grammar) (pieces : List (Piece L)) (i : ℕ) (ts vs : List (Tree L)) → length pieces ≤ i → put_each G (drop i pieces) ts ≡ Some vs → ts ≡ vs
  all_put G pieces i ts vs le h = let one : Some ts ≡ Some vs = sym (ap (λ l. put_each G l ts) (drop_all i pieces le)) ∙ h in cc
