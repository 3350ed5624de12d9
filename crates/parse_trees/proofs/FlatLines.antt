-- The lines of a flat tree are those of its shape.
use Rattle.std.proofs.Common.{◌≡◌, ℕ, zero, suc, ◌+◌, ◌<◌, List, [], ◌∷◌, ◌++◌, length, Some, None, refl, sym, ap, ◌∙◌, subst, arith, append_assoc, append-nil}
use Rattle.std.specs.Prelude.{slice_get, option_map}
use Rattle.std.specs.List.{flat_map}
use Rattle.std.proofs.lemmas.Grind.{flat_map-append}
use Rattle.std.proofs.lemmas.Option.{slice_get-map, slice_get_within}
use Rattle.cfg_theory.specs.Grammar.{head_of}
use Rattle.cfg_theory.specs.Tree.{Tree, leaf, node, Forest, none, before}
use Rattle.cfg_theory.specs.Fold.{Span, no_span, span_over}
use Rattle.cfg_theory.proofs.Lists.{get_from_drop}
use Rattle.cfg_numbered.specs.Value.{GrammarValue}
use Rattle.parse_trees.specs.Lex.{Lex}
use Rattle.parse_trees.specs.declared.flat.FlatNode.{FlatNode}
use Rattle.parse_trees.specs.declared.flat.Visit.{Visit}
use Rattle.parse_trees.specs.FlatTrees.{IsFlat, Piece, term, nonterm, piece_of, pieces_of, flat, flats, size, sizes, preorder, preorders, StandsAt, StandAt}
use Rattle.parse_trees.specs.FlatLines.{visit_line, piece_line, CanShowTree, CanShowForest, CanShowPiece, CanVisit}
use Rattle.parse_trees.specs.Shapes.{rule_line, shape, shapes, tree_text, trees_text}
use Rattle.parse_trees.proofs.FlatWalks.{drop_past, flats_length, children_at, first_at, others_at}

pub piece_is : {S L : Type 0} (number : S → ℕ) (nodes : List (FlatNode S L)) (i : ℕ) (n m : FlatNode S L) → slice_get nodes i ≡ Some n → n ≡ m → slice_get (pieces_of number nodes) i ≡ Some (piece_of number m)
piece_is number nodes i n m e is = slice_get-map (piece_of number) nodes i ∙ ap (option_map (piece_of number)) e ∙ ap (λ k. Some (piece_of number k)) is

module _ {L : Type 0} (at : L → Span) (pieces : List (Piece L)) where
  pub leaf_at : (k : ℕ) (x : L) → StandsAt at pieces k (leaf x) → slice_get pieces k ≡ Some (term x)
  leaf_at k x s = (get_from_drop pieces k (term x) s.behind s.is).0

  pub node_at : (k p : ℕ) (f : Forest L) → StandsAt at pieces k (node p f) → (span : Span) × (n : ℕ) × (slice_get pieces (k + sizes f) ≡ Some (nonterm p span n))
  node_at k p f s =
      let span = span_over at s.left f in
      let n = length (flats at s.left f) in
      let past = drop_past pieces (flats at s.left f) (nonterm p span n ∷ s.behind) k (s.is ∙ append_assoc (flats at s.left f) (nonterm p span n ∷ []) s.behind) in
      let place : k + sizes f ≡ k + length (flats at s.left f) = omega (arith, flats_length at s.left f) in
      (span, n, ap (slice_get pieces) place ∙ (get_from_drop pieces (k + length (flats at s.left f)) (nonterm p span n) s.behind past).0)

  module _ (g : GrammarValue) (lex : L → Lex) (input : List ℕ) where
    mutual
      pub tree_lines : (k d : ℕ) (t : Tree L) → StandsAt at pieces k t → flat_map (visit_line g lex input pieces) (preorder k d t) ≡ tree_text g lex input d (shape g.grammar t)
      tree_lines k d (leaf x) s = append-nil (piece_line g lex input d (slice_get pieces k)) ∙ ap (piece_line g lex input d) (leaf_at k x s)
      tree_lines k d (node p f) s =
          let n = node_at k p f s in
          ap (λ l. l ++ flat_map (visit_line g lex input pieces) (preorders k (d + 1) f)) (ap (piece_line g lex input d) n.2) ∙ ap (λ l. rule_line g d (head_of g.grammar p) ++ l) (forest_lines k (d + 1) f (children_at at pieces k (node p f) s))

      forest_lines : (k d : ℕ) (f : Forest L) → StandAt at pieces k f → flat_map (visit_line g lex input pieces) (preorders k d f) ≡ trees_text g lex input d (shapes g.grammar f)
      forest_lines k d none s = refl
      forest_lines k d (before t f) s =
          flat_map-append (visit_line g lex input pieces) (preorder k d t) (preorders (k + size t) d f) ∙
          ap (λ l. l ++ flat_map (visit_line g lex input pieces) (preorders (k + size t) d f)) (tree_lines k d t (first_at at pieces k t f s)) ∙
          ap (λ l. tree_text g lex input d (shape g.grammar t) ++ l) (forest_lines (k + size t) d f (others_at at pieces k t f s))

    -- what holds of each visit of two lists holds of each of both
    joined : (us vs : List Visit) → CanVisit g lex input pieces us → CanVisit g lex input pieces vs → CanVisit g lex input pieces (us ++ vs)
    joined [] vs a b = b
    joined (u ∷ us) vs a b = λ j v e. by (joined us vs (λ i w h. a (suc i) w h) b) j v e
      where
        by : CanVisit g lex input pieces (us ++ vs) → (j : ℕ) (v : Visit) → slice_get (u ∷ (us ++ vs)) j ≡ Some v → CanShowPiece g lex input (slice_get pieces v.index)
        by rest zero v e = a zero v e
        by rest (suc j) v e = rest j v e

    first_visit : (u : Visit) (vs : List Visit) → CanShowPiece g lex input (slice_get pieces u.index) → CanVisit g lex input pieces vs → CanVisit g lex input pieces (u ∷ vs)
    first_visit u vs a b = λ j v e. by j v e
      where
        by : (j : ℕ) (v : Visit) → slice_get (u ∷ vs) j ≡ Some v → CanShowPiece g lex input (slice_get pieces v.index)
        by zero v e = let same : u ≡ v = cc in subst (λ w. CanShowPiece g lex input (slice_get pieces w.index)) same a
        by (suc j) v e = b j v e

    mutual
      pub tree_visits : (k d : ℕ) (t : Tree L) → StandsAt at pieces k t → CanShowTree g lex input t → CanVisit g lex input pieces (preorder k d t)
      tree_visits k d (leaf x) s h = first_visit (record { index = k; depth = d }) [] (subst (CanShowPiece g lex input) (sym (leaf_at k x s)) h) (λ j v e. cc)
      tree_visits k d (node p f) s h =
          let n = node_at k p f s in
          first_visit (record { index = k + sizes f; depth = d }) (preorders k (d + 1) f) (subst (CanShowPiece g lex input) (sym n.2) h.0) (forest_visits k (d + 1) f (children_at at pieces k (node p f) s) h.1)

      forest_visits : (k d : ℕ) (f : Forest L) → StandAt at pieces k f → CanShowForest g lex input f → CanVisit g lex input pieces (preorders k d f)
      forest_visits k d none s h = λ j v e. cc
      forest_visits k d (before t f) s h = joined (preorder k d t) (preorders (k + size t) d f) (tree_visits k d t (first_at at pieces k t f s) h.0) (forest_visits (k + size t) d f (others_at at pieces k t f s) h.1)

  -- a visit that can be shown is one of a node
  pub visit_within : (g : GrammarValue) (lex : L → Lex) (input : List ℕ) (i : ℕ) → CanShowPiece g lex input (slice_get pieces i) → i < length pieces
  visit_within g lex input i h = by (slice_get pieces i) refl h
    where
      by : (o : _) → slice_get pieces i ≡ o → CanShowPiece g lex input o → i < length pieces
      by None is h = elim h [ ]
      by (Some x) is h = slice_get_within pieces i x is

  pub whole_at : (t : Tree L) → IsFlat at t pieces → StandsAt at pieces 0 t
  whole_at t h = record { left = no_span; behind = []; is = h.pieces_are ∙ sym (append-nil (flat at no_span t)) }
