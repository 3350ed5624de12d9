-- A tree whose nodes can be shown can be shown.
use Rattle.std.proofs.Common.{◌≡◌, List, [], ◌∷◌, ◌++◌, ℕ, map, Some, length, subst, ◌∙◌}
use Rattle.std.specs.List.{AllByRecursion}
use Rattle.cfg_theory.specs.Tree.{Tree, leaf, node, Forest, none, before}
use Rattle.cfg_theory.specs.Fold.{Span, no_span, span_of, span_over}
use Rattle.cfg_numbered.specs.Value.{GrammarValue}
use Rattle.parse_trees.specs.Lex.{Lex}
use Rattle.parse_trees.specs.FlatLines.{CanShowForest, CanShowPiece, CanShowTree}
use Rattle.parse_trees.specs.FlatTrees.{flat, flats, nonterm, piece_of, pieces_of, IsFlat, IsSomeTree, FlatValue}
use Rattle.parse_trees.specs.declared.flat.FlatNode.{FlatNode}

parted : {X : Type 0} (P : X → Type 0) (xs ys : List X) → AllByRecursion P (xs ++ ys) → AllByRecursion P xs × AllByRecursion P ys
parted P [] ys all = (tt, all)
parted P (x ∷ xs) ys all = let rest = parted P xs ys all.1 in ((all.0, rest.0), rest.1)

all_mapped : {X Y : Type 0} (P : Y → Type 0) (f : X → Y) (xs : List X) → AllByRecursion (λ x. P (f x)) xs → AllByRecursion P (map f xs)
all_mapped P f [] all = tt
all_mapped P f (x ∷ xs) all = (all.0, all_mapped P f xs all.1)

module _ {L : Type 0} (at : L → Span) (g : GrammarValue) (lex : L → Lex) (input : List ℕ) where
  mutual
    tree_can : (left : Span) (t : Tree L) → AllByRecursion (λ piece. CanShowPiece g lex input (Some piece)) (flat at left t) → CanShowTree g lex input t
    tree_can left (leaf x) all = all.0
    tree_can left (node p f) all =
        let parts = parted (λ piece. CanShowPiece g lex input (Some piece)) (flats at left f) (nonterm p (span_over at left f) (length (flats at left f)) ∷ []) all in
        (parts.1.0, forest_can left f parts.0)

    forest_can : (left : Span) (f : Forest L) → AllByRecursion (λ piece. CanShowPiece g lex input (Some piece)) (flats at left f) → CanShowForest g lex input f
    forest_can left none all = tt
    forest_can left (before t f) all =
        let parts = parted (λ piece. CanShowPiece g lex input (Some piece)) (flat at left t) (flats at (span_of at left t) f) all in
        (tree_can left t parts.0, forest_can (span_of at left t) f parts.1)

  pub value_can : {S : Type 0} (number : S → ℕ) (nodes : List (FlatNode S L)) (v : FlatValue L) → pieces_of number nodes ≡ v.pieces → IsSomeTree at v →
      AllByRecursion (λ n. CanShowPiece g lex input (Some (piece_of number n))) nodes → (t : Tree L) × IsFlat at t v.pieces × CanShowTree g lex input t
  value_can number nodes v e some all =
      let mapped = all_mapped (λ piece. CanShowPiece g lex input (Some piece)) (piece_of number) nodes all in
      (some.0, some.1, tree_can no_span some.0 (subst (AllByRecursion (λ piece. CanShowPiece g lex input (Some piece))) (e ∙ some.1.pieces_are) mapped))
