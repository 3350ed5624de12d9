-- A flat tree beside a run.
use Rattle.std.specs.Prelude.{◌≡◌, ◌≤◌, ℕ, List, Some, reverse, slice_get}
use Rattle.cfg_base.specs.SpanModel.{SpanModel}
use Rattle.cfg_theory.specs.Fold.{Span}
use Rattle.cfg_theory.specs.Tree.{Tree}
use Rattle.lr_theory.specs.StackValues.{stack_spans}
use Rattle.parse_trees.specs.FlatTrees.{Piece, IsFlatStack, piece_span}
use Rattle.parse_trees.specs.Stacks.{spans_of, StartsAscend}

-- nodes and ends are those of the trees, whose top comes first, and the trees' starts ascend
pub record FlatStand {L : Type 0} (at : L → Span) (ts : List (Tree L)) (pieces : List (Piece L)) (ends : List ℕ) : Type 0 where
  pub flat : IsFlatStack at ts pieces ends
  pub spans : List SpanModel
  pub spans_are : reverse (spans_of spans) ≡ stack_spans at ts
  pub ascend : StartsAscend spans

-- no node starts after this place
pub record PiecesStartBy {L : Type 0} (at : L → Span) (pieces : List (Piece L)) (place : ℕ) : Type 0 where
  pub by : (k : ℕ) (x : Piece L) → slice_get pieces k ≡ Some x → (piece_span at x).from ≤ place
