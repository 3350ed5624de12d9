-- The flat tree that a parse leaves.
use Rattle.std.proofs.Common.{◌≡◌, ℕ, List, Option, None, Some, refl}
use Rattle.std.specs.Prelude.{Result, IfSome}
use Rattle.cfg_theory.specs.Grammar.{Grammar}
use Rattle.cfg_theory.specs.Tree.{Tree, IsTree}
use Rattle.lr_theory.specs.Repair.{Edit}
use Rattle.state_table.specs.Graphs.{GraphValue}
use Rattle.state_table.specs.TableValues.{TableValue}
use Rattle.lrpar.specs.FlatParses.{HasFlat, IsFlatParse}
use Rattle.parse_trees.specs.FlatTrees.{IsFlatTree, FlatValue}
use Rattle.parse_trees.specs.Lex.{Lex, token_by, span_by}
use Rattle.lrpar.specs.declared.parse_error.ParseError.{ParseError}

-- the flat tree of a parse is one of the grammar
module _ {S L E : Type 0} (number : S → ℕ) (lex : L → Lex) (faulty : ℕ → ℕ → ℕ → L) (G : Grammar) (x : GraphValue) (v : TableValue) (answers : ℕ → ℕ → L → List (List Edit) → Type 0) (items : List (Result L E)) where
  pub tree_of : (value : Option (FlatValue L)) (errors : List (ParseError L S)) → IsFlatParse number lex faulty G x v answers items value errors → IfSome value (IsFlatTree G (token_by lex) (span_by lex))
  tree_of value errors is = by value is.parse.parsed.tree is.parse.parsed.gives_tree (λ t e. (is.parse.derives t e).is_tree)
    where
      by : (value : Option (FlatValue L)) (tree : Option (Tree L)) → HasFlat (span_by lex) value tree → ((t : Tree L) → tree ≡ Some t → IsTree G (token_by lex) t) → IfSome value (IsFlatTree G (token_by lex) (span_by lex))
      by None tree h f = tt
      by (Some w) None h f = absurd h
      by (Some w) (Some t) h f = (t, h, f t refl)
