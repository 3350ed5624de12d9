-- The nodes of a tree as plain values.
use Rattle.std.specs.Prelude.{◌≡◌, ℕ, ◌+◌, ◌-◌, List, [], ◌∷◌, ◌++◌, map, length, take, slice_get, slice_range, codes, Option, None, Some, option_map}
use Rattle.cfg_numbered.specs.Value.{GrammarValue}
use Rattle.cfg_theory.specs.Grammar.{head_of}
use Rattle.cfg_theory.specs.Tree.{Tree}
use Rattle.parse_trees.specs.FlatLines.{CanShowTree}
use Rattle.parse_trees.specs.FlatTrees.{FlatValue, IsFlat, Piece, nonterm, preorder, term}
use Rattle.parse_trees.specs.Lex.{span_by}
use Rattle.parse_trees.specs.Shapes.{rule_text, token_text}
use Rattle.parse_trees.specs.declared.flat.Visit.{Visit}
use Rattle.report_forms.specs.declared.parse_values.TreeNode.{TreeNode}
use Rattle.text_parses.specs.Parses.{TextLexeme, lexeme_lex}
use Rattle.text_parses.specs.declared.parsing.Parsed.{Parsed}
use Rattle.text_parses.specs.declared.parsing.Parsed.TheVariants as found

-- a node as it is shown: its kind and name, where it begins and ends, the number of the node above, and the text of a token
pub record ShownNode : Type 0 where
  pub kind : List ℕ
  pub name : List ℕ
  pub start : ℕ
  pub end : ℕ
  pub parent : Option ℕ
  pub text : Option (List ℕ)

abbrev pub shown_of : TreeNode → ShownNode
shown_of n = record { kind = n.kind.now; name = n.name.now; start = n.start; end = n.end; parent = n.parent; text = option_map (λ t. t.now) n.text }

abbrev pub no_node : ShownNode
no_node = record { kind = []; name = []; start = 0; end = 0; parent = None; text = None }

module _ (g : GrammarValue) (input : List ℕ) where
  -- a piece of a flat tree, below the node of this number
  abbrev pub node_of : Option (Piece TextLexeme) → Option ℕ → ShownNode
  node_of None parent = no_node
  node_of (Some (term x)) parent = record {
    kind = codes "token";
    name = token_text g (lexeme_lex x).token;
    start = x.span.start;
    end = x.span.end;
    parent = parent;
    text = Some (slice_range input x.span.start x.span.end);
  }
  node_of (Some (nonterm p span n)) parent = record {
    kind = codes "rule";
    name = rule_text g (head_of g.grammar p);
    start = span.from;
    end = span.to;
    parent = parent;
    text = None;
  }

  -- visited nodes from a number on. Above are the numbers of the nodes that lead to the last one, the root first: the first of them,
  -- as many as the next one is deep, lead to this too, and the last of these is the node above it
  abbrev pub nodes_from : List (Piece TextLexeme) → List ℕ → ℕ → List Visit → List ShownNode
  nodes_from pieces above number [] = []
  nodes_from pieces above number (v ∷ vs) =
      node_of (slice_get pieces v.index) (slice_get (take v.depth above) (length (take v.depth above) - 1)) ∷ nodes_from pieces (take v.depth above ++ number ∷ []) (number + 1) vs

  -- these are the tree's nodes, each before those below it, where its lexemes have texts
  abbrev pub ShowsNodes : FlatValue TextLexeme → List TreeNode → Type 0
  ShowsNodes v nodes =
      (t : Tree TextLexeme) → IsFlat (span_by lexeme_lex) t v.pieces → CanShowTree g lexeme_lex input t → map shown_of nodes ≡ nodes_from v.pieces [] 0 (preorder 0 0 t)

  -- the nodes of the tree that was found, and none where none was
  abbrev pub HasNodes : Parsed → Option (List TreeNode) → Type 0
  HasNodes (found.Tree v) None = ⊥
  HasNodes (found.Tree v) (Some nodes) = ShowsNodes v nodes
  HasNodes (found.Unlexed e) nodes = nodes ≡ None
  HasNodes (found.Unparsed es) nodes = nodes ≡ None
