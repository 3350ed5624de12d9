-- Trees by rules, and how they are shown.
use Rattle.std.specs.Prelude.{ℕ, ◌+◌, ◌<◌, ◌≤◌, List, [], ◌∷◌, ◌++◌, map, replicate, slice_get, slice_range, option_map, Option, None, Some, IsCharBoundary}
use Rattle.cfg_theory.specs.Grammar.{Grammar, head_of, end_token}
use Rattle.cfg_theory.specs.Tree.{Tree, leaf, node, Forest, none, before}
use Rattle.cfg_numbered.specs.Value.{GrammarValue}
use Rattle.parse_trees.specs.Lex.{Lex}
use Rattle.parse_trees.specs.declared.node.Node.{Node, fold-Node}
use Rattle.parse_trees.specs.declared.node.Node.TheOpen.{Node-F}
use Rattle.parse_trees.specs.declared.node.Waiting.{Waiting}

mutual
  -- a lexeme, or a rule's number and what stands below it
  pub data Shape (L : Type 0) : Type 0 where
    lexeme : L → Shape L
    over : ℕ → Shapes L → Shape L

  -- from left to right
  pub data Shapes (L : Type 0) : Type 0 where
    nothing : Shapes L
    along : Shape L → Shapes L → Shapes L

abbrev mutual
  -- a tree by its rules
  pub shape : {L : Type 0} → Grammar → Tree L → Shape L
  shape G (leaf x) = lexeme x
  shape G (node p f) = over (head_of G p) (shapes G f)

  pub shapes : {L : Type 0} → Grammar → Forest L → Shapes L
  shapes G none = nothing
  shapes G (before t f) = along (shape G t) (shapes G f)

abbrev pub shapes_from : {L : Type 0} → List (Shape L) → Shapes L
shapes_from [] = nothing
shapes_from (s ∷ ss) = along s (shapes_from ss)

module _ {L S : Type 0} (number : S → ℕ) where
  -- one level, with each child already seen as its shape
  abbrev pub shape_step : Node-F L S (Shape L) → Shape L
  shape_step (Node-F.Term x) = lexeme x
  shape_step (Node-F.Nonterm r kids) = over (number r.0) (shapes_from kids.items)

  abbrev pub shape_of : Node L S → Shape L
  shape_of = fold-Node L S (Shape L) shape_step

  abbrev pub shapes_of : List (Node L S) → Shapes L
  shapes_of nodes = shapes_from (map shape_of nodes)

-- the text, or none
abbrev pub text_or_none : Option (List ℕ) → List ℕ
text_or_none None = []
text_or_none (Some text) = text

abbrev pub joined : Option (Option (List ℕ)) → Option (List ℕ)
joined None = None
joined (Some text) = text

abbrev pub rule_text : GrammarValue → ℕ → List ℕ
rule_text g r = text_or_none (option_map (λ k. k.name) (slice_get g.rules r))

abbrev pub token_text : GrammarValue → ℕ → List ℕ
token_text g t = text_or_none (joined (option_map (λ k. k.name) (slice_get g.tokens t)))

-- the indent, the rule's name
unfoldable pub rule_line : GrammarValue → ℕ → ℕ → List ℕ
rule_line g depth r = (replicate depth 32 ++ rule_text g r) ++ 10 ∷ []

-- the indent, the token's name and the lexeme's text
unfoldable pub lexeme_line : {L : Type 0} → GrammarValue → (L → Lex) → List ℕ → ℕ → L → List ℕ
lexeme_line g lex input depth x = (((replicate depth 32 ++ token_text g (lex x).token) ++ 32 ∷ []) ++ slice_range input (lex x).places.start (lex x).places.end) ++ 10 ∷ []

module _ {L : Type 0} (g : GrammarValue) (lex : L → Lex) (input : List ℕ) where
  abbrev mutual
    -- a line for each node, a space deeper than its parent
    pub tree_text : ℕ → Shape L → List ℕ
    tree_text depth (lexeme x) = lexeme_line g lex input depth x
    tree_text depth (over r ss) = rule_line g depth r ++ trees_text (depth + 1) ss

    pub trees_text : ℕ → Shapes L → List ℕ
    trees_text depth nothing = []
    trees_text depth (along s ss) = tree_text depth s ++ trees_text depth ss

  -- the lexeme is of a token with a name, and its text is a part of the input
  pub record HasText (x : L) : Type 0 where
    pub token : (lex x).token < end_token g.grammar
    pub start : IsCharBoundary input (lex x).places.start
    pub end : IsCharBoundary input (lex x).places.end

  abbrev mutual
    -- its rules are the grammar's, and its lexemes have texts
    pub CanShow : Shape L → Type 0
    CanShow (lexeme x) = HasText x
    CanShow (over r ss) = (r < g.grammar.rules) × CanShowAll ss

    pub CanShowAll : Shapes L → Type 0
    CanShowAll nothing = Unit {0}
    CanShowAll (along s ss) = CanShow s × CanShowAll ss

  module _ {S : Type 0} (number : S → ℕ) where
    -- the text of nodes that wait, the next one first
    abbrev pub waiting_text : List (Waiting L S) → List ℕ
    waiting_text [] = []
    waiting_text (w ∷ ws) = tree_text w.depth (shape_of number w.node.now) ++ waiting_text ws

    -- they can be shown, and none is deeper than `bound`
    abbrev pub CanShowWaiting : ℕ → List (Waiting L S) → Type 0
    CanShowWaiting bound [] = Unit {0}
    CanShowWaiting bound (w ∷ ws) = (w.depth ≤ bound) × CanShow (shape_of number w.node.now) × CanShowWaiting bound ws
