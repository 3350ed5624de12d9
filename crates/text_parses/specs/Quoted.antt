-- Texts in quotes, and the nodes of a tree as an expression.
use Rattle.std.specs.Prelude.{ℕ, zero, suc, ◌-◌, replicate, ◌==◌, if◌then◌else◌, nat_lt, slice_get, List, [], ◌∷◌, ◌++◌, slice_range, Option, None, Some}
use Rattle.std.specs.List.{flat_map}
use Rattle.cfg_theory.specs.Grammar.{head_of}
use Rattle.cfg_numbered.specs.Value.{GrammarValue}
use Rattle.parse_trees.specs.FlatTrees.{Piece, nonterm, term}
use Rattle.parse_trees.specs.declared.flat.Visit.{Visit}
use Rattle.parse_trees.specs.Shapes.{rule_text, token_text}
use Rattle.text_parses.specs.Parses.{TextLexeme, lexeme_lex}

-- what is behind the backslash for a quote, a backslash and an LF
abbrev pub letter_of : ℕ → Option ℕ
letter_of b = if b == 34 then Some 34 else if b == 92 then Some 92 else if b == 10 then Some 110 else None

abbrev pub with_letter : ℕ → Option ℕ → List ℕ
with_letter b None = b ∷ []
with_letter b (Some letter) = 92 ∷ letter ∷ []

-- a byte within quotes
abbrev pub escaped : ℕ → List ℕ
escaped b = with_letter b (letter_of b)

-- a text in quotes
abbrev pub quoted : List ℕ → List ℕ
quoted text = (34 ∷ flat_map escaped text) ++ 34 ∷ []

-- `(RULE`
abbrev pub rule_head : GrammarValue → ℕ → List ℕ
rule_head g p = 40 ∷ rule_text g (head_of g.grammar p)

-- `("TOKEN" "TEXT"`
abbrev pub lexeme_head : GrammarValue → List ℕ → TextLexeme → List ℕ
lexeme_head g input x = (40 ∷ quoted (token_text g (lexeme_lex x).token)) ++ 32 ∷ quoted (slice_range input x.span.start x.span.end)

-- a node's beginning
abbrev pub piece_head : GrammarValue → List ℕ → Option (Piece TextLexeme) → List ℕ
piece_head g input None = []
piece_head g input (Some (term x)) = lexeme_head g input x
piece_head g input (Some (nonterm p span n)) = rule_head g p

-- nothing before the root, and a space before each other node
abbrev pub space_at : ℕ → List ℕ
space_at zero = []
space_at (suc depth) = 32 ∷ []

-- behind a node of this depth, if there is one, all that are open from a depth on are closed
abbrev pub closed_from : Option ℕ → ℕ → List ℕ
closed_from None depth = []
closed_from (Some last) depth = if nat_lt last depth then [] else (41 ∷ replicate (last - depth) 41)

-- a node's beginning behind the node before, of this depth
abbrev pub node_head : GrammarValue → List ℕ → Option ℕ → ℕ → Option (Piece TextLexeme) → List ℕ
node_head g input last depth piece = (closed_from last depth ++ space_at depth) ++ piece_head g input piece

-- visited nodes behind one of this depth, and the end of the line
abbrev pub sexp_from : GrammarValue → List ℕ → List (Piece TextLexeme) → Option ℕ → List Visit → List ℕ
sexp_from g input pieces last [] = closed_from last 0 ++ 10 ∷ []
sexp_from g input pieces last (v ∷ vs) = node_head g input last v.depth (slice_get pieces v.index) ++ sexp_from g input pieces (Some v.depth) vs
