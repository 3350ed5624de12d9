-- Nodes as C sees them.
use Rattle.std.specs.Prelude.{ℕ, List, map, length, nat_lt, if◌then◌else◌}
use Rattle.cfg_theory.specs.Grammar.{Grammar, body_of}
use Rattle.parse_trees.specs.FlatTrees.{Piece, term, nonterm}
use Rattle.lrpar.specs.declared.default_lexeme.DefaultLexeme.{DefaultLexeme}
use Rattle.lrkit_c.specs.declared.nodes.LrkitNode.{LrkitNode}

-- numbers are stored as themselves
abbrev pub itself : ℕ → ℕ
itself n = n

abbrev pub TextLexeme : Type 0
TextLexeme = DefaultLexeme ℕ

-- how many symbols a production has; none where there is no such production
abbrev pub symbols_of : Grammar → ℕ → ℕ
symbols_of G p = if nat_lt p (length G.productions) then length (body_of G p) else 0

-- a node as C sees it
abbrev pub node_of : Grammar → Piece TextLexeme → LrkitNode
node_of G (term x) = record { kind = 0; number = x.tok_id; start = x.span.start; end = x.span.end; children = 0 }
node_of G (nonterm p span below) = record { kind = 1; number = p; start = span.from; end = span.to; children = symbols_of G p }

abbrev pub nodes_of : Grammar → List (Piece TextLexeme) → List LrkitNode
nodes_of G pieces = map (node_of G) pieces
