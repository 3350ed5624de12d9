-- The values of lines.
use Rattle.std.specs.Prelude.{◌≡◌, ℕ, ◌-◌, if◌then◌else◌, nat_eq, List, map, get_or, Option, Some, Result, Ok}
use Rattle.cfg_theory.specs.Grammar.{Grammar, start_symbol}
use Rattle.cfg_theory.specs.Tree.{Tree, IsDerivation}
use Rattle.cfg_theory.specs.Fold.{no_span, fold}
use Rattle.lr_theory.specs.Automaton.{Closed, Complete}
use Rattle.state_table.specs.Tables.{automaton_of}
use Rattle.lrpar.specs.Checked.{ParserValue}
use Rattle.parse_trees.specs.Stacks.{span_of_places}
use Rattle.lrpar.specs.declared.parse_actions.AStackType.{AStackType}
use Rattle.lrpar.specs.declared.parse_actions.AStackType.TheVariants as args
use Rattle.lrpar.specs.declared.default_lexeme.DefaultLexeme.{DefaultLexeme}
use Rattle.lrpar.specs.declared.default_lexeme.LRLexError.{LRLexError}

-- what a word of a line stands for: the digit at its start, whose byte is 48 for zero
abbrev pub number_of : List ℕ → DefaultLexeme ℕ → ℕ
number_of line x = get_or line x.span.start 48 - 48

-- what an argument of an action stands for: a word's number, or what was answered
abbrev pub number_in : List ℕ → AStackType (DefaultLexeme ℕ) ℕ → ℕ
number_in line (args.ActionType v) = v
number_in line (args.Lexeme x) = number_of line x

-- the production 0 subtracts its third symbol's value of the first one's; another one has the value of its first symbol
abbrev pub difference : ℕ → List ℕ → ℕ
difference p values = if nat_eq p 0 then get_or values 0 0 - get_or values 2 0 else get_or values 0 0

-- the value of a tree, from the leaves up
abbrev pub value : Grammar → List ℕ → Tree (DefaultLexeme ℕ) → ℕ
value G line t = fold G (number_of line) (λ p r at values. difference p values) (λ x. span_of_places x.span) no_span t

-- where the table lacks no action, words that have a tree come to its value
abbrev pub Evaluates : ParserValue → List ℕ → List (Result (DefaultLexeme ℕ) LRLexError) → Option ℕ → Type 0
Evaluates d line items found =
    Closed d.grammar.grammar (automaton_of d.graph d.table) → Complete d.grammar.grammar (automaton_of d.graph d.table) →
    (words : List (DefaultLexeme ℕ)) (t : Tree (DefaultLexeme ℕ)) → items ≡ map Ok words → IsDerivation d.grammar.grammar (λ x. x.tok_id) (start_symbol d.grammar.grammar) words t →
    found ≡ Some (value d.grammar.grammar line t)
