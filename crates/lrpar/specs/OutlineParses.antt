-- Parses whose value is an outline.
use Rattle.std.specs.Prelude.{◌≡◌, ℕ, List, map, Option, None, Some, Result}
use Rattle.cfg_theory.specs.Grammar.{Grammar}
use Rattle.cfg_theory.specs.Tree.{Tree}
use Rattle.lr_theory.specs.Repair.{Edit}
use Rattle.state_table.specs.Graphs.{GraphValue}
use Rattle.state_table.specs.TableValues.{TableValue}
use Rattle.state_table.specs.Tables.{automaton_of}
use Rattle.parse_trees.specs.Lex.{Lex, token_by}
use Rattle.parse_trees.specs.Lexemes.{AreItems, AreLexemes}
use Rattle.parse_trees.specs.Outlines.{OutlineValue, IsOutline}
use Rattle.lrpar.specs.Made.{end_of, made_by}
use Rattle.lrpar.specs.Parses.{ErrorValue, IsParse}
use Rattle.lrpar.specs.Told.{told_of, as_told}
use Rattle.lrpar.specs.declared.parse_error.ParseError.{ParseError}

-- an outline is that of the tree; one that would be too large is not made
abbrev pub HasOutline : {L : Type 0} → Option OutlineValue → Option (Tree L) → Type 0
HasOutline None tree = Unit {0}
HasOutline (Some v) None = ⊥
HasOutline (Some v) (Some t) = IsOutline t v

-- the parse of a list's lexemes, the outline of its tree or none, and its errors as they are returned
pub record IsOutlineParse {S L E : Type 0} (number : S → ℕ) (lex : L → Lex) (faulty : ℕ → ℕ → ℕ → L) (G : Grammar) (g : GraphValue) (v : TableValue) (answers : ℕ → ℕ → L → List (List Edit) → Type 0) (items : List (Result L E)) (value : Option OutlineValue) (errors : List (ParseError L S)) : Type 0 where
  pub lexemes : List L
  pub are_items : AreItems items lexemes
  pub are_lexemes : AreLexemes G lex lexemes
  pub found : List (ErrorValue L)
  pub parse : IsParse G (automaton_of g v) (token_by lex) (made_by faulty lex (end_of lex lexemes)) answers (HasOutline value) lexemes found
  pub told : map (told_of number) errors ≡ map (as_told lexemes) found
