-- What parses write.
use Rattle.std.specs.Prelude.{◌≡◌, ℕ, ◌+◌, true, false, List, [], map, Option, None, Some, option_map, slice_get, Result, Ok, Err, IfOk, IfErr, min, ◌-◌, ◌^◌}
use Rattle.parse_trees.specs.FlatTrees.{FlatValue}
use Rattle.parse_trees.specs.Lex.{Lex, span_by}
use Rattle.parse_trees.specs.Lexemes.{IsFirstLexError}
use Rattle.parse_trees.specs.Refusals.{IsParseRefusal}
use Rattle.parse_trees.specs.declared.lexemes.ParseRefusal.{ParseRefusal}
use Rattle.parse_trees.specs.declared.lexemes.ParseRefusal.TheVariants as refusals
use Rattle.cfg_theory.specs.Grammar.{Grammar}
use Rattle.lrpar.specs.Checked.{ParserValue}
use Rattle.lrpar.specs.FlatParses.{HasFlat}
use Rattle.lrpar.specs.Lexers.{lex_of}
use Rattle.lrpar.specs.declared.parse_error.ParseError.{ParseError}
use Rattle.lrlex.specs.declared.lex_error.LRLexError.{LRLexError}
use Rattle.parser_kit.specs.KitParses.{IsKitParse}
use Rattle.lrkit_c.specs.Answers.{Puts, answer_of}
use Rattle.lrkit_c.specs.declared.answers.LrkitAnswer.{LrkitAnswer}
use Rattle.lrkit_c.specs.declared.answers.LrkitPlace.{LrkitPlace}
use Rattle.lrkit_c.specs.declared.lexemes.LrkitLexeme.{LrkitLexeme}
use Rattle.lrkit_c.specs.declared.nodes.LrkitNode.{LrkitNode}
use Rattle.lrkit_c.specs.Nodes.{TextLexeme, itself, nodes_of}
use Rattle.lrkit_c.specs.declared.parsing.Parsed.{Parsed}
use Rattle.lrkit_c.specs.declared.parsing.Parsed.TheVariants as found
use Rattle.lrkit_c.specs.declared.status.Status.{Status}
use Rattle.lrkit_c.specs.declared.status.Status.TheVariants as statuses

abbrev pub Item : Type 0
Item = Result TextLexeme LRLexError

abbrev pub lexeme_lex : TextLexeme → Lex
lexeme_lex = lex_of itself

-- what a repair makes up
abbrev pub inserted : ℕ → ℕ → ℕ → TextLexeme
inserted token start len = record { tok_id = token; span = record { start = start; end = start + len }; faulty = true }

-- the kit's lexeme for one of C, whose end is at most the greatest offset
abbrev pub lexeme_of : LrkitLexeme → TextLexeme
lexeme_of x = record { tok_id = x.token; span = record { start = x.start; end = min (x.start + x.length) (2 ^ 64 - 1) }; faulty = false }

-- C's lexeme for one of the kit
abbrev pub lexeme_for : TextLexeme → LrkitLexeme
lexeme_for x = record { token = x.tok_id; start = x.span.start; length = x.span.end - x.span.start }

abbrev pub items_of : List LrkitLexeme → List Item
items_of xs = map (λ x. Ok (lexeme_of x)) xs

-- the lexeme of the first error, if there is one
abbrev pub first_lexeme : List (ParseError TextLexeme ℕ) → Option TextLexeme
first_lexeme errors = option_map (λ e. e.lexeme) (slice_get errors 0)

-- the parse of a list's lexemes without repairs has this tree or none, and its first error is at this lexeme, if it has one
pub record HasParse (d : ParserValue) (items : List Item) (tree : Option (FlatValue TextLexeme)) (first : Option TextLexeme) : Type 0 where
  pub errors : List (ParseError TextLexeme ℕ)
  pub parse : IsKitParse itself lexeme_lex inserted d (λ state index lexeme offered. offered ≡ []) items (HasFlat (span_by lexeme_lex) tree) errors
  pub first_is : first_lexeme errors ≡ first

-- the tree, where the parse has no error; the list's first error, of the lexer; or the lexeme of the first one, of the parser
abbrev pub IsParsed : ParserValue → List Item → Parsed → Type 0
IsParsed d items (found.Tree t) = HasParse d items (Some t) None
IsParsed d items (found.Unlexed e) = IsFirstLexError items e
IsParsed d items (found.Unparsed x) = (tree : Option (FlatValue TextLexeme)) × HasParse d items tree (Some x)

abbrev pub place_of : TextLexeme → LrkitPlace
place_of x = record { token = x.tok_id; start = x.span.start; end = x.span.end }

abbrev pub lexing_place : LRLexError → LrkitPlace
lexing_place e = record { token = 2 ^ 32 - 1; start = e.span.start; end = e.span.end }

-- a parse that found this puts the nodes of the tree, or the place of the first error
abbrev pub WritesParsed : Grammar → Parsed → (old new : List LrkitNode) → (place place' : LrkitPlace) → LrkitAnswer → Type 0
WritesParsed G (found.Tree t) old new place place' a = Puts statuses.Done (nodes_of G t.pieces) old new a × (place' ≡ place)
WritesParsed G (found.Unlexed e) old new place place' a = (new ≡ old) × (place' ≡ lexing_place e) × (a ≡ answer_of statuses.Unlexed 0)
WritesParsed G (found.Unparsed x) old new place place' a = (new ≡ old) × (place' ≡ place_of x) × (a ≡ answer_of statuses.Syntax 0)

abbrev pub status_for : ParseRefusal → Status
status_for (refusals.LexemeOutside k) = statuses.Lexemes
status_for (refusals.StartDecreases k) = statuses.Lexemes
status_for (refusals.Memory e) = statuses.Memory

-- and where it is refused, nothing is written
abbrev pub WritesFound : Grammar → Result Parsed ParseRefusal → (old new : List LrkitNode) → (place place' : LrkitPlace) → LrkitAnswer → Type 0
WritesFound G (Ok p) old new place place' a = WritesParsed G p old new place place' a
WritesFound G (Err r) old new place place' a = (new ≡ old) × (place' ≡ place) × (a ≡ answer_of (status_for r) 0)

-- what is found of a list's items by the kit's parse is written
pub record AnswersParse (d : ParserValue) (items : List Item) (old new : List LrkitNode) (place place' : LrkitPlace) (a : LrkitAnswer) : Type 0 where
  pub found : Result Parsed ParseRefusal
  pub parsed : IfOk found (IsParsed d items)
  pub refused : IfErr found (IsParseRefusal d.grammar.grammar lexeme_lex items)
  pub written : WritesFound d.grammar.grammar found old new place place' a
