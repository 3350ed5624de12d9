-- What is found of a text's lexemes, and how errors are told.
use Rattle.std.specs.Prelude.{◌≡◌, ◌≢◌, ℕ, ◌+◌, ◌-◌, ◌^◌, min, max, Bool, true, false, List, [], ◌∷◌, ◌++◌, codes, Option, None, Some, Result}
use Rattle.std.specs.Fmt.{decimal}
use Rattle.std.specs.Io.KnownBytes.{Appends}
use Rattle.cfg_base.specs.SpanModel.{SpanModel}
use Rattle.lr_theory.specs.Repair.{Edit}
use Rattle.cfg_theory.specs.Tree.{Tree, yield}
use Rattle.parse_trees.specs.FlatTrees.{FlatValue}
use Rattle.parse_trees.specs.Outlines.{OutlineValue, IsOutline}
use Rattle.parse_trees.specs.Lex.{Lex, span_by}
use Rattle.parse_trees.specs.Lexemes.{AreItems, IsFirstLexError}
use Rattle.lrpar.specs.Checked.{ParserValue}
use Rattle.lrpar.specs.FlatParses.{HasFlat}
use Rattle.lrpar.specs.Lexers.{lex_of}
use Rattle.lrpar.specs.declared.default_lexeme.DefaultLexeme.{DefaultLexeme}
use Rattle.lrpar.specs.declared.parse_error.ParseError.{ParseError}
use Rattle.lrlex.specs.declared.lex_error.LRLexError.{LRLexError}
use Rattle.parser_kit.specs.KitParses.{IsKitParse}
use Rattle.repair_search.specs.FewEdits.{AreFew}
use Rattle.text_messages.specs.Places.{SourceValue, heading, BeginsWith}
use Rattle.text_messages.specs.declared.source.Severity.TheVariants as severities
use Rattle.text_parses.specs.declared.parsing.Parsed.{Parsed}
use Rattle.text_parses.specs.declared.parsing.Parsed.TheVariants as found
use Rattle.text_parses.specs.declared.form.Form.{Form}

-- numbers are stored as themselves
abbrev pub itself : ℕ → ℕ
itself n = n

abbrev pub TextLexeme : Type 0
TextLexeme = DefaultLexeme ℕ

abbrev pub lexeme_lex : TextLexeme → Lex
lexeme_lex = lex_of itself

-- what a repair makes up
abbrev pub inserted : ℕ → ℕ → ℕ → TextLexeme
inserted token start len = record { tok_id = token; span = record { start = start; end = start + len }; faulty = true }

-- what is offered at an error: at most eight sequences of at most so many edits
abbrev pub Offers : ℕ → ℕ → ℕ → TextLexeme → List (List Edit) → Type 0
Offers edits state index lexeme offered = AreFew edits offered

-- the parse of a list's lexemes, with such repairs at its errors, has this tree or none, and these errors
abbrev pub HasParse : ParserValue → List (Result TextLexeme LRLexError) → ℕ → Option (FlatValue TextLexeme) → List (ParseError TextLexeme ℕ) → Type 0
HasParse d items edits tree errors = IsKitParse itself lexeme_lex inserted d (Offers edits) items (HasFlat (span_by lexeme_lex) tree) errors

-- the parse has some tree, and no error
abbrev pub HasTree : ParserValue → List (Result TextLexeme LRLexError) → ℕ → Type 0
HasTree d items edits = (t : FlatValue TextLexeme) × HasParse d items edits (Some t) []

-- the parse has a tree whose outline this is, with the lexemes as its leaves, and no error
pub record IsFaultless (d : ParserValue) (items : List (Result TextLexeme LRLexError)) (edits : ℕ) (v : OutlineValue) : Type 0 where
  pub tree : Tree TextLexeme
  pub parse : IsKitParse itself lexeme_lex inserted d (Offers edits) items (λ t. t ≡ Some tree) []
  pub outline : IsOutline tree v
  pub leaves : AreItems items (yield tree)

-- the tree, where the parse has no error; the list's first error, of the lexer; or those of the parser
abbrev pub IsParsed : ParserValue → List (Result TextLexeme LRLexError) → ℕ → Parsed → Type 0
IsParsed d items edits (found.Tree t) = HasParse d items edits (Some t) []
IsParsed d items edits (found.Unlexed e) = IsFirstLexError items e
IsParsed d items edits (found.Unparsed errors) = (tree : Option (FlatValue TextLexeme)) × HasParse d items edits tree errors.items × (errors.items ≢ [])

-- a text with its path
abbrev pub source_of : List ℕ → List ℕ → SourceValue
source_of path text = record { text = text; shown = text; places = []; path = path; color = false }

-- a text begins with the place of an error
pub record TellsAt (source : SourceValue) (span : SpanModel) (told : List ℕ) : Type 0 where
  pub message : List ℕ
  pub begins : BeginsWith (heading source severities.Error span message) told

-- a message was written that begins with the place in the text
pub record TellsError (source : SourceValue) (span : SpanModel) (known known' : Option (List ℕ)) : Type 0 where
  pub told : List ℕ
  pub begins : TellsAt source span told
  pub written : Appends known known' told

-- an offset behind another one, as far as numbers go
abbrev pub behind : ℕ → ℕ → ℕ
behind start at = min (start + at) (2 ^ 64 - 1)

-- a span of a text that begins at an offset, as one of what it is in
abbrev pub placed : ℕ → SpanModel → SpanModel
placed start s = record { start = behind start s.start; end = max (behind start s.start) (behind start s.end) }

-- one was written for each error of a text that begins at an offset, in their order
abbrev pub TellsErrors : SourceValue → ℕ → List (ParseError TextLexeme ℕ) → Option (List ℕ) → Option (List ℕ) → Type 0
TellsErrors source start [] known known' = known' ≡ known
TellsErrors source start (e ∷ es) known known' = (between : Option (List ℕ)) × TellsError source (placed start e.lexeme.span) known between × TellsErrors source start es between known'

-- what is above a tree: the path where it is to be named, or the path and the line that is the text
abbrev pub title_of : Option ℕ → Bool → List ℕ → List ℕ
title_of None false path = []
title_of None true path = path ++ codes ":\n"
title_of (Some line) named path = path ++ codes ":" ++ decimal line ++ codes ":\n"

-- a text as it is asked for: how its tree is written, whether its path is above, how many edits a repair has, whether next tokens are told, its path and itself,
-- where messages show it and at which offset it begins there, and the number of the line that it is, if it is one
pub record Asked : Type 0 where
  pub form : Form
  pub named : Bool
  pub edits : ℕ
  pub next : Bool
  pub path : List ℕ
  pub text : List ℕ
  pub source : SourceValue
  pub start : ℕ
  pub line : Option ℕ
