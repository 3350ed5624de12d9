-- What is written of a text.
use Rattle.std.specs.Prelude.{◌≡◌, ◌≢◌, ℕ, ◌+◌, Bool, true, false, List, [], ◌++◌, Option, None, Some, Result}
use Rattle.std.specs.Io.KnownBytes.{Appends}
use Rattle.cfg_numbered.specs.Value.{GrammarValue}
use Rattle.cfg_theory.specs.Tree.{Tree}
use Rattle.parse_trees.specs.FlatLines.{CanShowTree}
use Rattle.parse_trees.specs.FlatTrees.{FlatValue, IsFlat, preorder}
use Rattle.parse_trees.specs.Lex.{span_by}
use Rattle.parse_trees.specs.Lexemes.{IsFirstLexError}
use Rattle.parse_trees.specs.Shapes.{shape, tree_text}
use Rattle.lrpar.specs.Checked.{ParserValue}
use Rattle.lrpar.specs.declared.parse_error.ParseError.{ParseError}
use Rattle.lrlex.specs.Lexing.{Lexes}
use Rattle.lrlex.specs.declared.lex_error.LRLexError.{LRLexError}
use Rattle.maximal_munch.specs.RuleValues.{RuleSetValue}
use Rattle.lrlex.specs.declared.bound.Meaning.{Meaning}
use Rattle.report_forms.specs.declared.parse_values.TreeNode.{TreeNode}
use Rattle.report_forms.specs.TreeDots.{tree_graph}
use Rattle.text_parses.specs.LineItems.{line_items}
use Rattle.text_parses.specs.NextTokens.{TellsNext}
use Rattle.text_parses.specs.NodeValues.{ShowsNodes}
use Rattle.text_parses.specs.ParseObjects.{WritesObject, is_tree}
use Rattle.text_parses.specs.declared.parsing.Parsed.{Parsed}
use Rattle.text_parses.specs.declared.form.Form.{Form}
use Rattle.text_parses.specs.declared.form.Form.TheVariants as forms
use Rattle.text_parses.specs.Quoted.{sexp_from}
use Rattle.text_parses.specs.Parses.{TextLexeme, lexeme_lex, HasParse, IsParsed, placed, TellsError, TellsErrors, title_of, Asked}

-- the tree was written in this form: as lines or as an expression, where its lexemes have texts, as a graph, or not at all
abbrev pub WritesTree : Form → GrammarValue → Asked → FlatValue TextLexeme → Option (List ℕ) → Option (List ℕ) → Type 0
WritesTree forms.Tree g a v known known' =
    (t : Tree TextLexeme) → IsFlat (span_by lexeme_lex) t v.pieces → CanShowTree g lexeme_lex a.text t → Appends known known' (title_of a.line a.named a.path ++ tree_text g lexeme_lex a.text 0 (shape g.grammar t))
WritesTree forms.Sexp g a v known known' =
    (t : Tree TextLexeme) → IsFlat (span_by lexeme_lex) t v.pieces → CanShowTree g lexeme_lex a.text t → Appends known known' (title_of a.line a.named a.path ++ sexp_from g a.text v.pieces None (preorder 0 0 t))
WritesTree forms.Dot g a v known known' = (nodes : List TreeNode) × ShowsNodes g a.text v nodes × Appends known known' (tree_graph a.path nodes)
WritesTree forms.Json g a v known known' = Appends known known' []
WritesTree forms.Quiet g a v known known' = Appends known known' []

-- the lexemes have a tree, which is written; or the first error of the lexer is told at its place, or each one of the parser, in their order
pub data Answers (d : ParserValue) (items : List (Result TextLexeme LRLexError)) (a : Asked) (known known' : Option (List ℕ)) : Bool → Type 0 where
  parsed : (v : FlatValue TextLexeme) → HasParse d items a.edits (Some v) [] → WritesTree a.form d.grammar a v known known' → Answers d items a known known' true
  unlexed : (e : LRLexError) → IsFirstLexError items e → TellsError a.source (placed a.start e.span) known known' → Answers d items a known known' false
  unparsed : (tree : Option (FlatValue TextLexeme)) (errors : List (ParseError TextLexeme ℕ)) → HasParse d items a.edits tree errors → errors ≢ [] → TellsErrors a.source a.start errors known known' → Answers d items a known known' false

-- what is found of the lexemes is written as an object
pub record AnswersObject (d : ParserValue) (items : List (Result TextLexeme LRLexError)) (a : Asked) (known known' : Option (List ℕ)) (well : Bool) : Type 0 where
  pub parsed : Parsed
  pub is : IsParsed d items a.edits parsed
  pub writes : WritesObject d.grammar a parsed known known'
  pub well_is : well ≡ is_tree parsed

-- the answer in the form that is asked for
abbrev pub AnswersIn : Form → ParserValue → List (Result TextLexeme LRLexError) → Asked → Option (List ℕ) → Option (List ℕ) → Bool → Type 0
AnswersIn forms.Tree d items a known known' well = Answers d items a known known' well
AnswersIn forms.Sexp d items a known known' well = Answers d items a known known' well
AnswersIn forms.Dot d items a known known' well = Answers d items a known known' well
AnswersIn forms.Json d items a known known' well = AnswersObject d items a known known' well
AnswersIn forms.Quiet d items a known known' well = Answers d items a known known' well

-- whether the tokens that may come are told behind the rest; an object has them
abbrev pub is_noted : Form → Bool → Bool
is_noted forms.Tree next = next
is_noted forms.Sexp next = next
is_noted forms.Dot next = next
is_noted forms.Json next = false
is_noted forms.Quiet next = next

-- they are told, or nothing is
abbrev pub TellsNextIf : Bool → ParserValue → List (Result TextLexeme LRLexError) → Asked → Option (List ℕ) → Option (List ℕ) → Type 0
TellsNextIf true d items a known known' = TellsNext d items a.source known known'
TellsNextIf false d items a known known' = known' ≡ known

-- the answer to these lexemes, and then the tokens that may come
pub record AnswersItems (d : ParserValue) (items : List (Result TextLexeme LRLexError)) (a : Asked) (known known' : Option (List ℕ)) (well : Bool) : Type 0 where
  pub between : Option (List ℕ)
  pub answers : AnswersIn a.form d items a known between well
  pub next : TellsNextIf (is_noted a.form a.next) d items a between known'

-- the answer to the text's lexemes by these rules
pub record AnswersText (d : ParserValue) (rules : RuleSetValue) (meanings : List (Meaning ℕ)) (a : Asked) (known known' : Option (List ℕ)) (well : Bool) : Type 0 where
  pub items : List (Result TextLexeme LRLexError)
  pub lexes : Lexes rules meanings a.text items
  pub answers : AnswersItems d items a known known' well

-- the answer to the words of a line
pub record AnswersLine (d : ParserValue) (a : Asked) (known known' : Option (List ℕ)) (well : Bool) : Type 0 where
  pub answers : AnswersItems d (line_items d.grammar a.text) a known known' well
