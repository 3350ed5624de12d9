-- The parse of a text as an object.
use Rattle.std.specs.Prelude.{◌≡◌, ◌↔◌, IsSome, IsTrue, ℕ, Bool, true, false, List, [], ◌∷◌, map, Option, None, Some, option_map}
use Rattle.std.specs.Io.KnownBytes.{Appends}
use Rattle.cfg_numbered.specs.Value.{GrammarValue}
use Rattle.lrpar.specs.declared.parse_error.ParseError.{ParseError}
use Rattle.parse_trees.specs.FlatTrees.{FlatValue}
use Rattle.report_forms.specs.ParseTexts.{IsParseLine}
use Rattle.report_forms.specs.Within.{range_numbers, range_numbers_at}
use Rattle.report_forms.specs.declared.parse_values.Parse.{Parse}
use Rattle.report_forms.specs.declared.parse_values.TextError.{TextError}
use Rattle.report_forms.specs.declared.parse_values.TreeNode.{TreeNode}
use Rattle.text_messages.specs.Places.{SourceValue}
use Rattle.text_parses.specs.Parses.{Asked, TextLexeme, placed}
use Rattle.text_parses.specs.NodeValues.{ShowsNodes}
use Rattle.text_parses.specs.declared.parsing.Parsed.{Parsed}
use Rattle.text_parses.specs.declared.parsing.Parsed.TheVariants as found

-- the ranges of errors, as bytes, lines and columns
abbrev pub places_of : List TextError → List ((ℕ × ℕ × ℕ) × (ℕ × ℕ × ℕ))
places_of errors = map (λ (e : TextError). range_numbers e.range) errors

-- those of the parser's errors in a text that begins at an offset
abbrev pub error_places : SourceValue → ℕ → List (ParseError TextLexeme ℕ) → List ((ℕ × ℕ × ℕ) × (ℕ × ℕ × ℕ))
error_places source start errors = map (λ (e : ParseError TextLexeme ℕ). range_numbers_at source (placed start e.lexeme.span)) errors

-- the object has the tree's nodes and no error; the lexer's error, or each of the parser's, in their order, and no tree
abbrev pub HasFound : GrammarValue → Asked → Parsed → List TextError → Option (List TreeNode) → Type 0
HasFound g a (found.Tree v) errors None = ⊥
HasFound g a (found.Tree v) errors (Some nodes) = (errors ≡ []) × ShowsNodes g a.text v nodes
HasFound g a (found.Unlexed e) errors tree = (tree ≡ None) × (places_of errors ≡ range_numbers_at a.source (placed a.start e.span) ∷ [])
HasFound g a (found.Unparsed es) errors tree = (tree ≡ None) × (places_of errors ≡ error_places a.source a.start es.items)

abbrev pub is_tree : Parsed → Bool
is_tree (found.Tree v) = true
is_tree (found.Unlexed e) = false
is_tree (found.Unparsed es) = false

-- an object of version 1 with the text's path and line, and what is found of it
pub record IsParseOf (g : GrammarValue) (a : Asked) (parsed : Parsed) (p : Parse) : Type 0 where
  pub version : p.version ≡ 1
  pub path : p.path.now ≡ a.path
  pub line : p.line ≡ a.line
  pub found : HasFound g a parsed p.errors.items (option_map (λ v. v.items) p.tree)

-- the line of such an object, with the next tokens where they are asked for
pub record IsTextObject (g : GrammarValue) (a : Asked) (parsed : Parsed) (line : List ℕ) : Type 0 where
  pub object : Parse
  pub is : IsParseOf g a parsed object
  pub next : IsTrue a.next ↔ IsSome object.next
  pub is_line : IsParseLine object line

-- it was written
pub record WritesObject (g : GrammarValue) (a : Asked) (parsed : Parsed) (known known' : Option (List ℕ)) : Type 0 where
  pub line : List ℕ
  pub is_line : IsTextObject g a parsed line
  pub written : Appends known known' line
