-- What a run writes for each line, and for all of them.
use Rattle.std.specs.Prelude.{◌≡◌, ℕ, ◌+◌, Bool, true, false, ◌||◌, List, [], ◌∷◌, ◌++◌, map, take, Option, None, Some, Result}
use Rattle.std.specs.List.{flat_map}
use Rattle.std.specs.Str.Lines.{lines}
use Rattle.byte_streams.specs.Sink.{BeginningWritten}
use Rattle.cfg_numbered.specs.Value.{GrammarValue}
use Rattle.cfg_theory.specs.Tree.{Tree}
use Rattle.lr_theory.specs.Repair.{Edit}
use Rattle.parse_trees.specs.Lexemes.{IsFirstLexError}
use Rattle.lrpar.specs.declared.parse_error.ParseError.{ParseError}
use Rattle.lrpar.specs.Checked.{ParserValue}
use Rattle.parser_kit.specs.KitParses.{IsKitParse}
use Rattle.word_lines.specs.Lexing.{items_of, lex_of}
use Rattle.word_lines.specs.LineTexts.{error_line, fault_line, value_text}
use Rattle.word_lines.specs.Repairs.{repair_line}
use Rattle.word_lines.specs.declared.lexeme.WordLexeme.{WordLexeme}
use Rattle.word_lines.specs.declared.lexeme.WordLexError.{WordLexError}
use Rattle.lrkit.specs.RunKits.{AreExpected, IsRunKit}

-- numbers are stored as themselves
abbrev pub id : ℕ → ℕ
id n = n

abbrev pub Word : Type 0
Word = WordLexeme ℕ

-- what a repair makes up
abbrev pub made_up : ℕ → ℕ → ℕ → Word
made_up token start len = record { token = token; span = record { start = start; end = start + len }; faulty = true }

abbrev pub has_some : {A : Type 0} → List A → Bool
has_some [] = false
has_some (x ∷ xs) = true

-- the texts of these errors over a line, and then that of the tree, if there is one
abbrev pub parsed_text : GrammarValue → List ℕ → List (ParseError Word ℕ) → Option (Tree Word) → List ℕ
parsed_text g line errors tree = flat_map (error_line id g line) errors ++ value_text id g line tree

module _ (k : ParserValue) (repairs : List (List Edit)) (line : List ℕ) where
  abbrev pub items : List (Result Word WordLexError)
  items = items_of id k.grammar line

  -- the text of a line, and whether the line has an error
  pub data LineText (text : List ℕ) (faulty : Bool) : Type 0 where
    lexing_error : (e : WordLexError) → IsFirstLexError items e → text ≡ fault_line line e → faulty ≡ true → LineText text faulty
    parsed : (tree : Option (Tree Word)) (errors : List (ParseError Word ℕ)) →
        IsKitParse id (lex_of id) made_up k (λ state index lexeme offered. offered ≡ repairs) items (λ t. t ≡ tree) errors →
        text ≡ parsed_text k.grammar line errors tree → faulty ≡ has_some errors → LineText text faulty

-- the text of a line before those of others
pub record BeforeTexts (First Others : List ℕ → Bool → Type 0) (text : List ℕ) (faulty : Bool) : Type 0 where
  pub first_text : List ℕ
  pub other_text : List ℕ
  pub first_faulty : Bool
  pub other_faulty : Bool
  pub is_first : First first_text first_faulty
  pub are_others : Others other_text other_faulty
  pub text_is : text ≡ first_text ++ other_text
  pub faulty_is : faulty ≡ (first_faulty || other_faulty)

-- the texts of the lines one behind the other, and whether some line has an error
abbrev pub LineTexts : ParserValue → List (List Edit) → List (List ℕ) → List ℕ → Bool → Type 0
LineTexts k repairs [] text faulty = (text ≡ []) × (faulty ≡ false)
LineTexts k repairs (line ∷ others) text faulty = BeforeTexts (LineText k repairs line) (LineTexts k repairs others) text faulty

-- each line of a text is a repair: these
abbrev pub ReadsRepairs : ParserValue → List ℕ → List (List Edit) → Type 0
ReadsRepairs k text repairs = map (repair_line k.grammar) (lines text) ≡ map Some repairs

-- what all is answered by: the kit of the grammar, whose conflicts are expected, and the repairs
pub record IsReady (grammar repair_text : List ℕ) (k : ParserValue) (repairs : List (List Edit)) : Type 0 where
  pub is_kit : IsRunKit grammar k
  pub expected : AreExpected k
  pub are_repairs : ReadsRepairs k repair_text repairs

-- the text that a grammar, lines and repairs give, and whether some line has an error
pub record Output (grammar line_text repair_text text : List ℕ) (faulty : Bool) : Type 0 where
  pub kit : ParserValue
  pub repairs : List (List Edit)
  pub ready : IsReady grammar repair_text kit repairs
  pub texts : LineTexts kit repairs (lines line_text) text faulty

-- a beginning of the texts of the first so many lines is out
pub record BeginsTexts (k : ParserValue) (repairs : List (List Edit)) (all : List (List ℕ)) (known known' : Option (List ℕ)) : Type 0 where
  pub count : ℕ
  pub text : List ℕ
  pub faulty : Bool
  pub texts : LineTexts k repairs (take count all) text faulty
  pub written : BeginningWritten known known' text

-- a beginning of what a grammar, lines and repairs give is out
pub record BeginsOutput (grammar line_text repair_text : List ℕ) (known known' : Option (List ℕ)) : Type 0 where
  pub kit : ParserValue
  pub repairs : List (List Edit)
  pub ready : IsReady grammar repair_text kit repairs
  pub begins : BeginsTexts kit repairs (lines line_text) known known'
