-- What the scanner's own functions promise each other: where the words lie, and what an error stands for.
use Rattle.std.specs.Prelude.{◌≡◌, ℕ, ◌+◌, ◌-◌, ◌<◌, ◌≤◌, ◌==◌, List, length, Option, Some, None, slice_range, if◌then◌else◌, Bool, true, false}
use Rattle.std.specs.Str.{IsCharBoundary}
use Rattle.cfg_base.specs.SpanModel.{SpanModel}
use Rattle.cfg_read.specs.declared.yacc.parser.error.ReadError.{ReadError}
use Rattle.cfg_read.specs.declared.yacc.parser.error.ReadError.TheVariants as errors
use Rattle.cfg_read.specs.declared.yacc.parser.error.YaccGrammarErrorKind.{YaccGrammarErrorKind}
use Rattle.cfg_read.specs.declared.yacc.parser.error.YaccGrammarErrorKind.TheVariants as faults
use Rattle.cfg_read.specs.declared.yacc.parser.scan.TokenKind.{TokenKind}
use Rattle.cfg_read.specs.declared.yacc.parser.scan.TokenKind.TheVariants as tokens
use Rattle.cfg_read.specs.declared.yacc.parser.scan.StringKind.{StringKind}
use Rattle.cfg_read.specs.declared.yacc.parser.scan.StringKind.TheVariants as strings
use Rattle.cfg_base.specs.Text.{is_digit, run_end, FitsWord}
use Rattle.cfg_read.specs.Words.{token_kind_at, number_of, string_at}
use Rattle.cfg_read.specs.SyntaxTexts.{WordText, NumberText, AlternativeText, RuleText}
use Rattle.cfg_read.specs.SyntaxUpdates.{string_word}

-- a part that may be empty, and can be cut out
pub record FitsPart (text : List ℕ) (a b : ℕ) : Type 0 where
  pub order : a ≤ b
  pub start : IsCharBoundary text a
  pub end : IsCharBoundary text b

-- from a up to b stands what has this span, with its quotes where it is quoted
pub record Encloses (is_quoted : Bool) (at : SpanModel) (a b : ℕ) : Type 0 where
  pub start : (if is_quoted then a + 1 else a) ≡ at.start
  pub end : (if is_quoted then at.end + 1 else at.end) ≡ b

-- the digits from a up to b
pub record FitsDigits (text : List ℕ) (a b : ℕ) : Type 0 where
  pub word : FitsWord text a b
  pub run : b ≡ run_end is_digit text a

-- between the quotes at a and b
pub record FitsQuoted (text : List ℕ) (a b : ℕ) : Type 0 where
  pub inner : FitsPart text (a + 1) b
  pub within : b < length text

abbrev pub FitsToken : List ℕ → ℕ → TokenKind → Type 0
FitsToken text a (tokens.Name b) = FitsWord text a b
FitsToken text a (tokens.Digits b) = FitsDigits text a b
FitsToken text a (tokens.Quoted b) = FitsQuoted text a b
FitsToken text a tokens.Separator = (a + 2 ≤ length text) × IsCharBoundary text (a + 2)
FitsToken text a tokens.Percent = (a < length text) × IsCharBoundary text (a + 1)
FitsToken text a tokens.Colon = a < length text
FitsToken text a tokens.Semicolon = a < length text
FitsToken text a tokens.Bar = a < length text
FitsToken text a tokens.Brace = (a < length text) × IsCharBoundary text (a + 1)
FitsToken text a tokens.Arrow = (a + 2 ≤ length text) × IsCharBoundary text (a + 2)
FitsToken text a _ = Unit {0}

abbrev pub FitsString : List ℕ → ℕ → StringKind → Type 0
FitsString text a (strings.Closed b) = FitsQuoted text a b
FitsString text a (strings.Broken b) = Unit {0}

-- this number stands at a, up to b
pub record IsNumber (text : List ℕ) (a : ℕ) (n : NumberText) (b : ℕ) : Type 0 where
  pub digits : token_kind_at text a ≡ tokens.Digits b
  pub value : number_of (slice_range text a b) ≡ Some n.value
  pub span : n.span ≡ record { start = a; end = b }

-- this string stands at a, up to b
pub record IsString (text : List ℕ) (a : ℕ) (w : WordText) (b : ℕ) : Type 0 where
  pub quote : ℕ
  pub closed : string_at text a ≡ strings.Closed quote
  pub word : w ≡ string_word text a quote
  pub end : b ≡ quote + 1

-- how many braces are open behind a byte, where d are before it; none, if it closes the action itself
abbrev pub depth_behind : ℕ → ℕ → Option ℕ
depth_behind byte d =
    if byte == 125 then (if d == 0 then None else Some (d - 1))
    else (if byte == 123 then Some (d + 1)
    else Some d)

-- an error of the code that is no fault
abbrev pub IsMemory : ReadError → Type 0
IsMemory (errors.Memory m) = Unit {0}
IsMemory (errors.Fault e offset) = ⊥

-- an error of the code: where it is a fault, it is this one, at a
abbrev pub IsFaultAt : Option YaccGrammarErrorKind → ℕ → ReadError → Type 0
IsFaultAt wrong a (errors.Memory m) = Unit {0}
IsFaultAt wrong a (errors.Fault e offset) = (wrong ≡ Some e) × (offset ≡ a)

-- the same, of this kind, for the reason P
abbrev pub IsFault : Type 0 → YaccGrammarErrorKind → ℕ → ReadError → Type 0
IsFault P wrong a (errors.Memory m) = Unit {0}
IsFault P wrong a (errors.Fault e offset) = P × (e ≡ wrong) × (offset ≡ a)

-- the same, where a string breaks
abbrev pub IsStringFault : List ℕ → ℕ → ReadError → Type 0
IsStringFault text a (errors.Memory m) = Unit {0}
IsStringFault text a (errors.Fault e offset) = (string_at text a ≡ strings.Broken offset) × (e ≡ faults.InvalidString)

-- `%` and a word, or `%%`
abbrev pub percent_or_separator : Bool → TokenKind
percent_or_separator true = tokens.Percent
percent_or_separator false = tokens.Separator

abbrev pub begins_token : TokenKind → Bool
begins_token (tokens.Name b) = true
begins_token (tokens.Quoted b) = true
begins_token _ = false

-- what a part of an alternative begins with
abbrev pub is_part : TokenKind → Bool
is_part (tokens.Name b) = true
is_part (tokens.Quoted b) = true
is_part tokens.Percent = true
is_part tokens.Brace = true
is_part _ = false

abbrev pub ends_alternative : TokenKind → Bool
ends_alternative tokens.Bar = true
ends_alternative tokens.Semicolon = true
ends_alternative _ = false

-- `|`, or the `;` of the last alternative
abbrev pub bar_or_semicolon : Bool → TokenKind
bar_or_semicolon true = tokens.Semicolon
bar_or_semicolon false = tokens.Bar

abbrev pub begins_name : TokenKind → Bool
begins_name (tokens.Name b) = true
begins_name _ = false

abbrev pub ends_rules : TokenKind → Bool
ends_rules tokens.End = true
ends_rules tokens.Separator = true
ends_rules _ = false

abbrev pub end_or_separator : Bool → TokenKind
end_or_separator true = tokens.Separator
end_or_separator false = tokens.End

abbrev pub rule_text : WordText → Option WordText → List AlternativeText → RuleText
rule_text name action_type alternatives = record { name = name; action_type = action_type; alternatives = alternatives }

-- a span so far, if there is one, starts at a or before
abbrev pub StartsBy : Option SpanModel → ℕ → Type 0
StartsBy None a = Unit {0}
StartsBy (Some s) a = s.start ≤ a
