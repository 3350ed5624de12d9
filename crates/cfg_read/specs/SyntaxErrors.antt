-- Where no construct goes on: the one fault of a text, and its offset.
use Rattle.std.specs.Prelude.{◌≡◌, ◌≢◌, ℕ, ◌+◌, true, false, not, ◌&&◌, List, [], length, Option, Some, None, slice_range, is_none}
use Rattle.cfg_read.specs.declared.yacc.YaccKind.{YaccKind}
use Rattle.cfg_read.specs.declared.yacc.parser.error.ReadError.{ReadError}
use Rattle.cfg_read.specs.declared.yacc.parser.error.ReadError.TheVariants as errors
use Rattle.cfg_read.specs.declared.yacc.parser.error.YaccGrammarErrorKind.{YaccGrammarErrorKind}
use Rattle.cfg_read.specs.declared.yacc.parser.error.YaccGrammarErrorKind.TheVariants as faults
use Rattle.cfg_read.specs.declared.yacc.parser.scan.TokenKind.{TokenKind}
use Rattle.cfg_read.specs.declared.yacc.parser.scan.TokenKind.TheVariants as tokens
use Rattle.cfg_base.specs.declared.text.GapPart.TheVariants as gaps
use Rattle.cfg_read.specs.declared.yacc.parser.scan.StringKind.TheVariants as strings
use Rattle.cfg_read.specs.declared.yacc.parser.declaration.Count.{Count}
use Rattle.cfg_read.specs.declared.yacc.parser.declaration.LineList.{LineList}
use Rattle.cfg_read.specs.declared.yacc.parser.declaration.LineText.{LineText}
use Rattle.cfg_read.specs.declared.yacc.parser.declaration.LineText.TheVariants as texts
use Rattle.cfg_base.specs.Text.{line_end, gap_at}
use Rattle.cfg_read.specs.Words.{token_kind_at, line_gap_at, keyword, number_of, string_at, lone_colon, action_end}
use Rattle.cfg_read.specs.SyntaxTexts.{WordText, SymbolText, RuleText, SyntaxText}
use Rattle.cfg_read.specs.SyntaxUpdates.{Part, is_open, rest_of_line, parameter}
use Rattle.cfg_read.specs.Declarations.{is_grmtools, declaration_of}
use Rattle.cfg_read.specs.Reading.{Wanted, Declared, StartName, DeclaredToken, LineItem, NumberWord, EppToken, EppString, Rest, RuleName, RuleColon, More, PrecToken, State, Spaced, InLine, At, IsToken, IsLiteral, has_letters, ends_tokens, ends_line, Steps, beginning, Reads}

-- where a name is wanted
abbrev pub name_fault : TokenKind → Option YaccGrammarErrorKind
name_fault (tokens.Name b) = None
name_fault _ = Some faults.IllegalName

-- where a token is wanted
abbrev pub token_fault : TokenKind → Option YaccGrammarErrorKind
token_fault (tokens.Name b) = None
token_fault (tokens.Quoted b) = None
token_fault tokens.OpenQuote = Some faults.IllegalString
token_fault _ = Some faults.IllegalName

-- where a declaration or `%%` is wanted
abbrev pub declaration_fault : TokenKind → Option YaccGrammarErrorKind
declaration_fault tokens.Separator = None
declaration_fault tokens.Percent = None
declaration_fault tokens.End = Some faults.PrematureEnd
declaration_fault _ = Some faults.UnknownDeclaration

-- where a rule, `%%` or the end is wanted
abbrev pub rule_fault : TokenKind → Option YaccGrammarErrorKind
rule_fault tokens.End = None
rule_fault tokens.Separator = None
rule_fault (tokens.Name b) = None
rule_fault _ = Some faults.IllegalName

-- the number that stands there, if one does and it isn't too large
abbrev pub number_at : List ℕ → ℕ → TokenKind → Option ℕ
number_at text a (tokens.Digits b) = number_of (slice_range text a b)
number_at text a _ = None

-- what can't stand in an alternative at all
abbrev pub alternative_fault : TokenKind → Option YaccGrammarErrorKind
alternative_fault (tokens.Name b) = None
alternative_fault (tokens.Quoted b) = None
alternative_fault tokens.Percent = None
alternative_fault tokens.Brace = None
alternative_fault tokens.Bar = None
alternative_fault tokens.Semicolon = None
alternative_fault tokens.End = Some faults.IncompleteRule
alternative_fault tokens.OpenQuote = Some faults.IllegalString
alternative_fault _ = Some faults.ProductionNotTerminated

-- No construct goes on: the error, and its offset.
pub data Stops (kind : YaccKind) (text : List ℕ) : State → YaccGrammarErrorKind → ℕ → Type 0 where
  -- A `/*` without `*/`, where a gap or a line gap may stand.
  unclosed : {w : Wanted} {x : SyntaxText} {a : ℕ} → gap_at text a ≡ gaps.Unclosed →
      Stops kind text (Spaced w x a) faults.IncompleteComment a
  line_unclosed : {w : Wanted} {x : SyntaxText} {a : ℕ} → line_gap_at text a ≡ gaps.Unclosed →
      Stops kind text (InLine w x a) faults.IncompleteComment a
  -- A declaration or `%%` is wanted, and the text ends: `PrematureEnd`. Another character stands: `UnknownDeclaration`.
  no_declaration : {x : SyntaxText} {a : ℕ} {e : YaccGrammarErrorKind} → declaration_fault (token_kind_at text a) ≡ Some e →
      Stops kind text (At Declared x a) e a
  -- Behind the `%` stands no word that the kind knows.
  unknown_declaration : {x : SyntaxText} {a : ℕ} → token_kind_at text a ≡ tokens.Percent → declaration_of kind (keyword text a) ≡ None →
      Stops kind text (At Declared x a) faults.UnknownDeclaration a
  -- A name is wanted, for `%start`.
  no_start_name : {x : SyntaxText} {a : ℕ} {e : YaccGrammarErrorKind} → name_fault (token_kind_at text a) ≡ Some e →
      Stops kind text (At StartName x a) e a
  -- A token is wanted: a quote that doesn't end gives `IllegalString`, anything else `IllegalName`.
  no_declared_token : {x : SyntaxText} {a : ℕ} {e : YaccGrammarErrorKind} → ends_tokens (token_kind_at text a) ≡ false → token_fault (token_kind_at text a) ≡ Some e →
      Stops kind text (At DeclaredToken x a) e a
  no_line_item : {x : SyntaxText} {a : ℕ} {l : LineList} {ts : List SymbolText} {e : YaccGrammarErrorKind} → ends_line (token_kind_at text a) ≡ false → token_fault (token_kind_at text a) ≡ Some e →
      Stops kind text (At (LineItem l ts) x a) e a
  no_epp_token : {x : SyntaxText} {a : ℕ} {e : YaccGrammarErrorKind} → token_fault (token_kind_at text a) ≡ Some e →
      Stops kind text (At EppToken x a) e a
  -- A number is wanted, or is too large: at its offset.
  no_number : {x : SyntaxText} {a : ℕ} {c : Count} → number_at text a (token_kind_at text a) ≡ None →
      Stops kind text (At (NumberWord c) x a) faults.IllegalInteger a
  -- A string is wanted: at the offset of what can't stand in it, or where it can't begin.
  no_string : {x : SyntaxText} {a b : ℕ} {t : WordText} → string_at text a ≡ strings.Broken b →
      Stops kind text (At (EppString t) x a) faults.InvalidString b
  -- Nothing on the rest of the line: at its end.
  nothing_on_line : {x : SyntaxText} {a : ℕ} {r : LineText} → rest_of_line text a ≡ None →
      Stops kind text (At (Rest r) x a) faults.ReachedEOL (line_end text a)
  -- Something on the rest of the line of `%parse-param`, and no lone `:`: at its end.
  no_parameter : {x : SyntaxText} {a : ℕ} {w : WordText} → rest_of_line text a ≡ Some w → parameter text a ≡ None →
      Stops kind text (At (Rest texts.ParseParam) x a) faults.MissingColon (line_end text a)
  -- A rule's name is wanted.
  no_rule_name : {x : SyntaxText} {a : ℕ} {e : YaccGrammarErrorKind} → rule_fault (token_kind_at text a) ≡ Some e →
      Stops kind text (At RuleName x a) e a
  -- A rule without `:`. In Grmtools: no `->`; or no lone `:` behind it, at the text's end.
  no_colon : {x : SyntaxText} {a : ℕ} {r : WordText} → is_grmtools kind ≡ false → token_kind_at text a ≢ tokens.Colon →
      Stops kind text (At (RuleColon r) x a) faults.MissingColon a
  no_arrow : {x : SyntaxText} {a : ℕ} {r : WordText} → is_grmtools kind ≡ true → token_kind_at text a ≢ tokens.Arrow →
      Stops kind text (At (RuleColon r) x a) faults.MissingRightArrow a
  no_typed_colon : {x : SyntaxText} {a : ℕ} {r : WordText} → is_grmtools kind ≡ true → token_kind_at text a ≡ tokens.Arrow → lone_colon text (a + 2) (length text) ≡ None →
      Stops kind text (At (RuleColon r) x a) faults.MissingColon (length text)
  -- The text ends in an alternative: `IncompleteRule`. A quote that doesn't end: `IllegalString`.
  -- Anything else that can't stand there: `ProductionNotTerminated`.
  no_part_stands : {x : SyntaxText} {a : ℕ} {r : RuleText} {p : Part} {e : YaccGrammarErrorKind} → alternative_fault (token_kind_at text a) ≡ Some e →
      Stops kind text (At (More r p) x a) e a
  -- A symbol anywhere behind `%empty`, and `%empty` anywhere behind a symbol.
  symbol_after_empty : {x : SyntaxText} {a b : ℕ} {r : RuleText} {p : Part} {t : SymbolText} → IsToken text a t b → p.is_empty ≡ true →
      Stops kind text (At (More r p) x a) faults.NonEmptyProduction a
  empty_after_symbol : {x : SyntaxText} {a : ℕ} {r : RuleText} {p : Part} → IsLiteral text a "empty" → p.symbols ≢ [] →
      Stops kind text (At (More r p) x a) faults.NonEmptyProduction a
  -- A symbol behind `%prec` or an action, without `%empty` before.
  late_symbol : {x : SyntaxText} {a b : ℕ} {r : RuleText} {p : Part} {t : SymbolText} → IsToken text a t b → p.is_empty ≡ false → is_open p ≡ false →
      Stops kind text (At (More r p) x a) faults.ProductionNotTerminated a
  -- A second `%empty`, or one behind `%prec` or an action, without a symbol before.
  late_empty : {x : SyntaxText} {a : ℕ} {r : RuleText} {p : Part} → IsLiteral text a "empty" → p.symbols ≡ [] → not p.is_empty && is_open p ≡ false →
      Stops kind text (At (More r p) x a) faults.ProductionNotTerminated a
  -- A second `%prec`, or one behind an action.
  late_prec : {x : SyntaxText} {a : ℕ} {r : RuleText} {p : Part} → IsLiteral text a "prec" → is_open p ≡ false →
      Stops kind text (At (More r p) x a) faults.ProductionNotTerminated a
  -- A `%` that begins neither.
  other_word : {x : SyntaxText} {a : ℕ} {r : RuleText} {p : Part} → token_kind_at text a ≡ tokens.Percent → has_letters text a "empty" ≡ false → has_letters text a "prec" ≡ false →
      Stops kind text (At (More r p) x a) faults.ProductionNotTerminated a
  -- A second action.
  late_action : {x : SyntaxText} {a : ℕ} {r : RuleText} {p : Part} → token_kind_at text a ≡ tokens.Brace → is_none p.action ≡ false →
      Stops kind text (At (More r p) x a) faults.ProductionNotTerminated a
  -- An action that doesn't end: at its `{`.
  open_action : {x : SyntaxText} {a : ℕ} {r : RuleText} {p : Part} → token_kind_at text a ≡ tokens.Brace → is_none p.action ≡ true → action_end text (a + 1) ≡ None →
      Stops kind text (At (More r p) x a) faults.IncompleteAction a
  -- No token behind `%prec`, whatever stands there.
  no_prec_token : {x : SyntaxText} {a b : ℕ} {r : RuleText} {p : Part} {e : YaccGrammarErrorKind} → token_fault (token_kind_at text b) ≡ Some e →
      Stops kind text (At (PrecToken r p a) x b) faults.PrecNotFollowedByToken b

-- the constructs from a state on lead to an offset where none goes on
pub record StopsFrom (kind : YaccKind) (text : List ℕ) (s : State) (e : YaccGrammarErrorKind) (offset : ℕ) : Type 0 where
  pub last : State
  pub steps : Steps kind text s last
  pub stops : Stops kind text last e offset

-- why the text can't be read from an offset on, and where
abbrev pub Faults : YaccKind → List ℕ → ℕ → YaccGrammarErrorKind → ℕ → Type 0
Faults kind text start e offset = StopsFrom kind text (beginning start) e offset

-- an error of the code: out of memory, or a fault to which the constructs from s on lead
abbrev pub FailsFrom : YaccKind → List ℕ → State → ReadError → Type 0
FailsFrom kind text s (errors.Memory m) = Unit {0}
FailsFrom kind text s (errors.Fault e offset) = StopsFrom kind text s e offset

-- an error of the code: out of memory, or the fault of the text from an offset on
abbrev pub IsErrorOf : YaccKind → List ℕ → ℕ → ReadError → Type 0
IsErrorOf kind text start e = FailsFrom kind text (beginning start) e

-- a reading or a fault
pub data Outcome (kind : YaccKind) (text : List ℕ) (start : ℕ) : Type 0 where
  reads : (x : SyntaxText) → Reads kind text start x → Outcome kind text start
  faulty : (e : YaccGrammarErrorKind) (offset : ℕ) → Faults kind text start e offset → Outcome kind text start
