-- Reading a text: what is wanted at an offset, what stands there, and what is wanted next.
use Rattle.std.specs.Prelude.{◌≡◌, ℕ, ◌+◌, Bool, true, false, nat_eq, List, [], ◌∷◌, ◌++◌, length, drop, Some, None, slice_range, is_none}
use Rattle.std.specs.List.{starts_with}
use Prim.Native.String.{String}
use lib.Chars.{codes}
use Rattle.cfg_read.specs.declared.yacc.YaccKind.{YaccKind}
use Rattle.cfg_read.specs.declared.yacc.parser.scan.TokenKind.{TokenKind}
use Rattle.cfg_read.specs.declared.yacc.parser.scan.TokenKind.TheVariants as tokens
use Rattle.cfg_base.specs.declared.text.GapPart.TheVariants as gaps
use Rattle.cfg_read.specs.declared.yacc.parser.scan.StringKind.TheVariants as strings
use Rattle.cfg_read.specs.declared.yacc.parser.declaration.Count.{Count}
use Rattle.cfg_read.specs.declared.yacc.parser.declaration.Declaration.{Declaration}
use Rattle.cfg_read.specs.declared.yacc.parser.declaration.Declaration.TheVariants as declarations
use Rattle.cfg_read.specs.declared.yacc.parser.declaration.LineList.{LineList}
use Rattle.cfg_read.specs.declared.yacc.parser.declaration.LineText.{LineText}
use Rattle.cfg_read.specs.declared.yacc.parser.declaration.LineText.TheVariants as texts
use Rattle.cfg_base.specs.Text.{is_white, run_end, line_end, gap_at}
use Rattle.cfg_read.specs.Words.{token_kind_at, line_gap_at, keyword, keyword_end, number_of, string_at, lone_colon, action_end}
use Rattle.cfg_read.specs.SyntaxTexts.{WordText, SymbolText, RuleText, ParamText, SyntaxText}
use Rattle.cfg_read.specs.SyntaxUpdates.{word, trimmed_word, string_word, Part, no_part, is_open, mark_end, marked, append_symbol, put_empty, put_precedence, put_action, alternative, heading, append_alternative, no_syntax, append_start, append_token, append_list, append_number, append_epp, append_action_type, put_parse_param, put_parse_generics, append_rule, put_programs, rest_of_line, parameter}
use Rattle.cfg_read.specs.Declarations.{is_grmtools, declaration_of}

-- what is wanted
pub data Wanted : Type 0 where
  -- a declaration or `%%`
  Declared : Wanted
  -- the name of `%start`
  StartName : Wanted
  -- a token of `%token`, or the next `%`, or the end
  DeclaredToken : Wanted
  -- an item of a list that runs to the line's end, behind these items, or the line's end
  LineItem : LineList → List SymbolText → Wanted
  -- the number of `%expect` or `%expect-rr`
  NumberWord : Count → Wanted
  -- the token of `%epp`, and behind it the string
  EppToken : Wanted
  EppString : WordText → Wanted
  -- the rest of the line
  Rest : LineText → Wanted
  -- a rule, `%%` or the end
  RuleName : Wanted
  -- behind a rule's name the `:`, or in Grmtools `->`, a type and the `:`
  RuleColon : WordText → Wanted
  -- more of an alternative, behind what was read of the rule and of the alternative
  More : RuleText → Part → Wanted
  -- the token of the `%prec` at this offset
  PrecToken : RuleText → Part → ℕ → Wanted
  Nothing : Wanted

-- Where reading is: behind what was read, at an offset. A gap, or a line gap, may stand before what is wanted.
pub data State : Type 0 where
  Spaced : Wanted → SyntaxText → ℕ → State
  InLine : Wanted → SyntaxText → ℕ → State
  At : Wanted → SyntaxText → ℕ → State

-- the name or quoted token that stands at a, up to b
pub data IsToken (text : List ℕ) (a : ℕ) : SymbolText → ℕ → Type 0 where
  name : {b : ℕ} → token_kind_at text a ≡ tokens.Name b → IsToken text a (record { is_quoted = false; word = word text a b; optional = None }) b
  quoted : {b : ℕ} → token_kind_at text a ≡ tokens.Quoted b → IsToken text a (record { is_quoted = true; word = word text (a + 1) b; optional = None }) (b + 1)

-- where a literal word behind a `%` at a ends
abbrev pub literal_end : ℕ → String → ℕ
literal_end a w = a + (1 + length (codes w))

-- whether these very letters stand behind the `%` at a, whatever follows them
unfoldable pub has_letters : List ℕ → ℕ → String → Bool
has_letters text a w = starts_with nat_eq (drop (a + 1) text) (codes w)

-- `%` and these letters stand at a
abbrev pub IsLiteral : List ℕ → ℕ → String → Type 0
IsLiteral text a w = (token_kind_at text a ≡ tokens.Percent) × (has_letters text a w ≡ true)

-- where the tokens of `%token` end
abbrev pub ends_tokens : TokenKind → Bool
ends_tokens tokens.End = true
ends_tokens tokens.Separator = true
ends_tokens tokens.Percent = true
ends_tokens _ = false

-- where a line ends, behind a line gap: LF, `//`, a `/*` comment with an LF, or the text's end
abbrev pub ends_line : TokenKind → Bool
ends_line tokens.End = true
ends_line tokens.Break = true
ends_line _ = false

-- what a declaration wants behind its word, which ends at b
abbrev pub begins : Declaration → SyntaxText → ℕ → State
begins declarations.Token x b = Spaced DeclaredToken x b
begins declarations.Start x b = Spaced StartName x b
begins declarations.Epp x b = Spaced EppToken x b
begins (declarations.Items l) x b = InLine (LineItem l []) x b
begins (declarations.Number c) x b = Spaced (NumberWord c) x b
begins (declarations.Rest r) x b = At (Rest r) x b

-- one construct
pub data Step (kind : YaccKind) (text : List ℕ) : State → State → Type 0 where
  -- White or a comment, and the end of a gap.
  gap_part : {w : Wanted} {x : SyntaxText} {a b : ℕ} → gap_at text a ≡ gaps.Part b →
      Step kind text (Spaced w x a) (Spaced w x b)
  gap_end : {w : Wanted} {x : SyntaxText} {a : ℕ} → gap_at text a ≡ gaps.NoPart →
      Step kind text (Spaced w x a) (At w x a)
  line_gap_part : {w : Wanted} {x : SyntaxText} {a b : ℕ} → line_gap_at text a ≡ gaps.Part b →
      Step kind text (InLine w x a) (InLine w x b)
  line_gap_end : {w : Wanted} {x : SyntaxText} {a : ℕ} → line_gap_at text a ≡ gaps.NoPart →
      Step kind text (InLine w x a) (At w x a)
  -- The `%%` behind the declarations.
  separator : {x : SyntaxText} {a : ℕ} → token_kind_at text a ≡ tokens.Separator →
      Step kind text (At Declared x a) (Spaced RuleName x (a + 2))
  -- `%` and the word of a declaration.
  declared : {x : SyntaxText} {a : ℕ} {d : Declaration} → token_kind_at text a ≡ tokens.Percent → declaration_of kind (keyword text a) ≡ Some d →
      Step kind text (At Declared x a) (begins d x (keyword_end text a))
  -- `%start`: a name.
  start_name : {x : SyntaxText} {a b : ℕ} → token_kind_at text a ≡ tokens.Name b →
      Step kind text (At StartName x a) (Spaced Declared (append_start x (word text a b)) b)
  -- `%token`: tokens up to the next `%` or the end.
  declared_token : {x : SyntaxText} {a b : ℕ} {t : SymbolText} → IsToken text a t b →
      Step kind text (At DeclaredToken x a) (Spaced DeclaredToken (append_token x t) b)
  tokens_end : {x : SyntaxText} {a : ℕ} → ends_tokens (token_kind_at text a) ≡ true →
      Step kind text (At DeclaredToken x a) (At Declared x a)
  -- `%left`, `%right`, `%nonassoc`, `%avoid_insert`, `%implicit_tokens`, `%expect-unused`: names or quoted tokens to the line's end.
  line_item : {x : SyntaxText} {a b : ℕ} {l : LineList} {ts : List SymbolText} {t : SymbolText} → IsToken text a t b →
      Step kind text (At (LineItem l ts) x a) (InLine (LineItem l (ts ++ t ∷ [])) x b)
  list_end : {x : SyntaxText} {a : ℕ} {l : LineList} {ts : List SymbolText} → ends_line (token_kind_at text a) ≡ true →
      Step kind text (At (LineItem l ts) x a) (Spaced Declared (append_list x l ts) a)
  -- `%expect`, `%expect-rr`: a number.
  number : {x : SyntaxText} {a b n : ℕ} {c : Count} → token_kind_at text a ≡ tokens.Digits b → number_of (slice_range text a b) ≡ Some n →
      Step kind text (At (NumberWord c) x a) (Spaced Declared (append_number x c (record { value = n; span = record { start = a; end = b } })) b)
  -- `%epp`: a token and a string.
  epp_token : {x : SyntaxText} {a b : ℕ} {t : SymbolText} → IsToken text a t b →
      Step kind text (At EppToken x a) (Spaced (EppString t.word) x b)
  epp_string : {x : SyntaxText} {a b : ℕ} {t : WordText} → string_at text a ≡ strings.Closed b →
      Step kind text (At (EppString t) x a) (Spaced Declared (append_epp x t (string_word text a b)) (b + 1))
  -- `%actiontype`, `%parse-generics`: the rest of the line.
  action_type : {x : SyntaxText} {a : ℕ} {w : WordText} → rest_of_line text a ≡ Some w →
      Step kind text (At (Rest texts.ActionType) x a) (Spaced Declared (append_action_type x w) (line_end text a))
  parse_generics : {x : SyntaxText} {a : ℕ} {w : WordText} → rest_of_line text a ≡ Some w →
      Step kind text (At (Rest texts.ParseGenerics) x a) (Spaced Declared (put_parse_generics x w) (line_end text a))
  -- `%parse-param`: a name, `:` and a type on the rest of the line.
  parse_param : {x : SyntaxText} {a : ℕ} {w : WordText} {p : ParamText} → rest_of_line text a ≡ Some w → parameter text a ≡ Some p →
      Step kind text (At (Rest texts.ParseParam) x a) (Spaced Declared (put_parse_param x p) (line_end text a))
  -- The end behind the rules, or a second `%%`, white and the programs.
  rules_end : {x : SyntaxText} {a : ℕ} → token_kind_at text a ≡ tokens.End →
      Step kind text (At RuleName x a) (At Nothing x a)
  programs : {x : SyntaxText} {a : ℕ} → token_kind_at text a ≡ tokens.Separator →
      Step kind text (At RuleName x a) (At Nothing (put_programs x (word text (run_end is_white text (a + 2)) (length text))) (length text))
  -- A rule: a name and `:`, in Grmtools a name, `->`, a type and the first lone `:`.
  rule_name : {x : SyntaxText} {a b : ℕ} → token_kind_at text a ≡ tokens.Name b →
      Step kind text (At RuleName x a) (Spaced (RuleColon (word text a b)) x b)
  colon : {x : SyntaxText} {a : ℕ} {r : WordText} → is_grmtools kind ≡ false → token_kind_at text a ≡ tokens.Colon →
      Step kind text (At (RuleColon r) x a) (Spaced (More (heading r None) no_part) x (a + 1))
  typed_colon : {x : SyntaxText} {a c : ℕ} {r : WordText} → is_grmtools kind ≡ true → token_kind_at text a ≡ tokens.Arrow → lone_colon text (a + 2) (length text) ≡ Some c →
      Step kind text (At (RuleColon r) x a) (Spaced (More (heading r (Some (trimmed_word text (a + 2) c))) no_part) x (c + 1))
  -- A symbol, with the `?` right behind it if one stands there, where neither `%empty`, `%prec` nor an action was read.
  symbol : {x : SyntaxText} {a b : ℕ} {r : RuleText} {p : Part} {t : SymbolText} → IsToken text a t b → p.is_empty ≡ false → is_open p ≡ true →
      Step kind text (At (More r p) x a) (Spaced (More r (append_symbol p (marked text a b t) a (mark_end text b))) x (mark_end text b))
  -- `%empty`, where nothing of the alternative was read.
  empty : {x : SyntaxText} {a : ℕ} {r : RuleText} {p : Part} → IsLiteral text a "empty" → p.symbols ≡ [] → p.is_empty ≡ false → is_open p ≡ true →
      Step kind text (At (More r p) x a) (Spaced (More r (put_empty p a (literal_end a "empty"))) x (literal_end a "empty"))
  -- `%prec` and a token, where neither was read, nor an action.
  prec : {x : SyntaxText} {a : ℕ} {r : RuleText} {p : Part} → IsLiteral text a "prec" → is_open p ≡ true →
      Step kind text (At (More r p) x a) (Spaced (PrecToken r p a) x (literal_end a "prec"))
  prec_token : {x : SyntaxText} {a b c : ℕ} {r : RuleText} {p : Part} {t : SymbolText} → IsToken text b t c →
      Step kind text (At (PrecToken r p a) x b) (Spaced (More r (put_precedence p t.word a c)) x c)
  -- An action, where none was read: the trimmed text up to the `}` that balances its `{`.
  action : {x : SyntaxText} {a c : ℕ} {r : RuleText} {p : Part} → token_kind_at text a ≡ tokens.Brace → is_none p.action ≡ true → action_end text (a + 1) ≡ Some c →
      Step kind text (At (More r p) x a) (Spaced (More r (put_action p (trimmed_word text (a + 1) c))) x (c + 1))
  -- The `|` behind an alternative, or the `;` behind the last.
  bar : {x : SyntaxText} {a : ℕ} {r : RuleText} {p : Part} → token_kind_at text a ≡ tokens.Bar →
      Step kind text (At (More r p) x a) (Spaced (More (append_alternative r (alternative p a)) no_part) x (a + 1))
  semicolon : {x : SyntaxText} {a : ℕ} {r : RuleText} {p : Part} → token_kind_at text a ≡ tokens.Semicolon →
      Step kind text (At (More r p) x a) (Spaced RuleName (append_rule x (append_alternative r (alternative p a))) (a + 1))

-- any number of constructs, one after another
pub data Steps (kind : YaccKind) (text : List ℕ) : State → State → Type 0 where
  here : {s : State} → Steps kind text s s
  then : {s t u : State} → Step kind text s t → Steps kind text t u → Steps kind text s u

-- The file behind its section, if it has one, begins at this offset.
abbrev pub beginning : ℕ → State
beginning start = Spaced Declared no_syntax start

-- what the text from an offset on says
abbrev pub Reads : YaccKind → List ℕ → ℕ → SyntaxText → Type 0
Reads kind text start x = (a : ℕ) × Steps kind text (beginning start) (At Nothing x a)
