-- What each construct adds to what was read.
use Rattle.std.specs.Prelude.{ℕ, ◌+◌, Bool, false, true, ◌&&◌, ◌==◌, List, [], ◌∷◌, ◌++◌, Option, None, Some, option_map, slice_range, is_none, if◌then◌else◌}
use Rattle.std.specs.List.{filter}
use Rattle.cfg_base.specs.SpanModel.{SpanModel}
use Rattle.cfg_read.specs.declared.yacc.parser.declaration.Count.{Count}
use Rattle.cfg_read.specs.declared.yacc.parser.declaration.Count.TheVariants as counts
use Rattle.cfg_read.specs.declared.yacc.parser.declaration.LineList.{LineList}
use Rattle.cfg_read.specs.declared.yacc.parser.declaration.LineList.TheVariants as lists
use Rattle.cfg_base.specs.Text.{is_at, line_end}
use Rattle.cfg_read.specs.Bytes.{is_plain, trimmed}
use Rattle.cfg_read.specs.Words.{lone_colon}
use Rattle.cfg_read.specs.SyntaxTexts.{WordText, SymbolText, AlternativeText, RuleText, NumberText, ParamText, SyntaxText}

-- the text of this span
abbrev pub word_at : List ℕ → SpanModel → WordText
word_at text at = record { text = slice_range text at.start at.end; span = at }

-- from a to b
abbrev pub word : List ℕ → ℕ → ℕ → WordText
word text a b = word_at text (record { start = a; end = b })

abbrev pub trimmed_word : List ℕ → ℕ → ℕ → WordText
trimmed_word text a b = word_at text (trimmed text a b)

-- The string whose quotes stand at a and b. Each `\` in it stands before a quote, and falls away.
abbrev pub string_word : List ℕ → ℕ → ℕ → WordText
string_word text a b = record { text = filter is_plain (slice_range text (a + 1) b); span = record { start = a; end = b + 1 } }

-- a name or, between quotes, a token of this span
abbrev pub token_text : List ℕ → Bool → SpanModel → SymbolText
token_text text is_quoted at = record { is_quoted = is_quoted; word = word_at text at; optional = None }

-- A `?` right behind a symbol makes it optional: where a symbol from a to b ends with that, and what it is then.
abbrev pub mark_end : List ℕ → ℕ → ℕ
mark_end text b = if is_at text b 63 then b + 1 else b

abbrev pub mark_span : List ℕ → ℕ → ℕ → Option SpanModel
mark_span text a b = if is_at text b 63 then Some (record { start = a; end = b + 1 }) else None

abbrev pub marked : List ℕ → ℕ → ℕ → SymbolText → SymbolText
marked text a b t = record t { optional = mark_span text a b }

-- An alternative as far as it is read; its span, once it has a part that counts.
pub record Part : Type 0 where
  pub symbols : List SymbolText
  pub is_empty : Bool
  pub precedence : Option WordText
  pub action : Option WordText
  pub span : Option SpanModel

abbrev pub no_part : Part
no_part = record { symbols = []; is_empty = false; precedence = None; action = None; span = None }

-- whether neither `%prec` nor an action was read
abbrev pub is_open : Part → Bool
is_open p = is_none p.precedence && is_none p.action

-- the span with one more part, from a to b
abbrev pub span_with : Option SpanModel → ℕ → ℕ → Option SpanModel
span_with None a b = Some (record { start = a; end = b })
span_with (Some s) a b = Some (record { start = s.start; end = b })

-- the span of an alternative that ends at a
abbrev pub span_or : Option SpanModel → ℕ → SpanModel
span_or None a = record { start = a; end = a }
span_or (Some s) a = s

abbrev pub append_symbol : Part → SymbolText → ℕ → ℕ → Part
append_symbol p t a b = record p { symbols = p.symbols ++ t ∷ []; span = span_with p.span a b }

abbrev pub put_empty : Part → ℕ → ℕ → Part
put_empty p a b = record p { is_empty = true; span = span_with p.span a b }

abbrev pub put_precedence : Part → WordText → ℕ → ℕ → Part
put_precedence p w a b = record p { precedence = Some w; span = span_with p.span a b }

abbrev pub put_action : Part → WordText → Part
put_action p w = record p { action = Some w }

-- the alternative, which ends at a
abbrev pub alternative : Part → ℕ → AlternativeText
alternative p a = record { symbols = p.symbols; is_empty = p.is_empty; precedence = p.precedence; action = p.action; span = span_or p.span a }

abbrev pub heading : WordText → Option WordText → RuleText
heading name action_type = record { name = name; action_type = action_type; alternatives = [] }

abbrev pub append_alternative : RuleText → AlternativeText → RuleText
append_alternative r x = record r { alternatives = r.alternatives ++ x ∷ [] }

abbrev pub no_syntax : SyntaxText
no_syntax = record {
  starts = [];
  tokens = [];
  levels = [];
  avoid_insert = [];
  implicit_tokens = [];
  expect_unused = [];
  expect = [];
  expect_rr = [];
  epp = [];
  action_types = [];
  parse_param = None;
  parse_generics = None;
  rules = [];
  programs = None;
}

abbrev pub append_start : SyntaxText → WordText → SyntaxText
append_start x w = record x { starts = x.starts ++ w ∷ [] }

abbrev pub append_token : SyntaxText → SymbolText → SyntaxText
append_token x t = record x { tokens = x.tokens ++ t ∷ [] }

-- A precedence line without tokens makes a level too.
abbrev pub append_list : SyntaxText → LineList → List SymbolText → SyntaxText
append_list x (lists.Level k) ts = record x { levels = x.levels ++ record { kind = k; tokens = ts } ∷ [] }
append_list x lists.AvoidInsert ts = record x { avoid_insert = x.avoid_insert ++ ts ∷ [] }
append_list x lists.ImplicitTokens ts = record x { implicit_tokens = x.implicit_tokens ++ ts ∷ [] }
append_list x lists.ExpectUnused ts = record x { expect_unused = x.expect_unused ++ ts ∷ [] }

abbrev pub append_number : SyntaxText → Count → NumberText → SyntaxText
append_number x counts.Expect n = record x { expect = x.expect ++ n ∷ [] }
append_number x counts.ExpectRR n = record x { expect_rr = x.expect_rr ++ n ∷ [] }

abbrev pub append_epp : SyntaxText → WordText → WordText → SyntaxText
append_epp x t w = record x { epp = x.epp ++ record { token = t; text = w } ∷ [] }

abbrev pub append_action_type : SyntaxText → WordText → SyntaxText
append_action_type x w = record x { action_types = x.action_types ++ w ∷ [] }

abbrev pub put_parse_param : SyntaxText → ParamText → SyntaxText
put_parse_param x p = record x { parse_param = Some p }

abbrev pub put_parse_generics : SyntaxText → WordText → SyntaxText
put_parse_generics x w = record x { parse_generics = Some w }

abbrev pub append_rule : SyntaxText → RuleText → SyntaxText
append_rule x r = record x { rules = x.rules ++ r ∷ [] }

abbrev pub put_programs : SyntaxText → WordText → SyntaxText
put_programs x w = record x { programs = Some w }

-- The rest of the line of a: its text without white at the ends, if any is left.
abbrev pub nonempty : List ℕ → SpanModel → Option WordText
nonempty text at = if at.start == at.end then None else Some (word_at text at)

abbrev pub rest_of_line : List ℕ → ℕ → Option WordText
rest_of_line text a = nonempty text (trimmed text a (line_end text a))

-- A name, the first lone `:`, and a type, on the rest of the line of a.
abbrev pub parameter : List ℕ → ℕ → Option ParamText
parameter text a = option_map (λ c. record { name = trimmed_word text a c; param_type = trimmed_word text (c + 1) (line_end text a) }) (lone_colon text a (line_end text a))
