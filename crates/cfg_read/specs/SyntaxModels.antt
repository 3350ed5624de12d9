-- What a syntax value of the program says, without where it lies in memory.
use Rattle.std.specs.Prelude.{ℕ, ◌+◌, ◌-◌, ◌^◌, min, Bool, false, true, map, option_map, List, Option, None, Some, Box, if◌then◌else◌}
use Rattle.std.specs.String.{string_bytes}
use Rattle.cfg_read.specs.declared.yacc.parser.syntax.Word.{Word}
use Rattle.cfg_base.specs.SpanModel.{SpanModel}
use Rattle.cfg_read.specs.declared.yacc.parser.syntax.Symbol.{Symbol}
use Rattle.cfg_read.specs.declared.yacc.parser.syntax.Symbol.TheVariants as symbols
use Rattle.cfg_read.specs.NameTexts.{name_text, name_optional}
use Rattle.std.specs.declared.alloc.Global.{Global}
use Rattle.cfg_read.specs.declared.yacc.parser.syntax.Body.{Body}
use Rattle.cfg_read.specs.declared.yacc.parser.syntax.Alternative.{Alternative}
use Rattle.cfg_read.specs.declared.yacc.parser.syntax.Alternative.TheVariants as alternatives
use Rattle.cfg_read.specs.declared.yacc.parser.draft.Draft.{Draft}
use Rattle.cfg_read.specs.declared.yacc.parser.syntax.Rule.{Rule}
use Rattle.cfg_read.specs.declared.yacc.parser.syntax.Level.{Level}
use Rattle.cfg_read.specs.declared.yacc.parser.syntax.Line.{Line}
use Rattle.cfg_read.specs.declared.yacc.parser.syntax.Number.{Number}
use Rattle.cfg_read.specs.declared.yacc.parser.syntax.Epp.{Epp}
use Rattle.cfg_read.specs.declared.yacc.parser.syntax.Param.{Param}
use Rattle.cfg_read.specs.declared.yacc.parser.syntax.Syntax.{Syntax}
use Rattle.cfg_read.specs.SyntaxTexts.{WordText, SymbolText, AlternativeText, RuleText, LevelText, NumberText, EppText, ParamText, SyntaxText}
use Rattle.cfg_read.specs.SyntaxUpdates.{Part, no_part, alternative}

abbrev pub word_of : Word → WordText
word_of w = record { text = string_bytes w.text; span = w.span }

abbrev pub boxed_word : Box Word Global → WordText
boxed_word b = word_of b.value

abbrev pub words_of : List Word → List WordText
words_of ws = map word_of ws

-- the next offset, of those that there are
abbrev pub next : ℕ → ℕ
next a = min (a + 1) (2 ^ 64 - 1)

-- from a up to the `?` at b, if that was read
abbrev pub mark_of : Bool → ℕ → ℕ → Option SpanModel
mark_of is_optional a b = if is_optional then Some (record { start = a; end = next b }) else None

-- from the first byte of a symbol of this span to the `?` right behind it, if that was read
abbrev pub mark_at : Bool → Bool → SpanModel → Option SpanModel
mark_at is_quoted is_optional at = if is_quoted then mark_of is_optional (at.start - 1) (next at.end) else mark_of is_optional at.start at.end

abbrev pub symbol_of : Symbol → SymbolText
symbol_of (symbols.Rule name at) = record { is_quoted = false; word = record { text = name_text name; span = at }; optional = mark_of (name_optional name) at.start at.end }
symbol_of (symbols.Token name at) = record { is_quoted = true; word = record { text = name_text name; span = at }; optional = mark_of (name_optional name) (at.start - 1) (next at.end) }

abbrev pub symbols_of : List Symbol → List SymbolText
symbols_of ss = map symbol_of ss

abbrev pub line_of : Line → List SymbolText
line_of l = symbols_of l.items.items

-- an alternative of symbols alone, one in which this stands, and any one
abbrev pub plain_text : List Symbol → SpanModel → AlternativeText
plain_text ss at = record { symbols = symbols_of ss; is_empty = false; precedence = None; action = None; span = at }

abbrev pub body_text : Body → AlternativeText
body_text p = record { symbols = symbols_of p.symbols.items; is_empty = p.is_empty; precedence = option_map boxed_word p.precedence; action = option_map word_of p.action; span = p.span }

abbrev pub alternative_of : Alternative → AlternativeText
alternative_of (alternatives.Blank a) = alternative no_part a
alternative_of (alternatives.Single b) = plain_text b.value.symbols b.value.span
alternative_of (alternatives.Plain b) = plain_text b.value.symbols.items b.value.span
alternative_of (alternatives.Body b) = body_text b.value

-- what an alternative is read into, and what it stands in
abbrev pub part_of : Draft → Part
part_of d = record { symbols = symbols_of d.symbols.items; is_empty = d.is_empty; precedence = option_map boxed_word d.precedence; action = option_map word_of d.action; span = d.span }

abbrev pub rule_of : Rule → RuleText
rule_of r = record { name = record { text = name_text r.name; span = r.span }; action_type = option_map boxed_word r.action_type; alternatives = map alternative_of r.alternatives.items }

abbrev pub level_of : Level → LevelText
level_of l = record { kind = l.kind; tokens = symbols_of l.tokens.items }

abbrev pub number_text : Number → NumberText
number_text n = record { value = n.value; span = n.span }

abbrev pub epp_of : Epp → EppText
epp_of e = record { token = word_of e.token; text = word_of e.text }

abbrev pub param_of : Param → ParamText
param_of p = record { name = word_of p.name; param_type = word_of p.param_type }

abbrev pub syntax_of : Syntax → SyntaxText
syntax_of x = record {
  starts = words_of x.starts.items;
  tokens = symbols_of x.tokens.items;
  levels = map level_of x.levels.items;
  avoid_insert = map line_of x.avoid_insert.items;
  implicit_tokens = map line_of x.implicit_tokens.items;
  expect_unused = map line_of x.expect_unused.items;
  expect = map number_text x.expect.items;
  expect_rr = map number_text x.expect_rr.items;
  epp = map epp_of x.epp.items;
  action_types = words_of x.action_types.items;
  parse_param = option_map param_of x.parse_param;
  parse_generics = option_map word_of x.parse_generics;
  rules = map rule_of x.rules.items;
  programs = option_map word_of x.programs;
}
