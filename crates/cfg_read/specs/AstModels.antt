-- What the parts of a syntax tree say, without where they lie in memory.
use Rattle.std.specs.Prelude.{ℕ, true, false, List, [], Option, None, map, option_map}
use Rattle.std.specs.String.{string_bytes}
use Rattle.indexmap.specs.IndexMap.{IndexMap}
use Rattle.cfg_base.specs.SpanModel.{SpanModel}
use Rattle.std.specs.declared.alloc.Global.{Global}
use Rattle.std.specs.declared.string.String.{String}
use Rattle.cfg_read.specs.declared.yacc.parser.syntax.Symbol.{Symbol}
use Rattle.cfg_read.specs.declared.yacc.parser.syntax.Symbol.TheVariants.{Rule, Token}
use Rattle.cfg_read.specs.declared.yacc.ast.Production.{Production}
use Rattle.cfg_read.specs.declared.yacc.parser.syntax.Word.{Word}
use Rattle.cfg_read.specs.declared.yacc.parser.syntax.Single.{Single}
use Rattle.cfg_read.specs.declared.yacc.parser.syntax.Plain.{Plain}
use Rattle.cfg_read.specs.declared.yacc.parser.syntax.Body.{Body}
use Rattle.cfg_read.specs.declared.yacc.parser.syntax.Alternative.{Alternative}
use Rattle.cfg_read.specs.declared.yacc.parser.syntax.Alternative.TheVariants as alternatives
use Rattle.cfg_read.specs.declared.yacc.ast.Rule.{Rule as RuleEntry}
use Rattle.cfg_base.specs.declared.precedence.Precedence.{Precedence}
use Rattle.cfg_read.specs.SyntaxTexts.{WordText, NumberText, EppText}
use Rattle.cfg_read.specs.Asts.{SymbolAst, RuleAst, ProductionAst, PrecedenceAst, text_of, span_of}
use Rattle.cfg_read.specs.NameTexts.{name_text}
use Rattle.cfg_read.specs.SyntaxModels.{word_of, boxed_word}

abbrev pub ast_symbol_of : Symbol → SymbolAst
ast_symbol_of (Rule name span) = record { is_token = false; word = record { text = name_text name; span = span } }
ast_symbol_of (Token name span) = record { is_token = true; word = record { text = name_text name; span = span } }

-- a production with these symbols, the token of `%prec`, the action and the span; one of symbols alone, one in which
-- this stands, that of an alternative with symbols of the tree, and any one
abbrev pub production_with : List Symbol → Option WordText → Option Word → SpanModel → ProductionAst
production_with symbols precedence action span = record {
  symbols = map ast_symbol_of symbols;
  precedence = text_of precedence;
  action = text_of (option_map word_of action);
  action_span = span_of (option_map word_of action);
  span = span;
}

abbrev pub single_of : Single → ProductionAst
single_of p = production_with p.symbols None None p.span

abbrev pub plain_of : Plain → ProductionAst
plain_of p = production_with p.symbols.items None None p.span

abbrev pub body_of : Body → ProductionAst
body_of p = production_with p.symbols.items (option_map boxed_word p.precedence) p.action p.span

abbrev pub kept_of : Alternative → ProductionAst
kept_of (alternatives.Blank a) = record { symbols = []; precedence = None; action = None; action_span = None; span = record { start = a; end = a } }
kept_of (alternatives.Single b) = single_of b.value
kept_of (alternatives.Plain b) = plain_of b.value
kept_of (alternatives.Body b) = body_of b.value

abbrev pub production_of : Production → ProductionAst
production_of p = kept_of p.kept

-- the names of a map with their spans, in its order
abbrev pub named_span : String Global × SpanModel → WordText
named_span e = record { text = string_bytes e.0; span = e.1 }

abbrev pub named_spans : {S : Type 0} → IndexMap (String Global) SpanModel S → List WordText
named_spans m = map named_span m.entries

-- those of printed texts, and of precedences
abbrev pub named_epp : String Global × (SpanModel × (String Global × SpanModel)) → EppText
named_epp e = record { token = record { text = string_bytes e.0; span = e.1.0 }; text = record { text = string_bytes e.1.1.0; span = e.1.1.1 } }

abbrev pub named_epps : {S : Type 0} → IndexMap (String Global) (SpanModel × (String Global × SpanModel)) S → List EppText
named_epps m = map named_epp m.entries

abbrev pub named_precedence : String Global × (Precedence × SpanModel) → PrecedenceAst
named_precedence e = record { token = record { text = string_bytes e.0; span = e.1.1 }; level = e.1.0.level; kind = e.1.0.kind }

abbrev pub named_precedences : {S : Type 0} → IndexMap (String Global) (Precedence × SpanModel) S → List PrecedenceAst
named_precedences m = map named_precedence m.entries

-- a rule, and one in a map that is named by its key
abbrev pub rule_entry_of : RuleEntry → RuleAst
rule_entry_of r = record { name = named_span r.name; productions = r.pidxs.items; action_type = option_map string_bytes r.actiont }

abbrev pub named_rule : String Global × RuleEntry → RuleAst
named_rule e = record { name = record { text = string_bytes e.0; span = e.1.name.1 }; productions = e.1.pidxs.items; action_type = option_map string_bytes e.1.actiont }

abbrev pub named_rules : {S : Type 0} → IndexMap (String Global) RuleEntry S → List RuleAst
named_rules m = map named_rule m.entries

-- a key of a map
abbrev pub key_text : {V : Type 0} → String Global × V → List ℕ
key_text e = string_bytes e.0

-- the keys of these rules, and the names that the rules themselves have
abbrev pub rule_keys : {S : Type 0} → IndexMap (String Global) RuleEntry S → List (List ℕ)
rule_keys m = map (λ (e : String Global × RuleEntry). string_bytes e.0) m.entries

abbrev pub own_names : {S : Type 0} → IndexMap (String Global) RuleEntry S → List (List ℕ)
own_names m = map (λ (e : String Global × RuleEntry). string_bytes e.1.name.0) m.entries

abbrev pub number_with_span : ℕ × SpanModel → NumberText
number_with_span n = record { value = n.0; span = n.1 }

abbrev pub param_pair : String Global × String Global → List ℕ × List ℕ
param_pair p = (string_bytes p.0, string_bytes p.1)
