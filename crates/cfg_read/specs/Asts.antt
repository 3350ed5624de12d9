-- What a text that reads is kept as: rules, productions and tokens by number, and what the declarations say.
use Rattle.std.specs.Prelude.{ℕ, suc, Bool, false, List, [], ◌∷◌, ◌++◌, map, fold, Option, None, Some, option_map, if◌then◌else◌}
use Rattle.std.specs.List.{flat_map, list_any}
use Rattle.std.specs.Option.{option_or}
use Rattle.std.specs.Str.{bytes_eq}
use Rattle.cfg_base.specs.SpanModel.{SpanModel}
use Rattle.cfg_base.specs.declared.precedence.AssocKind.{AssocKind}
use Rattle.cfg_read.specs.SyntaxTexts.{WordText, SymbolText, AlternativeText, RuleText, LevelText, NumberText, EppText, ParamText, SyntaxText}
use Rattle.cfg_read.specs.Names.{is_among, distinct, headings, words_in, declared_tokens, implicit_tokens_of, avoided_tokens, is_token_by, tokens_of}
use Rattle.cfg_read.specs.FreshRules.{FreshText, fresh_word, fresh_of, rule_words}
use Rattle.cfg_read.specs.Validity.{expected_symbols}

-- a symbol of a production
pub record SymbolAst : Type 0 where
  pub is_token : Bool
  pub word : WordText

-- a rule: its first heading, the numbers of its productions in order, and the type of its actions
pub record RuleAst : Type 0 where
  pub name : WordText
  pub productions : List ℕ
  pub action_type : Option (List ℕ)

pub record ProductionAst : Type 0 where
  pub symbols : List SymbolAst
  pub precedence : Option (List ℕ)
  pub action : Option (List ℕ)
  pub action_span : Option SpanModel
  pub span : SpanModel

-- the precedence of a token; the first level is 0
pub record PrecedenceAst : Type 0 where
  pub token : WordText
  pub level : ℕ
  pub kind : AssocKind

pub record Ast : Type 0 where
  -- whether the text that it was made from is valid
  pub is_valid : Bool
  pub start : Option WordText
  pub rules : List RuleAst
  pub productions : List ProductionAst
  pub tokens : List WordText
  pub precedences : List PrecedenceAst
  pub avoid_insert : List WordText
  pub implicit_tokens : List WordText
  pub epp : List EppText
  pub expect : Option NumberText
  pub expect_rr : Option NumberText
  -- the name and the type
  pub parse_param : Option (List ℕ × List ℕ)
  pub parse_generics : Option (List ℕ)
  pub programs : Option (List ℕ)
  -- the names of `%expect-unused`, of which the quoted ones are told as tokens
  pub expect_unused : List SymbolAst

-- an empty one: that of a text that doesn't read, which is invalid
abbrev pub no_ast : Ast
no_ast = record {
  is_valid = false;
  start = None;
  rules = [];
  productions = [];
  tokens = [];
  precedences = [];
  avoid_insert = [];
  implicit_tokens = [];
  epp = [];
  expect = None;
  expect_rr = None;
  parse_param = None;
  parse_generics = None;
  programs = None;
  expect_unused = [];
}

abbrev pub first_item : {A : Type 0} → List A → Option A
first_item [] = None
first_item (a ∷ more) = Some a

abbrev pub last_text : List WordText → Option (List ℕ)
last_text [] = None
last_text (w ∷ []) = Some w.text
last_text (w ∷ v ∷ ws) = last_text (v ∷ ws)

-- The productions: one for each alternative, in the order of the text; `declared` tells the names of `%token`. An
-- optional symbol stands for its fresh rule.
abbrev pub plain_symbol_ast : (List ℕ → Bool) → SymbolText → SymbolAst
plain_symbol_ast declared s = record { is_token = is_token_by declared s; word = s.word }

abbrev pub symbol_ast_at : (List ℕ → Bool) → SymbolText → Option SpanModel → SymbolAst
symbol_ast_at declared s None = plain_symbol_ast declared s
symbol_ast_at declared s (Some at) = record { is_token = false; word = fresh_word declared s at }

abbrev pub symbol_ast : (List ℕ → Bool) → SymbolText → SymbolAst
symbol_ast declared s = symbol_ast_at declared s s.optional

abbrev pub text_of : Option WordText → Option (List ℕ)
text_of o = option_map (λ (w : WordText). w.text) o

abbrev pub span_of : Option WordText → Option SpanModel
span_of o = option_map (λ (w : WordText). w.span) o

abbrev pub production_ast : (List ℕ → Bool) → AlternativeText → ProductionAst
production_ast declared a = record {
  symbols = map (symbol_ast declared) a.symbols;
  precedence = text_of a.precedence;
  action = text_of a.action;
  action_span = span_of a.action;
  span = a.span;
}

abbrev pub productions_in : (List ℕ → Bool) → RuleText → List ProductionAst
productions_in declared r = map (production_ast declared) r.alternatives

-- for each of them the name of its rule
abbrev pub heads_in : RuleText → List (List ℕ)
heads_in r = map (λ (a : AlternativeText). r.name.text) r.alternatives

-- Behind them the fresh ones, two for each fresh rule: the symbol, and nothing.
abbrev pub fresh_production : SpanModel → List SymbolAst → ProductionAst
fresh_production at symbols = record { symbols = symbols; precedence = None; action = None; action_span = None; span = at }

abbrev pub fresh_pair : (List ℕ → Bool) → SymbolText → SpanModel → List ProductionAst
fresh_pair declared s at = fresh_production at (plain_symbol_ast declared s ∷ []) ∷ fresh_production at [] ∷ []

abbrev pub fresh_productions : (List ℕ → Bool) → FreshText → List ProductionAst
fresh_productions declared f = fresh_pair declared f.symbol f.word.span

abbrev pub fresh_heads : FreshText → List (List ℕ)
fresh_heads f = f.word.text ∷ f.word.text ∷ []

-- all productions of a text, and for each the name of its rule
abbrev pub productions_of : SyntaxText → List ProductionAst
productions_of x = flat_map (productions_in (is_among (declared_tokens x))) x.rules ++ flat_map (fresh_productions (is_among (declared_tokens x))) (fresh_of x)

abbrev pub heads : SyntaxText → List (List ℕ)
heads x = flat_map heads_in x.rules ++ flat_map fresh_heads (fresh_of x)

-- the indices of a name in a list, counted from n
abbrev pub numbers_from : List ℕ → ℕ → List (List ℕ) → List ℕ
numbers_from name n [] = []
numbers_from name n (h ∷ hs) = if bytes_eq h name then n ∷ numbers_from name (suc n) hs else numbers_from name (suc n) hs

-- The type of a rule: that of its first heading, else that of `%actiontype`, which every heading stands behind. A fresh
-- rule has none.
abbrev pub heading_type : SyntaxText → List RuleText → List ℕ → Option (List ℕ)
heading_type x [] name = None
heading_type x (r ∷ rs) name = if bytes_eq r.name.text name then option_or (text_of r.action_type) (last_text x.action_types) else heading_type x rs name

abbrev pub rule_ast : SyntaxText → WordText → RuleAst
rule_ast x w = record { name = w; productions = numbers_from w.text 0 (heads x); action_type = heading_type x x.rules w.text }

-- The precedences: each line is a level, and a token's first one counts.
abbrev pub precedence_ast : ℕ → AssocKind → WordText → PrecedenceAst
precedence_ast n kind w = record { token = w; level = n; kind = kind }

abbrev pub level_precedences : ℕ → LevelText → List PrecedenceAst
level_precedences n l = map (precedence_ast n l.kind) (words_in l.tokens)

abbrev pub precedences_at : ℕ → List LevelText → List PrecedenceAst
precedences_at n [] = []
precedences_at n (l ∷ ls) = level_precedences n l ++ precedences_at (suc n) ls

abbrev pub has_precedence : List PrecedenceAst → List ℕ → Bool
has_precedence ps name = list_any (λ (p : PrecedenceAst). bytes_eq name p.token.text) ps

abbrev pub with_precedence_of : List PrecedenceAst → PrecedenceAst → List PrecedenceAst
with_precedence_of ps p = if has_precedence ps p.token.text then ps else ps ++ p ∷ []

abbrev pub precedences_of : List LevelText → List PrecedenceAst
precedences_of ls = fold with_precedence_of [] (precedences_at 0 ls)

-- the printed texts, a token's first one
abbrev pub has_epp : List EppText → List ℕ → Bool
has_epp es name = list_any (λ (e : EppText). bytes_eq name e.token.text) es

abbrev pub with_epp_of : List EppText → EppText → List EppText
with_epp_of es e = if has_epp es e.token.text then es else es ++ e ∷ []

-- The start rule is that of `%start`, else the first one.
abbrev pub start_of : SyntaxText → Option WordText
start_of x = option_or (first_item x.starts) (first_item (headings x))

abbrev pub param_texts : ParamText → List ℕ × List ℕ
param_texts p = (p.name.text, p.param_type.text)

abbrev pub expected_ast : SymbolText → SymbolAst
expected_ast s = record { is_token = s.is_quoted; word = s.word }

-- that of a text, where it is told whether this is valid
abbrev pub ast_of : Bool → SyntaxText → Ast
ast_of valid x = record {
  is_valid = valid;
  start = start_of x;
  rules = map (rule_ast x) (rule_words x);
  productions = productions_of x;
  tokens = tokens_of x;
  precedences = precedences_of x.levels;
  avoid_insert = distinct (avoided_tokens x);
  implicit_tokens = distinct (implicit_tokens_of x);
  epp = fold with_epp_of [] x.epp;
  expect = first_item x.expect;
  expect_rr = first_item x.expect_rr;
  parse_param = option_map param_texts x.parse_param;
  parse_generics = text_of x.parse_generics;
  programs = text_of x.programs;
  expect_unused = map expected_ast (expected_symbols x);
}
