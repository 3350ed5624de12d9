-- The grammar of a tree: its rules, tokens and productions by numbers, and the rules that are added.
use Rattle.std.specs.Prelude.{◌≡◌, ℕ, zero, suc, Bool, true, false, not, ◌&&◌, ◌==◌, nat_lt, min, max, ◌-◌, ◌^◌, List, [], ◌∷◌, ◌++◌, length, map, fold, Option, None, Some, option_map, Result, Ok, Err, if◌then◌else◌}
use Rattle.std.specs.List.{flat_map, list_any, find, position_or_len}
use Rattle.std.specs.Option.{option_or, option_and_then, option_map_or}
use Rattle.std.specs.Str.{bytes_eq}
use Rattle.cfg_base.specs.SpanModel.{SpanModel}
use Rattle.cfg_base.specs.declared.precedence.Precedence.{Precedence}
use Rattle.cfg_read.specs.declared.yacc.YaccKind.{YaccKind}
use Rattle.cfg_read.specs.declared.yacc.YaccKind.TheVariants as kinds
use Rattle.cfg_read.specs.SyntaxTexts.{WordText, NumberText, EppText}
use Rattle.cfg_read.specs.Names.{is_among}
use Rattle.cfg_read.specs.Asts.{Ast, RuleAst, ProductionAst, SymbolAst, PrecedenceAst}
use Rattle.cfg_read.specs.WellFormedAst.{names_of_rules, names_of_tokens}
use Rattle.cfg_read.specs.Validity.{FailureText}
use Rattle.cfg_read.specs.ErrorModels.{failures_in}
use Rattle.cfg_read.specs.ValidityInfo.{CheckedAst, is_valid, IsChecked}
use Rattle.cfg_read.specs.Files.{TellsKind, LacksKind}
use Rattle.cfg_theory.specs.Grammar.{Sym, rule, token, Production, Grammar}
use Rattle.cfg_numbered.specs.Value.{RuleFacts, TokenFacts, ProductionFacts, ParamFacts, KeptFacts, GrammarValue, end_facts}
use Rattle.cfgrammar.specs.declared.yacc.from_ast.TooMany.{TooMany}
use Rattle.cfgrammar.specs.declared.yacc.from_ast.TooMany.TheVariants as told
use Rattle.cfgrammar.specs.declared.yacc.from_ast.YaccGrammarMakeError.{YaccGrammarMakeError}
use Rattle.cfgrammar.specs.declared.yacc.from_ast.YaccGrammarMakeError.TheVariants as errors

-- the names of the added rules: `^`, `^~` and `~`
abbrev pub start_name : List ℕ
start_name = 94 ∷ []

abbrev pub implicit_start_name : List ℕ
implicit_start_name = 94 ∷ 126 ∷ []

abbrev pub implicit_name : List ℕ
implicit_name = 126 ∷ []

-- the index of a name in a list
abbrev pub index_in : List (List ℕ) → List ℕ → ℕ
index_in names name = position_or_len (bytes_eq name) names

abbrev pub is_empty : {A : Type 0} → List A → Bool
is_empty [] = true
is_empty (a ∷ more) = false

-- whether there are rules for implicit tokens: in Eco, where one is named
abbrev pub has_implicit : YaccKind → Ast → Bool
has_implicit kinds.Eco ast = not (is_empty ast.implicit_tokens)
has_implicit _ ast = false

-- The rules of the file stand behind `^`, in order, then `^~` and `~`; the tokens stand in order.
abbrev pub rule_number : Ast → List ℕ → ℕ
rule_number ast name = suc (index_in (names_of_rules ast) name)

abbrev pub token_number : Ast → List ℕ → ℕ
token_number ast name = index_in (names_of_tokens ast) name

abbrev pub implicit_start : Ast → ℕ
implicit_start ast = suc (length ast.rules)

abbrev pub implicit_rule : Ast → ℕ
implicit_rule ast = suc (suc (length ast.rules))

-- the rule that the text is of, and the one under `^`
abbrev pub file_start : Ast → ℕ
file_start ast = option_map_or (λ (w : WordText). rule_number ast w.text) ast.start zero

abbrev pub first_rule : Bool → Ast → ℕ
first_rule implicit ast = if implicit then implicit_start ast else file_start ast

-- A symbol by its number; where there are implicit tokens `~` stands behind each token of the file's productions.
abbrev pub sym_of : Ast → SymbolAst → Sym
sym_of ast s = if s.is_token then token (token_number ast s.word.text) else rule (rule_number ast s.word.text)

abbrev pub syms_of : Bool → Ast → SymbolAst → List Sym
syms_of implicit ast s = sym_of ast s ∷ (if implicit && s.is_token then rule (implicit_rule ast) ∷ [] else [])

abbrev pub file_body : Bool → Ast → ProductionAst → List Sym
file_body implicit ast p = flat_map (syms_of implicit ast) p.symbols

-- the rule whose list has the production of this number
abbrev pub file_head : Ast → ℕ → ℕ
file_head ast n = suc (position_or_len (λ (r : RuleAst). list_any (λ k. k == n) r.productions) ast.rules)

-- The productions: those of the file, of these numbers from n on; that of `^`; those of `^~` and `~`.
abbrev pub file_productions : Bool → Ast → ℕ → List ProductionAst → List Production
file_productions implicit ast n [] = []
file_productions implicit ast n (p ∷ ps) = record { head = file_head ast n; body = file_body implicit ast p } ∷ file_productions implicit ast (suc n) ps

abbrev pub start_production : Bool → Ast → Production
start_production implicit ast = record { head = zero; body = rule (first_rule implicit ast) ∷ [] }

abbrev pub implicit_production : Ast → WordText → Production
implicit_production ast w = record { head = implicit_rule ast; body = token (token_number ast w.text) ∷ rule (implicit_rule ast) ∷ [] }

abbrev pub implicit_productions : Ast → List Production
implicit_productions ast =
    record { head = implicit_start ast; body = rule (implicit_rule ast) ∷ rule (file_start ast) ∷ [] }
    ∷ (map (implicit_production ast) ast.implicit_tokens ++ record { head = implicit_rule ast; body = [] } ∷ [])

abbrev pub productions_of : Bool → Ast → List Production
productions_of implicit ast = file_productions implicit ast zero ast.productions ++ start_production implicit ast ∷ (if implicit then implicit_productions ast else [])

-- What stands beside the numbers. What is added stands nowhere in the text.
abbrev pub nowhere : SpanModel
nowhere = record { start = zero; end = zero }

abbrev pub file_rule_facts : RuleAst → RuleFacts
file_rule_facts r = record { name = r.name.text; span = r.name.span; action_type = r.action_type }

abbrev pub added_rule_facts : List ℕ → RuleFacts
added_rule_facts name = record { name = name; span = nowhere; action_type = None }

abbrev pub rules_of : Bool → Ast → List RuleFacts
rules_of implicit ast =
    added_rule_facts start_name
    ∷ (map file_rule_facts ast.rules ++ (if implicit then added_rule_facts implicit_start_name ∷ added_rule_facts implicit_name ∷ [] else []))

abbrev pub precedence_of : Ast → List ℕ → Option Precedence
precedence_of ast name = option_map (λ (p : PrecedenceAst). record { level = p.level; kind = p.kind }) (find (λ (p : PrecedenceAst). bytes_eq name p.token.text) ast.precedences)

abbrev pub epp_in : List EppText → List ℕ → Option (List ℕ)
epp_in es name = option_map (λ (e : EppText). e.text.text) (find (λ (e : EppText). bytes_eq name e.token.text) es)

abbrev pub epp_of : Ast → List ℕ → Option (List ℕ)
epp_of ast name = epp_in ast.epp name

abbrev pub file_token_facts : Ast → WordText → TokenFacts
file_token_facts ast w = record {
  name = Some w.text;
  span = Some w.span;
  epp = epp_of ast w.text;
  precedence = precedence_of ast w.text;
  is_avoided = is_among ast.avoid_insert w.text;
}

abbrev pub tokens_of : Ast → List TokenFacts
tokens_of ast = map (file_token_facts ast) ast.tokens ++ end_facts ∷ []

-- A production has the precedence of its `%prec` token, else of its last token.
abbrev pub later_token : Option (List ℕ) → SymbolAst → Option (List ℕ)
later_token found s = if s.is_token then Some s.word.text else found

abbrev pub last_token : List SymbolAst → Option (List ℕ)
last_token ss = fold later_token None ss

abbrev pub production_precedence : Ast → ProductionAst → Option Precedence
production_precedence ast p = option_and_then (precedence_of ast) (option_or p.precedence (last_token p.symbols))

abbrev pub file_production_facts : Ast → ProductionAst → ProductionFacts
file_production_facts ast p = record {
  span = p.span;
  precedence = production_precedence ast p;
  action = p.action;
  action_span = p.action_span;
}

abbrev pub added_production_facts : Production → ProductionFacts
added_production_facts p = record { span = nowhere; precedence = None; action = None; action_span = None }

abbrev pub production_facts_of : Bool → Ast → List ProductionFacts
production_facts_of implicit ast =
    map (file_production_facts ast) ast.productions
    ++ map added_production_facts (start_production implicit ast ∷ (if implicit then implicit_productions ast else []))

-- what is kept of the whole text
abbrev pub param_of : List ℕ × List ℕ → ParamFacts
param_of p = record { name = p.0; param_type = p.1 }

abbrev pub kept_of : Bool → Ast → KeptFacts
kept_of implicit ast = record {
  implicit_rule = if implicit then Some (implicit_rule ast) else None;
  parse_param = option_map param_of ast.parse_param;
  parse_generics = ast.parse_generics;
  programs = ast.programs;
  expect = option_map (λ (n : NumberText). n.value) ast.expect;
  expect_rr = option_map (λ (n : NumberText). n.value) ast.expect_rr;
}

-- the grammar of a tree of this kind
abbrev pub grammar_of : Bool → Ast → Grammar
grammar_of implicit ast = record {
  rules = length (rules_of implicit ast);
  tokens = length (tokens_of ast);
  productions = productions_of implicit ast;
  start = length ast.productions;
}

abbrev pub value_by : Bool → Ast → GrammarValue
value_by implicit ast = record {
  grammar = grammar_of implicit ast;
  rules = rules_of implicit ast;
  tokens = tokens_of ast;
  productions = production_facts_of implicit ast;
  kept = kept_of implicit ast;
}

abbrev pub made : YaccKind → Ast → GrammarValue
made kind ast = value_by (has_implicit kind ast) ast

-- how many symbols the longest production has
abbrev pub longest : List Production → ℕ
longest [] = zero
longest (p ∷ ps) = max (length p.body) (longest ps)

-- A count as it is told: no memory holds more than the greatest `usize`.
abbrev pub as_told : ℕ → ℕ
as_told n = min n (2 ^ 64 - 1)

-- The first count that passes `top`: of rules, productions, tokens, and symbols of the longest production.
abbrev pub too_many : ℕ → Grammar → Option TooMany
too_many top G =
    if nat_lt top G.rules then Some (told.TooManyRules (as_told G.rules))
    else (if nat_lt top (length G.productions) then Some (told.TooManyProds (as_told (length G.productions)))
    else (if nat_lt top G.tokens then Some (told.TooManyTokens (as_told G.tokens))
    else (if nat_lt top (longest G.productions) then Some (told.TooManySymbols (as_told (longest G.productions)))
    else None)))

-- no rule of the file has the name of an added one
pub record NamesNoAdded (ast : Ast) : Type 0 where
  pub start : list_any (bytes_eq start_name) (names_of_rules ast) ≡ false
  pub implicit_start : list_any (bytes_eq implicit_start_name) (names_of_rules ast) ≡ false
  pub implicit : list_any (bytes_eq implicit_name) (names_of_rules ast) ≡ false

-- What is answered where a grammar of the tree of a valid text is asked for: the grammar, where all its counts fit; else
-- the first that doesn't. Of want of memory nothing is said, here and below.
abbrev pub MakesTree : ℕ → YaccKind → Ast → Result GrammarValue YaccGrammarMakeError → Type 0
MakesTree top kind ast (Ok g) = (too_many top (made kind ast).grammar ≡ None) × (g ≡ made kind ast)
MakesTree top kind ast (Err (errors.Memory e)) = Unit {0}
MakesTree top kind ast (Err (errors.Invalid es)) = ⊥
MakesTree top kind ast (Err (errors.TooMany t)) = too_many top (made kind ast).grammar ≡ Some t

-- and where this is wrong with the text: all of it
abbrev pub Refuses : List FailureText → Result GrammarValue YaccGrammarMakeError → Type 0
Refuses fs (Ok g) = ⊥
Refuses fs (Err (errors.Memory e)) = Unit {0}
Refuses fs (Err (errors.Invalid es)) = failures_in es.items ≡ fs
Refuses fs (Err (errors.TooMany t)) = ⊥

-- what is answered of what is kept of a text, which is valid or isn't
pub data Makes (top : ℕ) (c : CheckedAst) (r : Result GrammarValue YaccGrammarMakeError) : Type 0 where
  of_valid : is_valid c.errors ≡ true → MakesTree top c.kind c.ast r → Makes top c r
  of_invalid : is_valid c.errors ≡ false → Refuses c.errors r → Makes top c r

-- of a text of a kind
pub record MakesText (top : ℕ) (kind : YaccKind) (text : List ℕ) (r : Result GrammarValue YaccGrammarMakeError) : Type 0 where
  pub kept : CheckedAst
  pub checked : IsChecked kind text kept
  pub answer : Makes top kept r

-- of a text that tells its kind by its section, or doesn't
pub data MakesFile (top : ℕ) (text : List ℕ) (r : Result GrammarValue YaccGrammarMakeError) : Type 0 where
  of_kind : (kind : YaccKind) → TellsKind text kind → MakesText top kind text r → MakesFile top text r
  without_kind : (fs : List FailureText) → LacksKind text fs → Refuses fs r → MakesFile top text r
