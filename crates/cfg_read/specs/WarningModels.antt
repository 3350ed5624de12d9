-- What warnings say, and which names a set of names gets, without where they lie in memory.
use Rattle.std.specs.Prelude.{ℕ, Bool, true, not, List, [], ◌∷◌, ◌++◌, map, fold, codes, option_to_list, slice_get, if◌then◌else◌}
use Rattle.std.specs.List.{flat_map, list_any}
use Rattle.std.specs.Option.{option_map_or}
use Rattle.std.specs.Str.{bytes_eq}
use Rattle.cfg_read.specs.declared.yacc.ast.warnings.YaccGrammarWarningKind.{YaccGrammarWarningKind}
use Rattle.cfg_read.specs.declared.yacc.ast.warnings.YaccGrammarWarningKind.TheVariants as kinds
use Rattle.cfg_read.specs.declared.yacc.ast.warnings.YaccGrammarWarning.{YaccGrammarWarning}
use Rattle.cfg_read.specs.SyntaxTexts.{WordText}
use Rattle.cfg_read.specs.Asts.{Ast, RuleAst, ProductionAst, SymbolAst}
use Rattle.cfg_read.specs.AstChanges.{rule_named}
use Rattle.cfg_read.specs.Warnings as told
use Rattle.cfg_read.specs.Warnings.{WarningKind, WarningText}

abbrev pub warning_kind : YaccGrammarWarningKind → WarningKind
warning_kind kinds.UnusedRule = told.UnusedRule
warning_kind kinds.UnusedToken = told.UnusedToken

abbrev pub warning_of : YaccGrammarWarning → WarningText
warning_of w = record { kind = warning_kind w.kind; spans = w.spans.items }

abbrev pub warnings_in : List YaccGrammarWarning → List WarningText
warnings_in ws = map warning_of ws

-- as it is printed
abbrev pub warning_text : WarningKind → List ℕ
warning_text told.UnusedRule = codes "Unused rule"
warning_text told.UnusedToken = codes "Unused token"

-- one more name, where it isn't there yet
abbrev pub with_name : List (List ℕ) → List ℕ → List (List ℕ)
with_name names name = if list_any (bytes_eq name) names then names else names ++ name ∷ []

-- the names of those symbols that are wanted
abbrev pub with_symbol_name : (SymbolAst → Bool) → List (List ℕ) → SymbolAst → List (List ℕ)
with_symbol_name wanted names s = if wanted s then with_name names s.word.text else names

abbrev pub with_symbol_names : (SymbolAst → Bool) → List (List ℕ) → List SymbolAst → List (List ℕ)
with_symbol_names wanted names ss = fold (with_symbol_name wanted) names ss

abbrev pub is_rule_symbol : SymbolAst → Bool
is_rule_symbol s = not s.is_token

abbrev pub is_token_symbol : SymbolAst → Bool
is_token_symbol s = s.is_token

abbrev pub is_any_symbol : SymbolAst → Bool
is_any_symbol s = true

-- the symbols of the production of this number, and of all of these numbers
abbrev pub production_symbols : List ProductionAst → ℕ → List SymbolAst
production_symbols ps n = option_map_or (λ (p : ProductionAst). p.symbols) (slice_get ps n) []

abbrev pub symbols_of_all : List ProductionAst → List ℕ → List SymbolAst
symbols_of_all ps numbers = flat_map (production_symbols ps) numbers

-- the numbers of the productions of the rule of this name, and their symbols
abbrev pub numbers_under : Ast → List ℕ → List ℕ
numbers_under ast name = option_map_or (λ (r : RuleAst). r.productions) (rule_named ast.rules name) []

abbrev pub symbols_under : Ast → List ℕ → List SymbolAst
symbols_under ast name = symbols_of_all ast.productions (numbers_under ast name)

-- the names of all rules, and the start rule's, if there is one
abbrev pub rule_names : Ast → List (List ℕ)
rule_names ast = map (λ (r : RuleAst). r.name.text) ast.rules

abbrev pub start_names : Ast → List (List ℕ)
start_names ast = map (λ (w : WordText). w.text) (option_to_list ast.start)
