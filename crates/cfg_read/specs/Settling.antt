-- What is collected while the alternatives of a text become productions.
use Rattle.std.specs.Prelude.{◌≡◌, ℕ, Bool, List, [], ◌∷◌, ◌++◌, map, fold, if◌then◌else◌}
use Rattle.std.specs.Str.{bytes_eq}
use Rattle.std.specs.List.{list_any}
use Rattle.std.specs.String.{string_bytes}
use Rattle.std.specs.declared.alloc.Global.{Global}
use Rattle.std.specs.declared.string.String.{String}
use Rattle.indexmap.specs.IndexMap.{IndexMap}
use Rattle.cfg_base.specs.SpanModel.{SpanModel}
use Rattle.cfg_read.specs.declared.yacc.name.Name.{Name}
use Rattle.cfg_read.specs.declared.yacc.ast.settle.Fresh.{Fresh}
use Rattle.cfg_read.specs.declared.yacc.ast.settle.Uses.{Uses}
use Rattle.cfg_read.specs.SyntaxTexts.{WordText, SymbolText, SyntaxText}
use Rattle.cfg_read.specs.Names.{is_among, declared_tokens, is_rule, tokens_of, rules_used, is_token_by}
use Rattle.cfg_read.specs.Asts.{SymbolAst, plain_symbol_ast}
use Rattle.cfg_read.specs.AstModels.{ast_symbol_of}
use Rattle.cfg_read.specs.FreshRules.{FreshText, fresh_by, fresh_of}
use Rattle.cfg_read.specs.NameTexts.{name_text}
use Rattle.cfg_read.specs.NameTables.{KnownNames, known_of, with_token}
use Rattle.cfg_read.specs.Validity.{without}

-- a fresh rule: its name where it first stands, and the symbol of its first production
pub record FreshAst : Type 0 where
  pub word : WordText
  pub inner : SymbolAst

abbrev pub fresh_ast : (List ℕ → Bool) → FreshText → FreshAst
fresh_ast declared f = record { word = f.word; inner = plain_symbol_ast declared f.symbol }

-- each name once
abbrev pub has_fresh_ast : List FreshAst → List ℕ → Bool
has_fresh_ast fs name = list_any (λ (f : FreshAst). bytes_eq name f.word.text) fs

abbrev pub with_fresh_ast : List FreshAst → FreshAst → List FreshAst
with_fresh_ast fs f = if has_fresh_ast fs f.word.text then fs else fs ++ f ∷ []

-- what names stand for, those that stand for nothing, and the fresh rules
pub record UsesText : Type 0 where
  pub known : KnownNames
  pub unknown : List WordText
  pub fresh : List FreshAst

-- one more symbol of an alternative
abbrev pub with_symbol : UsesText → SymbolText → UsesText
with_symbol u s = record {
  known = if is_token_by u.known.declared s then with_token u.known s.word else u.known;
  unknown = if is_token_by u.known.declared s then u.unknown else u.unknown ++ without u.known.rules (s.word ∷ []);
  fresh = fold with_fresh_ast u.fresh (map (fresh_ast u.known.declared) (fresh_by u.known.declared s));
}

abbrev pub with_symbols : UsesText → List SymbolText → UsesText
with_symbols u ss = fold with_symbol u ss

-- those of the program
abbrev pub unknown_word : Name × SpanModel → WordText
unknown_word e = record { text = name_text e.0; span = e.1 }

abbrev pub unknown_words : List (Name × SpanModel) → List WordText
unknown_words es = map unknown_word es

abbrev pub fresh_entry : String Global × Fresh → FreshAst
fresh_entry e = record { word = record { text = string_bytes e.0; span = e.1.span }; inner = ast_symbol_of e.1.inner }

abbrev pub named_fresh : {S : Type 0} → IndexMap (String Global) Fresh S → List FreshAst
named_fresh m = map fresh_entry m.entries

abbrev pub uses_of : Uses → UsesText
uses_of u = record { known = known_of u.table; unknown = unknown_words u.unknown.items; fresh = named_fresh u.fresh }

-- what there is of a whole text
pub record AreUsesOf (x : SyntaxText) (u : UsesText) : Type 0 where
  pub declared_is : u.known.declared ≡ is_among (declared_tokens x)
  pub rules_is : u.known.rules ≡ is_rule x
  pub tokens_is : u.known.tokens ≡ tokens_of x
  pub unknown_is : u.unknown ≡ without (is_rule x) (rules_used x)
  pub fresh_is : u.fresh ≡ map (fresh_ast (is_among (declared_tokens x))) (fresh_of x)
