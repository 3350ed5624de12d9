-- What a valid text declares and doesn't use.
use Rattle.std.specs.Prelude.{◌≡◌, ℕ, Bool, true, false, not, ◌&&◌, ◌||◌, ◌↔◌, IsTrue, List, [], ◌∷◌, ◌++◌, map, filter, Some, Contains, slice_get}
use Rattle.std.specs.List.{list_any}
use Rattle.std.specs.Str.{bytes_eq}
use Rattle.cfg_base.specs.SpanModel.{SpanModel}
use Rattle.cfg_read.specs.SyntaxTexts.{WordText}
use Rattle.cfg_read.specs.Names.{is_among}
use Rattle.cfg_read.specs.FreshRules.{is_fresh_name}
use Rattle.cfg_read.specs.Asts.{Ast, RuleAst, ProductionAst, SymbolAst}

-- this symbol stands in an alternative of the rule of this name
pub record Uses (ast : Ast) (name : List ℕ) (s : SymbolAst) : Type 0 where
  pub rule : RuleAst
  pub is_rule : Contains ast.rules rule
  pub is_named : rule.name.text ≡ name
  pub number : ℕ
  pub is_its : Contains rule.productions number
  pub production : ProductionAst
  pub at : slice_get ast.productions number ≡ Some production
  pub stands : Contains production.symbols s

-- The start rule is reached, and each rule that stands in an alternative of a reached one.
pub data IsReached (ast : Ast) : List ℕ → Type 0 where
  at_start : {w : WordText} → ast.start ≡ Some w → IsReached ast w.text
  in_reached : {name : List ℕ} {s : SymbolAst} → IsReached ast name → Uses ast name s → s.is_token ≡ false → IsReached ast s.word.text

-- a token that stands in an alternative of a reached rule
pub record IsUsed (ast : Ast) (token : List ℕ) : Type 0 where
  pub name : List ℕ
  pub reached : IsReached ast name
  pub symbol : SymbolAst
  pub uses : Uses ast name symbol
  pub is_token : symbol.is_token ≡ true
  pub is_it : symbol.word.text ≡ token

pub data WarningKind : Type 0 where
  UnusedRule : WarningKind
  UnusedToken : WarningKind

pub record WarningText : Type 0 where
  pub kind : WarningKind
  pub spans : List SpanModel

-- whether one of these symbols of `%expect-unused` is this name, for a rule without quotes
abbrev pub expects_rule : List SymbolAst → List ℕ → Bool
expects_rule ss name = list_any (λ (s : SymbolAst). not s.is_token && bytes_eq name s.word.text) ss

abbrev pub expects_token : List SymbolAst → List ℕ → Bool
expects_token ss name = list_any (λ (s : SymbolAst). bytes_eq name s.word.text) ss

abbrev pub is_expected_rule : Ast → List ℕ → Bool
is_expected_rule ast = expects_rule ast.expect_unused

abbrev pub is_expected_token : Ast → List ℕ → Bool
is_expected_token ast = expects_token ast.expect_unused

abbrev pub warnings_at : WarningKind → List WordText → List WarningText
warnings_at k ws = map (λ (w : WordText). record { kind = k; spans = w.span ∷ [] }) ws

-- Where these tell which rules are reached and which tokens used: by number the unused rules that aren't fresh, and the
-- unused tokens that aren't implicit; none that is expected.
abbrev pub unused_rules : (List ℕ → Bool) → Ast → List WordText
unused_rules reached ast = filter (λ (w : WordText). not (is_fresh_name w.text || (reached w.text || is_expected_rule ast w.text))) (map (λ (r : RuleAst). r.name) ast.rules)

abbrev pub unused_tokens : (List ℕ → Bool) → Ast → List WordText
unused_tokens used ast = filter (λ (w : WordText). not (used w.text || (is_among ast.implicit_tokens w.text || is_expected_token ast w.text))) ast.tokens

-- the warnings, first those of rules
abbrev pub warnings_by : (List ℕ → Bool) → (List ℕ → Bool) → Ast → List WarningText
warnings_by reached used ast = warnings_at UnusedRule (unused_rules reached ast) ++ warnings_at UnusedToken (unused_tokens used ast)

-- these are all unused rules and tokens
pub record AreUnused (ast : Ast) (ws : List WarningText) : Type 0 where
  pub reached : List ℕ → Bool
  pub reached_is : (name : List ℕ) → IsTrue (reached name) ↔ IsReached ast name
  pub used : List ℕ → Bool
  pub used_is : (name : List ℕ) → IsTrue (used name) ↔ IsUsed ast name
  pub all : ws ≡ warnings_by reached used ast

-- none of a text that isn't valid
pub record AreWarnings (ast : Ast) (ws : List WarningText) : Type 0 where
  pub of_valid : ast.is_valid ≡ true → AreUnused ast ws
  pub of_invalid : ast.is_valid ≡ false → ws ≡ []
