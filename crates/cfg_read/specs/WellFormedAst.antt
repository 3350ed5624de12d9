-- The invariant of the syntax tree of a valid text.
use Rattle.std.specs.Prelude.{◌≡◌, ℕ, ◌<◌, Bool, true, false, ◌&&◌, ◌||◌, List, [], ◌∷◌, map, length, Some, IsSomeAnd, IfSome, slice_get, All, AllPairs, Contains, if◌then◌else◌}
use Rattle.std.specs.List.{list_all}
use Rattle.cfg_read.specs.Bytes.{is_name_start, is_name_byte}
use Rattle.cfg_read.specs.SyntaxTexts.{EppText}
use Rattle.cfg_read.specs.Names.{texts}
use Rattle.cfg_read.specs.FreshRules.{is_fresh_name}
use Rattle.cfg_read.specs.Asts.{SymbolAst, RuleAst, ProductionAst, PrecedenceAst, Ast}

-- the names of rules, of tokens, of tokens that have a precedence, and of those that have a printed text
abbrev pub names_of_rules : Ast → List (List ℕ)
names_of_rules ast = map (λ (r : RuleAst). r.name.text) ast.rules

abbrev pub names_of_tokens : Ast → List (List ℕ)
names_of_tokens ast = texts ast.tokens

abbrev pub names_of_precedences : Ast → List (List ℕ)
names_of_precedences ast = map (λ (p : PrecedenceAst). p.token.text) ast.precedences

abbrev pub names_of_epp : Ast → List (List ℕ)
names_of_epp ast = map (λ (e : EppText). e.token.text) ast.epp

-- equal names stand at one index
abbrev pub AreDistinct : List (List ℕ) → Type 0
AreDistinct names = (i j : ℕ) (name : List ℕ) → slice_get names i ≡ Some name → slice_get names j ≡ Some name → i ≡ j

-- precedences of one level have one kind
abbrev pub AstLevelsHaveOneKind : List PrecedenceAst → Type 0
AstLevelsHaveOneKind ps = (i j : ℕ) (p q : PrecedenceAst) → slice_get ps i ≡ Some p → slice_get ps j ≡ Some q → p.level ≡ q.level → p.kind ≡ q.kind

-- the rule at the index A lists the production p
pub record ListsProduction (ast : Ast) (A p : ℕ) : Type 0 where
  pub rule : RuleAst
  pub at : slice_get ast.rules A ≡ Some rule
  pub listed : Contains rule.productions p

-- a symbol that is a token names a token, and each other one a rule
abbrev pub NamesOne : Ast → SymbolAst → Type 0
NamesOne ast s = Contains (if s.is_token then names_of_tokens ast else names_of_rules ast) s.word.text

-- these words name tokens
abbrev pub NameTokens : Ast → List (List ℕ) → Type 0
NameTokens ast names = All (Contains (names_of_tokens ast)) names

pub record IsWellFormedAst (ast : Ast) : Type 0 where
  -- the start rule is a rule
  pub start : IsSomeAnd ast.start (λ w. Contains (names_of_rules ast) w.text)
  -- no name stands twice
  pub rules : AreDistinct (names_of_rules ast)
  pub tokens : AreDistinct (names_of_tokens ast)
  pub precedences : AreDistinct (names_of_precedences ast)
  pub epp : AreDistinct (names_of_epp ast)
  pub avoid_insert : AreDistinct (texts ast.avoid_insert)
  pub implicit_tokens : AreDistinct (texts ast.implicit_tokens)
  -- each level has one kind
  pub levels : AstLevelsHaveOneKind ast.precedences
  -- each production is listed by one rule, once, and nothing else is; each list ascends
  pub has_rule : (p : ℕ) → p < length ast.productions → (A : ℕ) × ListsProduction ast A p
  pub one_rule : (A B p : ℕ) → ListsProduction ast A p → ListsProduction ast B p → A ≡ B
  pub in_range : (A p : ℕ) → ListsProduction ast A p → p < length ast.productions
  pub ascend : All (λ (r : RuleAst). AllPairs (λ p q. p < q) r.productions) ast.rules
  -- what productions name is there
  pub symbols : All (λ (p : ProductionAst). All (NamesOne ast) p.symbols) ast.productions
  pub precs : All (λ (p : ProductionAst). IfSome p.precedence (Contains (names_of_precedences ast))) ast.productions
  -- and so is what declarations name
  pub implicit_are_tokens : NameTokens ast (texts ast.implicit_tokens)
  pub avoided_are_tokens : NameTokens ast (texts ast.avoid_insert)
  pub epp_are_tokens : NameTokens ast (names_of_epp ast)

-- a name of the file grammar: [A-Za-z_.], and then any of [A-Za-z0-9_.]
abbrev pub is_name_text : List ℕ → Bool
is_name_text [] = false
is_name_text (b ∷ bs) = is_name_start b && list_all is_name_byte bs

-- a name of a rule: such a name, or one that ends in `?`, as that of a fresh rule
abbrev pub is_rule_name : List ℕ → Bool
is_rule_name name = is_name_text name || is_fresh_name name

-- each rule has such a name
abbrev pub NamesAreWords : Ast → Type 0
NamesAreWords ast = All (λ (name : List ℕ). is_rule_name name ≡ true) (names_of_rules ast)
