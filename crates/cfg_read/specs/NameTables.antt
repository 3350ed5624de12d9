-- What a table of names tells, and how it grows.
use Rattle.std.specs.Prelude.{◌≡◌, ℕ, Bool, false, ◌||◌, ◌&&◌, List, [], ◌∷◌, length}
use Rattle.std.specs.Str.{bytes_eq}
use Rattle.cfg_read.specs.declared.yacc.name_table.Entry.{Entry}
use Rattle.cfg_read.specs.SyntaxTexts.{WordText, SyntaxText}
use Rattle.cfg_read.specs.Names.{is_named, is_among, distinct, with_distinct, by_offset, declared_tokens, implicit_tokens_of, is_rule}

-- which names `%token` declares, which ones rules have, and the tokens, each where it first stands
pub record KnownNames : Type 0 where
  pub declared : List ℕ → Bool
  pub rules : List ℕ → Bool
  pub tokens : List WordText

abbrev pub no_names : KnownNames
no_names = record { declared = λ q. false; rules = λ q. false; tokens = [] }

-- with one more declared name, name of a rule, and token
abbrev pub with_declared : KnownNames → WordText → KnownNames
with_declared k w = record { declared = λ q. k.declared q || is_named q w; rules = k.rules; tokens = k.tokens }

abbrev pub with_rule_name : KnownNames → WordText → KnownNames
with_rule_name k w = record { declared = k.declared; rules = λ q. k.rules q || is_named q w; tokens = k.tokens }

abbrev pub with_token : KnownNames → WordText → KnownNames
with_token k w = record { declared = k.declared; rules = k.rules; tokens = with_distinct k.tokens w }

-- what is known of a text before its alternatives
abbrev pub known_before : SyntaxText → KnownNames
known_before x = record { declared = is_among (declared_tokens x); rules = is_rule x; tokens = distinct (by_offset (declared_tokens x) (implicit_tokens_of x)) }

-- what stands for a name that stands for nothing
abbrev pub nothing : Entry
nothing = record { is_declared = false; is_rule = false; is_token = false; rule = 0; token = 0 }

-- whether a text is marked, where a mark stands for each of a list of texts
abbrev pub is_marked : (Entry → Bool) → List (List ℕ) → List Entry → List ℕ → Bool
is_marked mark [] es q = false
is_marked mark (t ∷ ts) [] q = false
is_marked mark (t ∷ ts) (e ∷ es) q = (bytes_eq q t && mark e) || is_marked mark ts es q

-- what a table keeps: texts, what stands for each, and the tokens
pub record TableParts : Type 0 where
  pub names : List (List ℕ)
  pub entries : List Entry
  pub tokens : List WordText

abbrev pub known_of : TableParts → KnownNames
known_of t = record { declared = is_marked (λ (e : Entry). e.is_declared) t.names t.entries; rules = is_marked (λ (e : Entry). e.is_rule) t.names t.entries; tokens = t.tokens }

-- a table of these texts, with what stands for each, knows these tokens
pub record IsTable (ts : List (List ℕ)) (es : List Entry) (tokens : List WordText) : Type 0 where
  pub size : length es ≡ length ts
  pub are_tokens : is_marked (λ (e : Entry). e.is_token) ts es ≡ is_among tokens
