-- The fresh rules that optional symbols stand for: each has the symbol for its first production and nothing for its second.
use Rattle.std.specs.Prelude.{ℕ, Bool, true, false, ◌==◌, List, [], ◌∷◌, ◌++◌, map, fold, Option, None, Some, codes, if◌then◌else◌}
use Rattle.std.specs.List.{flat_map, list_any}
use Rattle.std.specs.Str.{bytes_eq}
use Rattle.cfg_base.specs.SpanModel.{SpanModel}
use Rattle.cfg_read.specs.SyntaxTexts.{WordText, SymbolText, SyntaxText}
use Rattle.cfg_read.specs.Names.{is_among, distinct, headings, declared_tokens, symbols_used, is_token_by}

-- an optional symbol, and the name of its fresh rule with the span of the symbol and its `?`
pub record FreshText : Type 0 where
  pub word : WordText
  pub symbol : SymbolText

-- The fresh rule of a token X is named `'X'?`, however X is written, and that of a rule X is named `X?`.
abbrev pub fresh_name : Bool → List ℕ → List ℕ
fresh_name true name = codes "'" ++ (name ++ codes "'?")
fresh_name false name = name ++ codes "?"

abbrev pub fresh_word : (List ℕ → Bool) → SymbolText → SpanModel → WordText
fresh_word declared s at = record { text = fresh_name (is_token_by declared s) s.word.text; span = at }

-- those of these symbols that are optional, where `declared` tells the names of `%token`
abbrev pub fresh_at : (List ℕ → Bool) → SymbolText → Option SpanModel → List FreshText
fresh_at declared s None = []
fresh_at declared s (Some at) = record { word = fresh_word declared s at; symbol = s } ∷ []

abbrev pub fresh_by : (List ℕ → Bool) → SymbolText → List FreshText
fresh_by declared s = fresh_at declared s s.optional

abbrev pub optional_in : (List ℕ → Bool) → List SymbolText → List FreshText
optional_in declared ss = flat_map (fresh_by declared) ss

-- each name of a fresh rule once, where it first stands
abbrev pub has_fresh : List FreshText → List ℕ → Bool
has_fresh fs name = list_any (λ (f : FreshText). bytes_eq name f.word.text) fs

abbrev pub with_fresh : List FreshText → FreshText → List FreshText
with_fresh fs f = if has_fresh fs f.word.text then fs else fs ++ f ∷ []

abbrev pub fresh_in : (List ℕ → Bool) → List SymbolText → List FreshText
fresh_in declared ss = fold with_fresh [] (optional_in declared ss)

-- the fresh rules of a text, in the order of their first appearances
abbrev pub fresh_of : SyntaxText → List FreshText
fresh_of x = fresh_in (is_among (declared_tokens x)) (symbols_used x)

abbrev pub fresh_words : SyntaxText → List WordText
fresh_words x = map (λ (f : FreshText). f.word) (fresh_of x)

-- The names of the rules: first those of headings, then the fresh ones.
abbrev pub rule_words : SyntaxText → List WordText
rule_words x = distinct (headings x ++ fresh_words x)

-- Whether a name ends in `?`. That of a fresh rule does, and no name of the file grammar.
abbrev pub is_fresh_name : List ℕ → Bool
is_fresh_name [] = false
is_fresh_name (b ∷ []) = b == 63
is_fresh_name (b ∷ c ∷ bs) = is_fresh_name (c ∷ bs)
