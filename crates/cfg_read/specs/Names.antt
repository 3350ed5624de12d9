-- What the names of a file stand for: rules and tokens.
use Rattle.std.specs.Prelude.{ℕ, Bool, not, ◌||◌, nat_lt, List, [], ◌∷◌, ◌++◌, map, filter, fold, if◌then◌else◌}
use Rattle.std.specs.List.{flat_map, list_any}
use Rattle.std.specs.Str.{bytes_eq}
use Rattle.cfg_read.specs.SyntaxTexts.{WordText, SymbolText, AlternativeText, RuleText, LevelText, SyntaxText}

abbrev pub is_named : List ℕ → WordText → Bool
is_named name w = bytes_eq name w.text

-- whether one of the words is this name
abbrev pub is_among : List WordText → List ℕ → Bool
is_among ws name = list_any (is_named name) ws

abbrev pub texts : List WordText → List (List ℕ)
texts ws = map (λ (w : WordText). w.text) ws

abbrev pub with_distinct : List WordText → WordText → List WordText
with_distinct ws w = if is_among ws w.text then ws else ws ++ w ∷ []

-- each name once, where it first stands
abbrev pub distinct : List WordText → List WordText
distinct ws = fold with_distinct [] ws

-- a word before the next of the second list that stands later
abbrev pub put_by_offset : WordText → (List WordText → List WordText) → List WordText → List WordText
put_by_offset v rest [] = v ∷ rest []
put_by_offset v rest (w ∷ ws) = if nat_lt w.span.start v.span.start then w ∷ put_by_offset v rest ws else v ∷ rest (w ∷ ws)

-- two lists, each in the order of the text, as one in this order
abbrev pub by_offset : List WordText → List WordText → List WordText
by_offset [] ws = ws
by_offset (v ∷ vs) ws = put_by_offset v (by_offset vs) ws

abbrev pub words_in : List SymbolText → List WordText
words_in ss = map (λ (s : SymbolText). s.word) ss

-- the tokens of `%token`, of `%implicit_tokens` and of `%avoid_insert`, in order
abbrev pub declared_tokens : SyntaxText → List WordText
declared_tokens x = words_in x.tokens

abbrev pub implicit_tokens_of : SyntaxText → List WordText
implicit_tokens_of x = flat_map words_in x.implicit_tokens

abbrev pub avoided_tokens : SyntaxText → List WordText
avoided_tokens x = flat_map words_in x.avoid_insert

-- the headings of rules, and whether a name is that of one
abbrev pub headings : SyntaxText → List WordText
headings x = map (λ (r : RuleText). r.name) x.rules

abbrev pub is_rule : SyntaxText → List ℕ → Bool
is_rule x name = is_among (headings x) name

-- all symbols of alternatives, in the order of the text
abbrev pub symbols_in : RuleText → List SymbolText
symbols_in r = flat_map (λ (a : AlternativeText). a.symbols) r.alternatives

abbrev pub symbols_used : SyntaxText → List SymbolText
symbols_used x = flat_map symbols_in x.rules

-- A quoted symbol of an alternative is a token, and so is a name that some `%token` declares, with quotes or without.
abbrev pub is_token_by : (List ℕ → Bool) → SymbolText → Bool
is_token_by declared s = s.is_quoted || declared s.word.text

abbrev pub is_token : SyntaxText → SymbolText → Bool
is_token x = is_token_by (is_among (declared_tokens x))

abbrev pub tokens_by : (List ℕ → Bool) → List SymbolText → List WordText
tokens_by declared ss = words_in (filter (is_token_by declared) ss)

abbrev pub tokens_used : SyntaxText → List WordText
tokens_used x = tokens_by (is_among (declared_tokens x)) (symbols_used x)

-- the others name rules
abbrev pub rules_by : (List ℕ → Bool) → List SymbolText → List WordText
rules_by declared ss = words_in (filter (λ (s : SymbolText). not (is_token_by declared s)) ss)

abbrev pub rules_used : SyntaxText → List WordText
rules_used x = rules_by (is_among (declared_tokens x)) (symbols_used x)

-- Every appearance of a token in `%token`, `%implicit_tokens` and alternatives, in the order of the text.
abbrev pub token_appearances : SyntaxText → List WordText
token_appearances x = by_offset (declared_tokens x) (implicit_tokens_of x) ++ tokens_used x

-- the tokens of the grammar, each where it first appears
abbrev pub tokens_of : SyntaxText → List WordText
tokens_of x = distinct (token_appearances x)

abbrev pub is_grammar_token : SyntaxText → List ℕ → Bool
is_grammar_token x name = is_among (token_appearances x) name

-- the tokens of precedence lines, in order
abbrev pub level_tokens : SyntaxText → List WordText
level_tokens x = flat_map (λ (l : LevelText). words_in l.tokens) x.levels
