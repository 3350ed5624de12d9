-- Rules by tokens, and the items of a lexer's list.
use Rattle.std.specs.Prelude.{◌≡◌, ℕ, zero, suc, ◌+◌, ◌==◌, Bool, true, false, if◌then◌else◌, ◌++◌, List, [], ◌∷◌, map, Option, None, Some, Result, Ok, Err, slice_index_or, option_map, string_bytes}
use Rattle.cfg_base.specs.declared.symbol.TIdx.{TIdx}
use Rattle.cfg_numbered.specs.Value.{GrammarValue, IsTokenNamed}
use Rattle.maximal_munch.specs.RuleValues.{RuleSetValue, rule_set_of}
use Rattle.regex.specs.Strings.{regex_pattern}
use Rattle.regex.specs.declared.string.regex.Regex.{Regex}
use Rattle.maximal_munch.specs.declared.rules.Target.{Target}
use Rattle.maximal_munch.specs.Munching.{Munches}
use Rattle.maximal_munch.specs.declared.munching.Part.{Part}
use Rattle.maximal_munch.specs.declared.munching.Ending.{Ending}
use Rattle.maximal_munch.specs.declared.munching.Ending.TheVariants as endings
use Rattle.lrpar.specs.declared.default_lexeme.DefaultLexeme.{DefaultLexeme}
use Rattle.lrlex.specs.declared.lex_error.LRLexError.{LRLexError}
use Rattle.lrlex.specs.declared.lex_error.LexErrorKind.{LexErrorKind}
use Rattle.lrlex.specs.declared.lex_error.LexErrorKind.TheVariants as kinds
use Rattle.lrlex.specs.Expressions.{SearchesFor}
use Rattle.lrlex.specs.declared.bound.BoundRules.{BoundRules}
use Rattle.lrlex.specs.declared.rules.LexRules.{LexRules}
use Rattle.lrlex.specs.declared.bound.Meaning.{Meaning}
use Rattle.lrlex.specs.declared.bound.Meaning.TheVariants.{Skipped, Token, Unknown}

-- what is searched for, where, and what follows
abbrev pub rules_of : LexRules → RuleSetValue
rules_of r = rule_set_of r.set

-- the names of the rules; one without a name is skipped
abbrev pub names_of : LexRules → List (Option (List ℕ))
names_of r = map (option_map string_bytes) r.names.items

-- a rule for the expression comes behind the others
abbrev pub AddsRule : List ℕ → List ℕ → Target → RuleSetValue → RuleSetValue → Type 0
AddsRule expression conditions target old new =
    (r : Regex) × SearchesFor expression r
    × (new ≡ record old { rules = old.rules ++ record { pattern = regex_pattern r; conditions = conditions; target = target } ∷ [] })

abbrev pub bound_rules : {S : Type 0} → BoundRules S → RuleSetValue
bound_rules b = rules_of b.rules.now

abbrev pub bound_meanings : {S : Type 0} → BoundRules S → List (Meaning S)
bound_meanings b = b.meanings.items

-- the numbers below n that pass, ascending
abbrev pub numbers_below : (ℕ → Bool) → ℕ → List ℕ
numbers_below p zero = []
numbers_below p (suc n) = numbers_below p n ++ (if p n then n ∷ [] else [])

-- what rule k is; one that isn't there has no name that is a token's
abbrev pub meaning_at : {S : Type 0} → List (Meaning S) → ℕ → Meaning S
meaning_at meanings k = slice_index_or meanings k Unknown

abbrev pub is_unknown : {S : Type 0} → Meaning S → Bool
is_unknown Unknown = true
is_unknown Skipped = false
is_unknown (Token t) = false

-- the rule is for token k
abbrev pub is_token : {S : Type 0} → (S → ℕ) → ℕ → Meaning S → Bool
is_token number k (Token t) = number t.0 == k
is_token number k Skipped = false
is_token number k Unknown = false

-- what a rule of this name is for a grammar
abbrev pub Means : {S : Type 0} → (S → ℕ) → GrammarValue → Option (List ℕ) → Meaning S → Type 0
Means number g None Skipped = Unit {0}
Means number g None (Token t) = ⊥
Means number g None Unknown = ⊥
Means number g (Some name) Skipped = ⊥
Means number g (Some name) (Token t) = IsTokenNamed g (number t.0) name
Means number g (Some name) Unknown = (t : ℕ) → IsTokenNamed g t name → ⊥

-- the same of each
abbrev pub AreMeanings : {S : Type 0} → (S → ℕ) → GrammarValue → List (Option (List ℕ)) → List (Meaning S) → Type 0
AreMeanings number g [] [] = Unit {0}
AreMeanings number g [] (m ∷ ms) = ⊥
AreMeanings number g (n ∷ ns) [] = ⊥
AreMeanings number g (n ∷ ns) (m ∷ ms) = Means number g n m × AreMeanings number g ns ms

abbrev pub error_at : LexErrorKind → ℕ → LRLexError
error_at kind at = record { span = record { start = at; end = at }; kind = kind }

abbrev pub lexeme_at : {S : Type 0} → TIdx S → Part → DefaultLexeme S
lexeme_at t p = record { tok_id = t.0; span = record { start = p.start; end = p.start + p.len }; faulty = false }

-- at the end of the list
abbrev pub last_items : {S : Type 0} → Ending → List (Result (DefaultLexeme S) LRLexError)
last_items endings.Finished = []
last_items (endings.NoMatch at) = Err (error_at kinds.NoMatch at) ∷ []

-- the part of a rule with this meaning, in front of these items: nothing, a lexeme, or an error that is the last item
abbrev pub put_part : {S : Type 0} → Meaning S → Part → List (Result (DefaultLexeme S) LRLexError) → List (Result (DefaultLexeme S) LRLexError)
put_part Skipped p items = items
put_part (Token t) p items = Ok (lexeme_at t p) ∷ items
put_part Unknown p items = Err (error_at kinds.UnknownName p.start) ∷ []

-- the items of parts, of which the lexing ends so
abbrev pub items_of : {S : Type 0} → List (Meaning S) → List Part → Ending → List (Result (DefaultLexeme S) LRLexError)
items_of meanings [] e = last_items e
items_of meanings (p ∷ ps) e = put_part (meaning_at meanings p.rule) p (items_of meanings ps e)

-- the text's items, by rules that mean this: those of its parts by maximal munch
pub record Lexes {S : Type 0} (rules : RuleSetValue) (meanings : List (Meaning S)) (text : List ℕ) (items : List (Result (DefaultLexeme S) LRLexError)) : Type 0 where
  pub parts : List Part
  pub ending : Ending
  pub munches : Munches rules text parts ending
  pub are : items ≡ items_of meanings parts ending
