-- What the tests of an alternative so far say of it.
use Rattle.std.proofs.Common.{◌≡◌, ◌≢◌, ℕ, ◌<◌, ◌≤◌, Bool, true, false, not, ◌&&◌, List, [], ◌∷◌, length, Option, Some, None, refl, arith}
use Rattle.std.specs.Prelude.{map, option_map}
use Rattle.std.specs.Option.{is_some, is_none}
use Rattle.cfg_base.specs.SpanModel.{SpanModel}
use Rattle.cfg_read.specs.declared.yacc.parser.scan.TokenKind.{TokenKind}
use Rattle.cfg_read.specs.declared.yacc.parser.scan.TokenKind.TheVariants as tokens
use Rattle.cfg_read.specs.declared.yacc.parser.error.YaccGrammarErrorKind.{YaccGrammarErrorKind}
use Rattle.cfg_read.specs.declared.yacc.parser.error.YaccGrammarErrorKind.TheVariants as faults
use Rattle.cfg_read.specs.SyntaxTexts.{WordText, SymbolText}
use Rattle.cfg_read.specs.SyntaxUpdates.{no_part}
use Rattle.cfg_read.specs.SyntaxErrors.{name_fault, token_fault}
use Rattle.cfg_read.specs.Scanning.{StartsBy, begins_token, begins_name}

pub map_is_none : {A B : Type 0} (f : A → B) (o : Option A) → is_none (option_map f o) ≡ is_none o
map_is_none f None = refl
map_is_none f (Some x) = refl

pub map_nil : {A B : Type 0} (f : A → B) (xs : List A) → length xs ≡ 0 → map f xs ≡ []
map_nil f [] h = refl
map_nil f (x ∷ xs) h = absurd (omega arith)

pub blank : (ss : List SymbolText) (e : Bool) (p a : Option WordText) (s : Option SpanModel) → ss ≡ [] → is_none s ≡ true → (not e && (is_none p && is_none a)) ≡ true
    → record { symbols = ss; is_empty = e; precedence = p; action = a; span = s } ≡ no_part
blank [] false None None None h i j = refl
blank (x ∷ ss) e p a s h i j = absurd cc
blank [] true p a s h i j = absurd cc
blank [] false (Some w) a s h i j = absurd cc
blank [] false None (Some w) s h i j = absurd cc
blank [] false None None (Some x) h i j = absurd cc

pub map_cons : {A B : Type 0} (f : A → B) (xs : List A) → 0 < length xs → map f xs ≢ []
map_cons f [] h e = absurd (omega arith)
map_cons f (x ∷ xs) h e = absurd cc

pub starts_later : (o : Option SpanModel) (a b : ℕ) → a ≤ b → StartsBy o a → StartsBy o b
starts_later None a b le h = tt
starts_later (Some s) a b le h = omega arith

pub some_is : {A : Type 0} (o : Option A) → is_some o ≡ true → is_none o ≡ false
some_is None h = absurd cc
some_is (Some x) h = refl

pub none_is : {A : Type 0} (o : Option A) → is_some o ≡ false → is_none o ≡ true
none_is None h = refl
none_is (Some x) h = absurd cc

pub both_hold : (n o : Bool) → not n && o ≡ true → (n ≡ false) × (o ≡ true)
both_hold true o h = absurd cc
both_hold false true h = (refl, refl)
both_hold false false h = absurd cc

pub no_token : (m : TokenKind) → begins_token m ≡ false → (e : YaccGrammarErrorKind) × (token_fault m ≡ Some e)
no_token (tokens.Name b) h = absurd cc
no_token (tokens.Quoted b) h = absurd cc
no_token tokens.OpenQuote h = (faults.IllegalString, refl)
no_token _ h = (faults.IllegalName, refl)

pub token_begins : (m : TokenKind) → begins_token m ≡ true → token_fault m ≡ None
token_begins (tokens.Name b) h = refl
token_begins (tokens.Quoted b) h = refl
token_begins _ h = absurd cc

pub nothing_wrong : (k : YaccGrammarErrorKind) → None ≡ Some k → ⊥
nothing_wrong k h = absurd cc

pub named : (m : TokenKind) (k : YaccGrammarErrorKind) → begins_name m ≡ true → name_fault m ≡ Some k → ⊥
named (tokens.Name b) k h e = absurd cc
named _ k h e = absurd cc
