-- What may come at the errors of a parse.
use Rattle.std.specs.Prelude.{◌≡◌, ℕ, ⊤, Bool, List, [], ◌∷◌, ◌++◌, drop, map, Option, None, Some, slice_get, Vec}
use Rattle.std.specs.Global.{Global}
use Rattle.lr_theory.specs.Machine.{Config}
use Rattle.lrpar.specs.Checked.{ParserValue}
use Rattle.lrpar.specs.NextTokens.{AreNext, HasError, Reaches}
use Rattle.lrpar.specs.Prefixes.{grammar_in, machine_in, own}
use Rattle.lrpar.specs.declared.parse_error.ParseError.{ParseError}
use Rattle.parse_trees.specs.declared.parse_repair.ParseRepair.{ParseRepair}
use Rattle.parse_trees.specs.declared.parse_repair.ParseRepair.TheVariants as steps
use Rattle.lrkit_c.specs.Expecting.{numbers_of}
use Rattle.lrkit_c.specs.Marks.{error_marks}
use Rattle.lrkit_c.specs.Nodes.{TextLexeme}
use Rattle.lrkit_c.specs.declared.marks.LrkitMark.{LrkitMark}

-- how far lexemes are read: the tokens that a run shifted, and the lexemes that are left
pub record Reading : Type 0 where
  pub front : List ℕ
  pub left : List TextLexeme

abbrev pub tokens_in : List TextLexeme → List ℕ
tokens_in xs = map (λ (x : TextLexeme). x.tok_id) xs

-- the token can't come behind these
abbrev pub IsStuck : ParserValue → List ℕ → ℕ → Type 0
IsStuck d front t = HasError (grammar_in d) (machine_in d) own (front ++ t ∷ [])

-- the first lexeme that is left, if there is one, can't come
abbrev pub Stops : ParserValue → List ℕ → List TextLexeme → Type 0
Stops d front [] = ⊤
Stops d front (x ∷ left) = IsStuck d front x.tok_id

-- lexemes are read up to the first that can't come
pub record ReadsUpTo (d : ParserValue) (r r' : Reading) : Type 0 where
  pub read : List TextLexeme
  pub all : r.left ≡ read ++ r'.left
  pub shifted : r'.front ≡ r.front ++ tokens_in read
  pub stops : Stops d r'.front r'.left

-- a token is read, if it can come
pub data ReadsToken (d : ParserValue) (t : ℕ) (front front' : List ℕ) : Type 0 where
  shifted : front' ≡ front ++ t ∷ [] → ReadsToken d t front front'
  stuck : IsStuck d front t → front' ≡ front → ReadsToken d t front front'

-- an insertion reads its token, a deletion leaves the next lexeme out, and a shift reads it
abbrev pub TakesStep : ParserValue → ParseRepair TextLexeme ℕ → Reading → Reading → Type 0
TakesStep d (steps.Insert t) r r' = ReadsToken d t.0 r.front r'.front × (r'.left ≡ r.left)
TakesStep d (steps.Delete x) r r' = (r'.front ≡ r.front) × (r'.left ≡ drop 1 r.left)
TakesStep d (steps.Shift x) r r' = ReadsToken d x.tok_id r.front r'.front × (r'.left ≡ drop 1 r.left)

-- steps one after another
abbrev pub TakesSteps : ParserValue → List (ParseRepair TextLexeme ℕ) → Reading → Reading → Type 0
TakesSteps d [] r r' = r' ≡ r
TakesSteps d (s ∷ ss) r r' = (between : Reading) × TakesStep d s r between × TakesSteps d ss between r'

-- those of the first repair, if there is one
abbrev pub steps_or_none : Option (Vec (ParseRepair TextLexeme ℕ) Global) → List (ParseRepair TextLexeme ℕ)
steps_or_none None = []
steps_or_none (Some steps) = steps.items

abbrev pub first_steps : ParseError TextLexeme ℕ → List (ParseRepair TextLexeme ℕ)
first_steps e = steps_or_none (slice_get e.repairs.items 0)

-- the numbers of the tokens that may come behind these: those that a run shifts there, and the end token where it accepts
pub record AreNextOf (d : ParserValue) (front tokens : List ℕ) : Type 0 where
  pub bits : List Bool
  pub at : Config ℕ
  pub reaches : Reaches (grammar_in d) (machine_in d) own front [] at
  pub next : AreNext (grammar_in d) (machine_in d) own at bits
  pub are : tokens ≡ numbers_of bits

-- the marks of an error: with the tokens that may come where reading stops; it goes on behind the first repair
pub record MarksError (d : ParserValue) (e : ParseError TextLexeme ℕ) (r r' : Reading) (marks : List LrkitMark) : Type 0 where
  pub at : Reading
  pub reads : ReadsUpTo d r at
  pub tokens : List ℕ
  pub are_next : AreNextOf d at.front tokens
  pub takes : TakesSteps d (first_steps e) at r'
  pub are : marks ≡ error_marks tokens e

-- those of errors, in their order
abbrev pub MarksErrors : ParserValue → List (ParseError TextLexeme ℕ) → Reading → Reading → List LrkitMark → Type 0
MarksErrors d [] r r' marks = (r' ≡ r) × (marks ≡ [])
MarksErrors d (e ∷ es) r r' marks = (between : Reading) × (first : List LrkitMark) × (more : List LrkitMark) × MarksError d e r between first × MarksErrors d es between r' more × (marks ≡ first ++ more)
