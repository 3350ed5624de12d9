-- Why a text gives no kit.
use Rattle.std.specs.Prelude.{◌≡◌, ℕ, List, true, false, Some, None}
use Rattle.cfg_read.specs.declared.yacc.YaccKind.{YaccKind}
use Rattle.cfg_read.specs.ErrorModels.{failures_in}
use Rattle.cfg_read.specs.Files.{FailsToTell}
use Rattle.cfg_read.specs.ValidityInfo.{CheckedAst, IsChecked, is_valid}
use Rattle.cfg_numbered.specs.Value.{GrammarValue}
use Rattle.cfgrammar.specs.FromAst.{too_many}
use Rattle.parser_kit.specs.Kit.{grammar_of}
use Rattle.parser_kit.specs.Tabled.{HasTabledCause, IsTabledRefusal}
use Rattle.parser_kit.specs.TextKinds.{IsKindOfText}
use Rattle.parser_kit.specs.declared.grammar_kit_error.GrammarKitError.{GrammarKitError}
use Rattle.parser_kit.specs.declared.grammar_kit_error.GrammarKitError.TheVariants as tabled
use Rattle.parser_kit.specs.declared.kit_error.KitError.{KitError}
use Rattle.parser_kit.specs.declared.kit_error.KitError.TheVariants as errors

-- what is told of a grammar that has no kit
abbrev pub told_as : {S : Type 0} → GrammarKitError S → KitError S
told_as (tabled.TooManyStates n) = errors.TooManyStates n
told_as (tabled.AcceptReduce p) = errors.AcceptReduce p
told_as tabled.TooLarge = errors.TooLarge
told_as (tabled.TooManyReductions s r t c) = errors.TooManyReductions s r t c
told_as (tabled.Memory e) = errors.Memory e

-- the text is valid, and all counts of its grammar fit
abbrev pub HasFitting : ℕ → CheckedAst → Type 0
HasFitting top c = (is_valid c.errors ≡ true) × (too_many top (grammar_of c).grammar ≡ None)

-- What a refusal says of what is kept of a text: all that is wrong with it; of a valid one the first count that doesn't
-- fit; where all fit, P of its grammar.
abbrev pub IsKeptRefusal : {S : Type 0} → ℕ → CheckedAst → (GrammarValue → GrammarKitError S → Type 0) → KitError S → Type 0
IsKeptRefusal top c P (errors.Grammar es) = (is_valid c.errors ≡ false) × (failures_in es.items ≡ c.errors)
IsKeptRefusal top c P (errors.TooMany n) = (is_valid c.errors ≡ true) × (too_many top (grammar_of c).grammar ≡ Some n)
IsKeptRefusal top c P (errors.TooManyStates n) = HasFitting top c × P (grammar_of c) (tabled.TooManyStates n)
IsKeptRefusal top c P (errors.AcceptReduce p) = HasFitting top c × P (grammar_of c) (tabled.AcceptReduce p)
IsKeptRefusal top c P errors.TooLarge = HasFitting top c × P (grammar_of c) tabled.TooLarge
IsKeptRefusal top c P (errors.TooManyReductions s r t n) = HasFitting top c × P (grammar_of c) (tabled.TooManyReductions s r t n)
IsKeptRefusal top c P (errors.Memory e) = Unit {0}

-- or there was no memory
abbrev pub IsMemory : {S : Type 0} → KitError S → Type 0
IsMemory (errors.Grammar es) = ⊥
IsMemory (errors.TooMany n) = ⊥
IsMemory (errors.TooManyStates n) = ⊥
IsMemory (errors.AcceptReduce p) = ⊥
IsMemory errors.TooLarge = ⊥
IsMemory (errors.TooManyReductions s r t n) = ⊥
IsMemory (errors.Memory e) = Unit {0}

-- the same of what is kept of a text of a kind
pub data IsTextRefusal {S : Type 0} (top : ℕ) (kind : YaccKind) (text : List ℕ) (P : GrammarValue → GrammarKitError S → Type 0) (e : KitError S) : Type 0 where
  refused : (c : CheckedAst) → IsChecked kind text c → IsKeptRefusal top c P e → IsTextRefusal top kind text P e
  memory : IsMemory e → IsTextRefusal top kind text P e

-- why a text gives no kit, the first of these that is so
abbrev pub IsKitRefusal : {S : Type 0} → (S → ℕ) → ℕ → YaccKind → List ℕ → ℕ → KitError S → Type 0
IsKitRefusal number top kind text cap = IsTextRefusal top kind text (λ v. IsTabledRefusal number top v cap)

-- the same of canonical LR(1), with no word of how states are built
abbrev pub HasKitCause : {S : Type 0} → (S → ℕ) → ℕ → YaccKind → List ℕ → KitError S → Type 0
HasKitCause number top kind text = IsTextRefusal top kind text (λ v. HasTabledCause number top v)

-- what keeps a text from telling its kind, unless there was no memory
abbrev pub IsUntold : {S : Type 0} → List ℕ → KitError S → Type 0
IsUntold text (errors.Grammar es) = FailsToTell text (failures_in es.items)
IsUntold text (errors.TooMany n) = ⊥
IsUntold text (errors.TooManyStates n) = ⊥
IsUntold text (errors.AcceptReduce p) = ⊥
IsUntold text errors.TooLarge = ⊥
IsUntold text (errors.TooManyReductions s r t n) = ⊥
IsUntold text (errors.Memory e) = Unit {0}

-- why a text whose section may tell its kind gives no kit: it fails to tell it; or P of its kind
pub data IsToldRefusal {S : Type 0} (text : List ℕ) (P : YaccKind → KitError S → Type 0) (e : KitError S) : Type 0 where
  untold : IsUntold text e → IsToldRefusal text P e
  of_kind : (kind : YaccKind) → IsKindOfText text kind → P kind e → IsToldRefusal text P e
