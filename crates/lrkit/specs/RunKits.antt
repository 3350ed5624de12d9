-- The kit of a run: of which kind its text is taken, and how many conflicts may be listed.
use Rattle.std.specs.Prelude.{◌≡◌, ℕ, List, length, unwrap_or, Option, None, Some}
use Rattle.cfg_read.specs.declared.yacc.YaccKind.{YaccKind}
use Rattle.cfg_read.specs.ValidityInfo.{CheckedAst}
use Rattle.table_theory.specs.Cells.{Conflicts}
use Rattle.lrpar.specs.Checked.{ParserValue}
use Rattle.parser_kit.specs.Kit.{IsKitOf}
use Rattle.parser_kit.specs.KitErrors.{HasKitCause, IsKitRefusal, IsToldRefusal}
use Rattle.parser_kit.specs.TextKinds.{IsKindOfText}
use Rattle.parser_kit.specs.declared.kit_error.KitError.{KitError}
use Rattle.lrkit.specs.declared.fault.RunFault.{RunFault}
use Rattle.lrkit.specs.declared.fault.RunFault.TheVariants as faults

-- the greatest number of a rule, a production, a token or a state
abbrev pub top : ℕ
top = 4294967295

abbrev pub cap : ℕ
cap = 1000

-- the kit of a text, of the kind that its section tells, or else the default one; what is kept of the text is dropped
pub record IsRunKit (text : List ℕ) (k : ParserValue) : Type 0 where
  pub kind : YaccKind
  pub is_kind : IsKindOfText text kind
  pub kept : CheckedAst
  pub is_kit : IsKitOf top kind text cap (record { kept = kept; parser = k })

-- why a text gives no kit: the first thing that is so of it, and the same of canonical LR(1)
pub record IsRunKitRefusal (text : List ℕ) (e : KitError ℕ) : Type 0 where
  pub refused : IsToldRefusal text (λ kind. IsKitRefusal (λ n. n) top kind text cap) e
  pub cause : IsToldRefusal text (λ kind. HasKitCause (λ n. n) top kind text) e

abbrev pub expect_of : ParserValue → ℕ
expect_of k = unwrap_or k.grammar.kept.expect 0

abbrev pub expect_rr_of : ParserValue → ℕ
expect_rr_of k = unwrap_or k.grammar.kept.expect_rr 0

-- these conflicts are as many as is expected of the kit
abbrev pub CountsFit : ParserValue → Option Conflicts → Type 0
CountsFit k None = Unit {0}
CountsFit k (Some c) = (length c.shift_reduce ≡ expect_of k) × (length c.reduce_reduce ≡ expect_rr_of k)

abbrev pub AreExpected : ParserValue → Type 0
AreExpected k = CountsFit k k.table.conflicts

-- or so many are listed, and so many were expected
abbrev pub HasOtherCounts : ParserValue → RunFault → Type 0
HasOtherCounts k (faults.Conflicts sr rr x y) = (AreExpected k → ⊥) × (x ≡ expect_of k) × (y ≡ expect_rr_of k) ×
    ((c : Conflicts) × (k.table.conflicts ≡ Some c) × (sr ≡ length c.shift_reduce) × (rr ≡ length c.reduce_reduce))
HasOtherCounts k e = ⊥
