-- What a report says of a text.
use Rattle.std.specs.Prelude.{◌≡◌, ℕ, List, length, unwrap_or, Option, None, Some}
use Rattle.cfg_theory.specs.Derivation.{IsProductive}
use Rattle.cfg_read.specs.declared.yacc.YaccKind.{YaccKind}
use Rattle.table_theory.specs.Cells.{Conflicts}
use Rattle.parser_kit.specs.Kit.{IsKitOf, KitValue}
use Rattle.parser_kit.specs.KitErrors.{IsKitRefusal, IsMemory, IsToldRefusal}
use Rattle.parser_kit.specs.TextKinds.{IsKindOfText}
use Rattle.parser_kit.specs.declared.kit_error.KitError.{KitError}
use Rattle.grammar_report.specs.declared.counts.Counts.{Counts}
use Rattle.grammar_report.specs.declared.outcome.Outcome.{Outcome}
use Rattle.grammar_report.specs.declared.outcome.Outcome.TheVariants.{Barren, Expected, Invalid, Unexpected}

-- the greatest number of a rule, a production, a token or a state
abbrev pub top : ℕ
top = 4294967295

abbrev pub cap : ℕ
cap = 1000

-- the kit of a text, of the kind that its section tells, or else the default one
pub record IsKitIn (text : List ℕ) (k : KitValue) : Type 0 where
  pub kind : YaccKind
  pub is_kind : IsKindOfText text kind
  pub is_kit : IsKitOf top kind text cap k

abbrev pub expect_of : KitValue → ℕ
expect_of k = unwrap_or k.parser.grammar.kept.expect 0

abbrev pub expect_rr_of : KitValue → ℕ
expect_rr_of k = unwrap_or k.parser.grammar.kept.expect_rr 0

-- these conflicts are as many as is expected of the kit; where none is listed, no number is asked for
abbrev pub CountsFit : KitValue → Option Conflicts → Type 0
CountsFit k None = Unit {0}
CountsFit k (Some c) = (length c.shift_reduce ≡ expect_of k) × (length c.reduce_reduce ≡ expect_rr_of k)

abbrev pub AreExpected : KitValue → Type 0
AreExpected k = CountsFit k k.parser.table.conflicts

-- the start rule derives a token list
abbrev pub HasSentences : KitValue → Type 0
HasSentences k = IsProductive k.parser.grammar.grammar 0

-- whether the conflicts of a kit are expected
abbrev pub TellsExpected : KitValue → Outcome → Type 0
TellsExpected k Expected = AreExpected k
TellsExpected k Unexpected = AreExpected k → ⊥
TellsExpected k Barren = ⊥
TellsExpected k Invalid = ⊥

-- whether a kit has no sentences, or other conflicts than expected, or neither
abbrev pub TellsOutcome : KitValue → Outcome → Type 0
TellsOutcome k Expected = HasSentences k × AreExpected k
TellsOutcome k Unexpected = HasSentences k × (AreExpected k → ⊥)
TellsOutcome k Barren = HasSentences k → ⊥
TellsOutcome k Invalid = ⊥

-- something is wrong with the text, or a count or a table is too large: it has no kit
pub record HasNoKit (text : List ℕ) : Type 0 where
  pub e : KitError ℕ
  pub has_cause : IsMemory e → ⊥
  pub refused : IsToldRefusal text (λ kind. IsKitRefusal (λ n. n) top kind text cap) e

-- the text has no kit, or one without sentences, or one with sentences whose conflicts aren't expected, or are
abbrev pub IsOutcome : List ℕ → Outcome → Type 0
IsOutcome text Invalid = HasNoKit text
IsOutcome text Barren = (k : KitValue) × IsKitIn text k × (HasSentences k → ⊥)
IsOutcome text Unexpected = (k : KitValue) × IsKitIn text k × HasSentences k × (AreExpected k → ⊥)
IsOutcome text Expected = (k : KitValue) × IsKitIn text k × HasSentences k × AreExpected k

-- as it is expected, with other conflicts, without sentences, invalid
abbrev pub status_of : Outcome → ℕ
status_of Expected = 0
status_of Unexpected = 1
status_of Barren = 2
status_of Invalid = 2

-- how many shifts against reductions are listed, and how many pairs of reductions
abbrev pub listed_counts : Option Conflicts → ℕ × ℕ
listed_counts None = (0, 0)
listed_counts (Some c) = (length c.shift_reduce, length c.reduce_reduce)

-- what a text has, its states, and its conflicts
abbrev pub counts_of : KitValue → Counts
counts_of k = record {
  rules = length k.kept.ast.rules;
  tokens = length k.kept.ast.tokens;
  productions = length k.kept.ast.productions;
  states = length k.parser.graph.cores;
  shift_reduce = (listed_counts k.parser.table.conflicts).0;
  reduce_reduce = (listed_counts k.parser.table.conflicts).1;
  expected_shift_reduce = expect_of k;
  expected_reduce_reduce = expect_rr_of k;
}
