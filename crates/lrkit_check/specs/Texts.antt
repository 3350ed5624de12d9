-- What the program's outcome says.
use Rattle.std.specs.Prelude.{ℕ, List, ⊤}
use Rattle.checked_import.specs.SameRules.{HasRulesOf}
use Rattle.grammar_report.specs.Outcomes.{IsOutcome}
use Rattle.grammar_report.specs.declared.outcome.Outcome.{Outcome}
use Rattle.grammar_report.specs.declared.outcome.Outcome.TheVariants.{Barren, Expected, Invalid, Unexpected}

-- a text with the rules of the file has the outcome
abbrev pub HasOutcome : List ℕ → Outcome → Type 0
HasOutcome file outcome = (text : List ℕ) × HasRulesOf file text × IsOutcome text outcome

-- the import of a Bison file has the outcome. A file that isn't imported is invalid too
abbrev pub IsOfImport : List ℕ → Outcome → Type 0
IsOfImport file Invalid = ⊤
IsOfImport file Barren = HasOutcome file Barren
IsOfImport file Unexpected = HasOutcome file Unexpected
IsOfImport file Expected = HasOutcome file Expected

-- that of the file, or that of its import
pub data IsOfFile (file : List ℕ) (outcome : Outcome) : Type 0 where
  read : IsOutcome file outcome → IsOfFile file outcome
  imported : IsOfImport file outcome → IsOfFile file outcome

-- the same of some file
abbrev pub IsOfSomeFile : Outcome → Type 0
IsOfSomeFile outcome = (file : List ℕ) × IsOfFile file outcome
