-- Calls on texts that keep nothing.
use Rattle.std.specs.Prelude.{◌≡◌, ℕ, ⊤, false, nat_eq, List, Result, Ok, Err, IfOk, IfErr, string_bytes}
use Rattle.std.specs.Str.{IsUtf8}
use Rattle.grammar_report.specs.Outcomes.{IsOutcome, status_of}
use Rattle.grammar_report.specs.declared.outcome.Report.{Report}
use Rattle.yacc_import.specs.Changes.{bytes_of, changed}
use Rattle.yacc_import.specs.declared.importing.Imported.{Imported}
use Rattle.lrkit_c.specs.Answers.{Puts, answer_of}
use Rattle.lrkit_c.specs.declared.reports.ImportRefusal.{ImportRefusal}
use Rattle.lrkit_c.specs.declared.reports.ImportRefusal.TheVariants as refusals
use Rattle.lrkit_c.specs.declared.status.Status.{Status}
use Rattle.lrkit_c.specs.declared.answers.LrkitAnswer.{LrkitAnswer}
use Rattle.lrkit_c.specs.declared.status.Status.TheVariants as statuses

-- a report is put with its outcome's number; where there is none, nothing is written
abbrev pub PutsReport : (old new : List ℕ) → (outcome outcome' : ℕ) → Result Report Status → LrkitAnswer → Type 0
PutsReport old new outcome outcome' (Ok r) a = (outcome' ≡ status_of r.outcome) × Puts statuses.Done (string_bytes r.text) old new a
PutsReport old new outcome outcome' (Err s) a = (outcome' ≡ outcome) × (new ≡ old) × (a ≡ answer_of s 0)

-- why there is no report
abbrev pub IsReportRefusal : (grammar path : List ℕ) → ℕ → Status → Type 0
IsReportRefusal grammar path form statuses.Memory = ⊤
IsReportRefusal grammar path form statuses.NotUtf8 = IsUtf8 grammar → IsUtf8 path → ⊥
IsReportRefusal grammar path form statuses.Unknown = (nat_eq form 0 ≡ false) × (nat_eq form 1 ≡ false) × (nat_eq form 2 ≡ false)
IsReportRefusal grammar path form status = ⊥

-- a report whose outcome holds for the grammar's text
pub record Reports (grammar path : List ℕ) (form : ℕ) (old new : List ℕ) (outcome outcome' : ℕ) (a : LrkitAnswer) : Type 0 where
  pub found : Result Report Status
  pub is : IfOk found (λ r. IsOutcome grammar r.outcome)
  pub refused : IfErr found (IsReportRefusal grammar path form)
  pub put : PutsReport old new outcome outcome' found a

-- the text is put, or the words that say why there is none; else nothing is written
abbrev pub PutsImport : (old new : List ℕ) → Result Imported ImportRefusal → LrkitAnswer → Type 0
PutsImport old new (Ok m) a = Puts statuses.Done (string_bytes m.text) old new a
PutsImport old new (Err refusals.Memory) a = (new ≡ old) × (a ≡ answer_of statuses.Memory 0)
PutsImport old new (Err refusals.NotUtf8) a = (new ≡ old) × (a ≡ answer_of statuses.NotUtf8 0)
PutsImport old new (Err (refusals.Cause text)) a = Puts statuses.File (string_bytes text) old new a

-- the text is what notes make of the file
pub record Imports (file old new : List ℕ) (a : LrkitAnswer) : Type 0 where
  pub found : Result Imported ImportRefusal
  pub made : IfOk found (λ m. string_bytes m.text ≡ bytes_of (changed file 0 m.notes.items))
  pub put : PutsImport old new found a
