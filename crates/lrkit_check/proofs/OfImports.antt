-- Outcomes of texts are outcomes of the files that they are the imports of.
use Rattle.std.proofs.Common.{◌≡◌, ℕ, List}
use Rattle.checked_import.specs.SameRules.{HasRulesOf}
use Rattle.grammar_report.specs.Outcomes.{IsOutcome}
use Rattle.grammar_report.specs.declared.outcome.Outcome.{Outcome}
use Rattle.grammar_report.specs.declared.outcome.Outcome.TheVariants.{Barren, Expected, Invalid, Unexpected}
use Rattle.lrkit_check.specs.Texts.{IsOfFile, IsOfImport}

pub of_import : (file text : List ℕ) (o : Outcome) → HasRulesOf file text → IsOutcome text o → IsOfImport file o
of_import file text Invalid rules is = tt
of_import file text Barren rules is = (text, rules, is)
of_import file text Unexpected rules is = (text, rules, is)
of_import file text Expected rules is = (text, rules, is)

pub of_refusal : (file : List ℕ) (o : Outcome) → o ≡ Invalid → IsOfImport file o
of_refusal file o is = rw is tt

pub of_text : (file : List ℕ) (o : Outcome) → IsOutcome file o → IsOfFile file o
of_text file o is = IsOfFile.read is

pub of_imported : (file : List ℕ) (o : Outcome) → IsOfImport file o → IsOfFile file o
of_imported file o is = IsOfFile.imported is
