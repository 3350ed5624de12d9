-- What the errors of the code tell of a text.
use Rattle.std.proofs.Common.{◌≡◌, ℕ, false, List, [], ◌∷◌, map, None, refl, ◌∙◌, ap}
use lib.Chars.{codes}
use Rattle.cfg_base.specs.SpanModel.{SpanModel}
use Rattle.cfg_sections.specs.HeaderErrors.{no_conversion}
use Rattle.cfg_sections.specs.Sections.{span}
use Rattle.cfg_read.specs.declared.yacc.parser.error.YaccGrammarErrorKind.TheVariants as faults
use Rattle.cfg_sections.specs.declared.header.error.HeaderError.{HeaderError}
use Rattle.cfg_sections.specs.SectionSource.{SectionSource}
use Rattle.cfg_sections.specs.SectionResults.{error_text, IsSectionError}
use Rattle.cfg_sections.specs.declared.header.section.SectionError.{SectionError}
use Rattle.cfg_sections.specs.declared.header.section.SectionError.TheVariants as refusals
use Rattle.cfg_read.specs.declared.yacc.YaccKind.{YaccKind}
use Rattle.cfg_read.specs.declared.yacc.parser.error.ReadError.{ReadError}
use Rattle.cfg_read.specs.declared.yacc.parser.error.ReadError.TheVariants as errors
use Rattle.cfg_read.specs.declared.yacc.file.YaccGrammarFailure.{YaccGrammarFailure}
use Rattle.cfg_read.specs.declared.yacc.file.YaccGrammarFailure.TheVariants as failures
use Rattle.cfg_read.specs.SyntaxErrors.{IsErrorOf}
use Rattle.cfg_read.specs.declared.yacc.validity.YaccGrammarError.{YaccGrammarError}
use Rattle.cfg_read.specs.Validity.{FailureText, failure_at, header_failure}
use Rattle.cfg_read.specs.ErrorModels.{kind_of, failure_of, failures_in}
use Rattle.cfg_read.specs.Kinds.{Meaning, RefusesKind}
use Rattle.cfg_read.specs.Files.{source, FailsMeaning, FailsKind, no_key, FailsSection, FailsRest, IsFailure, ShowsSection, ShowsFault}

pub section_shown : (text : List ℕ) (e : SectionError) (f : YaccGrammarFailure) → ShowsSection e f → IsSectionError (source text) e → IsFailure (FailsSection text) f
section_shown text e (failures.Memory m) shows is = tt
section_shown text (refusals.Memory m) (failures.Invalid es) shows is = absurd shows
section_shown text (refusals.Invalid hs) (failures.Invalid es) shows is = record { errors = map error_text hs.items; refuses = is; is = shows }

pub fault_shown : (kind : YaccKind) (text : List ℕ) (start : ℕ) (e : ReadError) (f : YaccGrammarFailure) → ShowsFault e f → IsErrorOf kind text start e → IsFailure (FailsRest kind text start) f
fault_shown kind text start e (failures.Memory m) shows is = tt
fault_shown kind text start (errors.Memory m) (failures.Invalid es) shows is = absurd shows
fault_shown kind text start (errors.Fault fault offset) (failures.Invalid es) shows is = record { fault = fault; offset = offset; faults = is; is = shows }

-- what tells less
pub weaker : (P Q : List FailureText → Type 0) → ((fs : List FailureText) → P fs → Q fs) → (f : YaccGrammarFailure) → IsFailure P f → IsFailure Q f
weaker P Q h (failures.Memory m) is = tt
weaker P Q h (failures.Invalid es) is = h _ is

-- a text that may do without a section
pub source_is : (s : SectionSource) (text : List ℕ) → s.text ≡ text → s.required ≡ false → s ≡ source text
source_is s text e f = ap (λ b. let r : SectionSource = record { text = s.text; required = b } in r) f ∙ ap source e

-- the error of a value that stands for no kind
pub meaning_failed : (is_clone : SpanModel → SpanModel → Type 0) (same : (a b : SpanModel) → is_clone a b → b ≡ a) (m : Meaning SpanModel) (e : HeaderError SpanModel) (error : YaccGrammarError) (made : List YaccGrammarError)
    → made ≡ error ∷ [] → failure_of error ≡ header_failure (error_text e) → RefusesKind is_clone m e → FailsMeaning m (failures_in made)
meaning_failed is_clone same m e error made one shows r =
    let at : e.locations.items ≡ r.location ∷ [] = r.locations ∙ ap (λ p. p ∷ []) (same r.location r.at r.clone) in
    let told : header_failure (error_text e) ≡ header_failure (no_conversion (codes "YaccKind") r.why, r.location ∷ []) =
    ap (λ k. header_failure (k, e.locations.items)) r.kind ∙ ap (λ ps. header_failure (no_conversion (codes "YaccKind") r.why, ps)) at in
    record { why = r.why; at = r.location; unfits = r.is_unfit; is = ap failures_in one ∙ ap (λ f. f ∷ []) (shows ∙ told) }

-- no kind is told, at the text's front
pub front_fails : (s : SpanModel) (fs : List FailureText) → s.start ≡ 0 → s.end ≡ 0 → fs ≡ failure_at (kind_of faults.InvalidYaccKind) s ∷ [] → FailsKind None fs
front_fails s fs e f is =
    let one : s ≡ span 0 0 = ap (λ a. let p : SpanModel = record { start = a; end = s.end } in p) e ∙ ap (λ b. span 0 b) f in
    no_key refl (is ∙ ap (λ p. failure_at (kind_of faults.InvalidYaccKind) p ∷ []) one)
