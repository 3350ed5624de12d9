-- A grammar text as a whole: its section, if it has one, and what stands behind it.
use Rattle.std.specs.Prelude.{◌≡◌, ℕ, false, List, [], ◌∷◌, map, Option, None, Some, option_map}
use lib.Chars.{codes}
use Rattle.cfg_base.specs.SpanModel.{SpanModel}
use Rattle.cfg_base.specs.declared.span.SpansKind.TheVariants as spanskinds
use Rattle.cfg_sections.specs.HeaderErrors.{no_conversion}
use Rattle.cfg_sections.specs.Sections.{span, PairText}
use Rattle.cfg_sections.specs.Sections as sections
use Rattle.cfg_sections.specs.SectionSource.{SectionSource}
use Rattle.cfg_sections.specs.HeaderTexts.{ValueText}
use Rattle.cfg_sections.specs.SectionResults.{ErrorText, error_text, Refuses}
use Rattle.cfg_sections.specs.declared.header.section.SectionError.{SectionError}
use Rattle.cfg_sections.specs.declared.header.section.SectionError.TheVariants as refusals
use Rattle.cfg_read.specs.declared.yacc.parser.error.ReadError.{ReadError}
use Rattle.cfg_read.specs.declared.yacc.parser.error.ReadError.TheVariants as errors
use Rattle.cfg_sections.specs.SectionRepeats.{repeats_of, said_of}
use Rattle.cfg_read.specs.declared.yacc.YaccKind.{YaccKind}
use Rattle.cfg_read.specs.declared.yacc.parser.error.YaccGrammarErrorKind.{YaccGrammarErrorKind}
use Rattle.cfg_read.specs.declared.yacc.parser.error.YaccGrammarErrorKind.TheVariants as faults
use Rattle.cfg_read.specs.declared.yacc.file.YaccGrammarFailure.{YaccGrammarFailure}
use Rattle.cfg_read.specs.declared.yacc.file.YaccGrammarFailure.TheVariants as failures
use Rattle.cfg_read.specs.SyntaxTexts.{SyntaxText}
use Rattle.cfg_read.specs.Reading.{Reads}
use Rattle.cfg_read.specs.SyntaxErrors.{Faults}
use Rattle.cfg_read.specs.Validity.{Header, FailureText, failure_at, header_failure}
use Rattle.cfg_read.specs.ErrorModels.{kind_of, failures_in}
use Rattle.cfg_read.specs.Kinds.{Meaning, means, unfit, meaning_of}

-- a text that may do without a section
abbrev pub source : List ℕ → SectionSource
source text = record { text = text; required = false }

-- The section holds these pairs, no key twice, and ends before this offset; a text without a section has no pairs, and
-- its offset is 0.
pub record HasSection (text : List ℕ) (pairs : List PairText) (end : ℕ) : Type 0 where
  pub reads : sections.Reads false text pairs end
  pub distinct : repeats_of pairs ≡ []

-- what a text of a kind says
pub record ReadsFile (kind : YaccKind) (text : List ℕ) (x : SyntaxText) : Type 0 where
  pub pairs : List PairText
  pub end : ℕ
  pub section : HasSection text pairs end
  pub rest : Reads kind text end x

-- the one failure of a fault at an offset
abbrev pub fault_failure : YaccGrammarErrorKind → ℕ → FailureText
fault_failure e offset = failure_at (kind_of e) (span offset offset)

-- what is wrong with a text's section: its one fault, or each repeated key
pub record FailsSection (text : List ℕ) (fs : List FailureText) : Type 0 where
  pub errors : List ErrorText
  pub refuses : Refuses (source text) errors
  pub is : fs ≡ map header_failure errors

-- the one fault of what stands from an offset on
pub record FailsRest (kind : YaccKind) (text : List ℕ) (start : ℕ) (fs : List FailureText) : Type 0 where
  pub fault : YaccGrammarErrorKind
  pub offset : ℕ
  pub faults : Faults kind text start fault offset
  pub is : fs ≡ fault_failure fault offset ∷ []

-- why a text doesn't read
pub data FailsFile (kind : YaccKind) (text : List ℕ) (fs : List FailureText) : Type 0 where
  in_section : FailsSection text fs → FailsFile kind text fs
  in_rest : (pairs : List PairText) (end : ℕ) → HasSection text pairs end → FailsRest kind text end fs → FailsFile kind text fs

-- what can be said of a text
pub data FileOutcome (kind : YaccKind) (text : List ℕ) : Type 0 where
  reads_file : (x : SyntaxText) → ReadsFile kind text x → FileOutcome kind text
  fails_file : (fs : List FailureText) → FailsFile kind text fs → FileOutcome kind text

-- The kind that a section tells by its key `yacckind`, if it has this key.
abbrev pub said_meaning : Option (SpanModel × ValueText SpanModel) → Option (Meaning SpanModel)
said_meaning said = option_map (λ (e : SpanModel × ValueText SpanModel). meaning_of e.1) said

abbrev pub told_kind : List PairText → Option (Meaning SpanModel)
told_kind pairs = said_meaning (said_of pairs (codes "yacckind"))

-- the text's section tells this kind
pub record TellsKind (text : List ℕ) (kind : YaccKind) : Type 0 where
  pub pairs : List PairText
  pub end : ℕ
  pub section : HasSection text pairs end
  pub told : told_kind pairs ≡ Some (means kind)

-- the error of a value that stands for no kind
abbrev pub kind_failures : List ℕ → SpanModel → List FailureText
kind_failures why at = failure_at (Header (no_conversion (codes "YaccKind") why) spanskinds.Error) at ∷ []

pub record FailsMeaning (meaning : Meaning SpanModel) (fs : List FailureText) : Type 0 where
  pub why : List ℕ
  pub at : SpanModel
  pub unfits : meaning ≡ unfit why at
  pub is : fs ≡ kind_failures why at

-- the value isn't there, or stands for no kind
pub data FailsKind (told : Option (Meaning SpanModel)) (fs : List FailureText) : Type 0 where
  no_key : told ≡ None → fs ≡ fault_failure faults.InvalidYaccKind 0 ∷ [] → FailsKind told fs
  no_kind : (meaning : Meaning SpanModel) → told ≡ Some meaning → FailsMeaning meaning fs → FailsKind told fs

-- why a text tells no kind
pub data LacksKind (text : List ℕ) (fs : List FailureText) : Type 0 where
  without_section : FailsSection text fs → LacksKind text fs
  without_kind : (pairs : List PairText) (end : ℕ) → HasSection text pairs end → FailsKind (told_kind pairs) fs → LacksKind text fs

-- the text has no section, or one without a key for the kind
pub record TellsNoKind (text : List ℕ) : Type 0 where
  pub pairs : List PairText
  pub end : ℕ
  pub section : HasSection text pairs end
  pub lacks : told_kind pairs ≡ None

-- the key is there, and its value stands for no kind
pub record FailsValue (told : Option (Meaning SpanModel)) (fs : List FailureText) : Type 0 where
  pub meaning : Meaning SpanModel
  pub some : told ≡ Some meaning
  pub fails : FailsMeaning meaning fs

-- the section is faulty, or the value of its key stands for no kind
pub data FailsToTell (text : List ℕ) (fs : List FailureText) : Type 0 where
  faulty_section : FailsSection text fs → FailsToTell text fs
  faulty_kind : (pairs : List PairText) (end : ℕ) → HasSection text pairs end → FailsValue (told_kind pairs) fs → FailsToTell text fs

pub data KindOutcome (text : List ℕ) : Type 0 where
  tells_kind : (kind : YaccKind) → TellsKind text kind → KindOutcome text
  lacks_kind : (fs : List FailureText) → LacksKind text fs → KindOutcome text

-- the errors of the code, unless it ran out of memory
abbrev pub IsFailure : (List FailureText → Type 0) → YaccGrammarFailure → Type 0
IsFailure P (failures.Memory e) = Unit {0}
IsFailure P (failures.Invalid errors) = P (failures_in errors.items)

-- the errors of a section as those of its text
abbrev pub ShowsSection : SectionError → YaccGrammarFailure → Type 0
ShowsSection e (failures.Memory m) = Unit {0}
ShowsSection (refusals.Memory m) (failures.Invalid errors) = ⊥
ShowsSection (refusals.Invalid es) (failures.Invalid errors) = failures_in errors.items ≡ map header_failure (map error_text es.items)

abbrev pub ShowsFault : ReadError → YaccGrammarFailure → Type 0
ShowsFault e (failures.Memory m) = Unit {0}
ShowsFault (errors.Memory m) (failures.Invalid es) = ⊥
ShowsFault (errors.Fault e offset) (failures.Invalid es) = failures_in es.items ≡ fault_failure e offset ∷ []
