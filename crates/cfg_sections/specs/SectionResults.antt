-- What reading a section answers, against what its text says.
use Rattle.std.specs.Prelude.{◌≡◌, ℕ, List, [], ◌∷◌, map, Bool, codes}
use Rattle.std.specs.String.{string_bytes}
use Rattle.cfg_base.specs.SpanModel.{SpanModel}
use Rattle.cfg_sections.specs.declared.header.settings.Fault.{Fault}
use Rattle.cfg_sections.specs.declared.header.settings.Fault.TheVariants as faults
use Rattle.cfg_sections.specs.declared.header.settings.Pair.{Pair}
use Rattle.cfg_sections.specs.declared.header.value.Setting.{Setting}
use Rattle.cfg_sections.specs.declared.header.error.HeaderError.{HeaderError}
use Rattle.cfg_sections.specs.HeaderErrors.{KindText, duplicate_entry, kind_text}
use Rattle.cfg_sections.specs.HeaderTexts.{value_text, setting_text}
use Rattle.cfg_sections.specs.Sections.{PairText, State, At, Value as ValueWanted, Behind, Pair as PairWanted, PairEnd, Key, Open, depth, Steps, StopsFrom, IsNoPath, span, Reads, Faults}
use Rattle.std.specs.declared.string.String.{String}
use Rattle.std.specs.declared.alloc.Global.{Global}
use Rattle.cfg_sections.specs.MarkMaps.{Marked}
use Rattle.cfg_sections.specs.declared.header.value.HeaderValue.{HeaderValue}
use Rattle.cfg_sections.specs.declared.header.value.Value.{Value}
use Rattle.cfg_sections.specs.declared.header.section.SectionError.{SectionError}
use Rattle.cfg_sections.specs.declared.header.section.SectionError.TheVariants as section_errors
use Rattle.cfg_sections.specs.declared.header.section.KeyValueError.{KeyValueError}
use Rattle.cfg_sections.specs.declared.header.section.KeyValueError.TheVariants as pair_errors
use Rattle.cfg_sections.specs.SectionSource.{SectionSource}
use Rattle.cfg_sections.specs.SectionRepeats.{repeats_of, Holds}

-- a pair of the code, with words as their bytes
abbrev pub pair_text : Pair → PairText
pair_text p = record { key = string_bytes p.key; at = p.span; value = value_text p.value }

-- an error: its kind and its locations
abbrev pub ErrorText : Type 0
ErrorText = KindText × List SpanModel

abbrev pub error_text : HeaderError SpanModel → ErrorText
error_text e = (kind_text e.kind, e.locations.items)

-- the error of a repeated key, by its spans
abbrev pub repeat_text : List SpanModel → ErrorText
repeat_text spans = (duplicate_entry, spans)

-- memory was refused
abbrev pub IsMemory : Fault → Type 0
IsMemory (faults.Memory e) = Unit {0}
IsMemory (faults.At kind offset) = ⊥

-- an error of the code: where it has an offset, the constructs from s on lead to it
abbrev pub Fails : List ℕ → State → Fault → Type 0
Fails bytes s (faults.Memory e) = Unit {0}
Fails bytes s (faults.At kind offset) = StopsFrom bytes s (kind_text kind) offset

-- the same where a path is wanted
abbrev pub FailsPath : List ℕ → ℕ → Fault → Type 0
FailsPath bytes a (faults.Memory e) = Unit {0}
FailsPath bytes a (faults.At kind offset) = IsNoPath bytes a (kind_text kind) offset

-- this setting begins at a, and what ends it is wanted at b, at whichever key and within any d arrays
abbrev pub ReadsSetting : List ℕ → ℕ → ℕ → Setting SpanModel → ℕ → Type 0
ReadsSetting bytes d a s b = (k : Key) (o : Open) (x : List PairText) → depth o ≡ d → Steps bytes (At (ValueWanted k o) x a) (At (Behind k o (setting_text s)) x b)

-- no setting begins at a: the constructs from there on lead to this fault
abbrev pub FailsSetting : List ℕ → ℕ → ℕ → Fault → Type 0
FailsSetting bytes d a e = (k : Key) (o : Open) (x : List PairText) → depth o ≡ d → Fails bytes (At (ValueWanted k o) x a) e

-- this pair begins at a, and what ends it is wanted at b
abbrev pub ReadsPair : List ℕ → ℕ → Pair → ℕ → Type 0
ReadsPair bytes a p b = (x : List PairText) → Steps bytes (At PairWanted x a) (At (PairEnd (pair_text p)) x b)

-- no pair begins at a: the constructs from there on lead to this fault
abbrev pub FailsPair : List ℕ → ℕ → Fault → Type 0
FailsPair bytes a e = (x : List PairText) → Fails bytes (At PairWanted x a) e

-- this header is what the section says, with no key repeated, and the section ends before this offset
pub record ReadsHeader (source : SectionSource) (h : Marked (String Global) (HeaderValue SpanModel)) (end : ℕ) : Type 0 where
  pub pairs : List PairText
  pub reads : Reads source.required source.text pairs end
  pub distinct : repeats_of pairs ≡ []
  pub holds : Holds h pairs

-- the section can't be read, or keys are repeated: the errors
pub data Refuses (source : SectionSource) (errors : List ErrorText) : Type 0 where
  one_fault : (e : ErrorText) → (offset : ℕ) → errors ≡ e ∷ [] → e.1 ≡ span offset offset ∷ [] → Faults source.required source.text e.0 offset → Refuses source errors
  repeated_keys : (pairs : List PairText) → (end : ℕ) → Reads source.required source.text pairs end → (repeats_of pairs ≡ [] → ⊥) → errors ≡ map repeat_text (repeats_of pairs) → Refuses source errors

-- an error of the code: the errors of the section, unless memory was refused
abbrev pub IsSectionError : SectionSource → SectionError → Type 0
IsSectionError source (section_errors.Memory e) = Unit {0}
IsSectionError source (section_errors.Invalid errors) = Refuses source (map error_text errors.items)

-- this pair begins at i, and what ends it is wanted at this offset
abbrev pub ReadsKeyValue : SectionSource → ℕ → String Global × SpanModel × Value SpanModel × ℕ → Type 0
ReadsKeyValue source i r = Steps source.text (At PairWanted [] i) (At (PairEnd (record { key = string_bytes r.0; at = r.1; value = value_text r.2 })) [] r.3)

-- no pair does, and reading stops at the error's offset, unless memory was refused
abbrev pub IsKeyValueError : SectionSource → ℕ → KeyValueError → Type 0
IsKeyValueError source i (pair_errors.Memory e) = Unit {0}
IsKeyValueError source i (pair_errors.Invalid error) = (offset : ℕ) × ((error_text error).1 ≡ span offset offset ∷ []) × StopsFrom source.text (At PairWanted [] i) (error_text error).0 offset

-- what a fault becomes
abbrev pub TellsFault : Fault → SectionError → Type 0
TellsFault (faults.Memory refused) (section_errors.Memory e) = refused ≡ e
TellsFault (faults.Memory refused) (section_errors.Invalid errors) = ⊥
TellsFault (faults.At kind offset) (section_errors.Memory e) = Unit {0}
TellsFault (faults.At kind offset) (section_errors.Invalid errors) = map error_text errors.items ≡ (kind_text kind, span offset offset ∷ []) ∷ []

abbrev pub TellsPairFault : Fault → KeyValueError → Type 0
TellsPairFault (faults.Memory refused) (pair_errors.Memory e) = refused ≡ e
TellsPairFault (faults.Memory refused) (pair_errors.Invalid error) = ⊥
TellsPairFault (faults.At kind offset) (pair_errors.Memory e) = Unit {0}
TellsPairFault (faults.At kind offset) (pair_errors.Invalid error) = error_text error ≡ (kind_text kind, span offset offset ∷ [])

-- the errors of repeated keys
abbrev pub TellsRepeats : List PairText → SectionError → Type 0
TellsRepeats pairs (section_errors.Memory e) = Unit {0}
TellsRepeats pairs (section_errors.Invalid errors) = (repeats_of pairs ≡ [] → ⊥) × (map error_text errors.items ≡ map repeat_text (repeats_of pairs))

-- the section reads and no key is repeated, or it reads and keys are, or it has a fault
pub data IsAnswered (required : Bool) (bytes : List ℕ) : Type 0 where
  reads_header : (pairs : List PairText) → (end : ℕ) → Reads required bytes pairs end → repeats_of pairs ≡ [] → IsAnswered required bytes
  repeats_keys : (pairs : List PairText) → (end : ℕ) → Reads required bytes pairs end → (repeats_of pairs ≡ [] → ⊥) → IsAnswered required bytes
  has_fault : (kind : KindText) → (offset : ℕ) → Faults required bytes kind offset → IsAnswered required bytes

-- The errors of the code, as they are printed: each as the name of its kind.
abbrev pub section_error_text : SectionError → List ℕ
section_error_text (section_errors.Memory e) = codes "Memory"
section_error_text (section_errors.Invalid errors) = codes "Invalid"

abbrev pub pair_error_text : KeyValueError → List ℕ
pair_error_text (pair_errors.Memory e) = codes "Memory"
pair_error_text (pair_errors.Invalid error) = codes "Invalid"
