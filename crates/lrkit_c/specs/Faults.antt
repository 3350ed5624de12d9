-- What is wrong with a lexer's text, in words.
use Rattle.std.specs.Prelude.{◌≡◌, ℕ, false, List, [], ◌∷◌, ◌++◌, codes, slice_get}
use Rattle.cfg_base.specs.SpanModel.{SpanModel}
use Rattle.cfg_sections.specs.declared.header.HeaderError.{HeaderError}
use Rattle.lex_files.specs.declared.fault.LexFileError.TheVariants as files
use Rattle.lrlex.specs.declared.from_text.LexTextError.{LexTextError}
use Rattle.lrlex.specs.declared.from_text.LexTextError.TheVariants as faults
use Rattle.text_messages.specs.Places.{BeginsWith, SourceValue, heading, heading_if}
use Rattle.text_messages.specs.declared.source.Severity.TheVariants as severities

-- the lexer's text, shown with the path `lexer`
abbrev pub lexer_source : List ℕ → SourceValue
lexer_source text = record { text = text; shown = text; places = []; path = codes "lexer"; color = false }

-- a text begins with the heading of an error at a place
pub record BeginsAt (source : SourceValue) (span : SpanModel) (shown : List ℕ) : Type 0 where
  pub message : List ℕ
  pub begins : BeginsWith (heading source severities.Error span message) shown

-- the same of an error of a section, at the first of its places, if it has one
pub record ShowsError (source : SourceValue) (e : HeaderError SpanModel) (shown : List ℕ) : Type 0 where
  pub message : List ℕ
  pub begins : BeginsWith (heading_if source severities.Error (slice_get e.locations.items 0) message) shown

-- one for each error, in their order
abbrev pub ShowsEach : SourceValue → List (HeaderError SpanModel) → List ℕ → Type 0
ShowsEach source [] shown = shown ≡ []
ShowsEach source (e ∷ es) shown = (first : List ℕ) × (more : List ℕ) × ShowsError source e first × ShowsEach source es more × (shown ≡ first ++ more)

-- a message at the first line that doesn't read, at the expression that doesn't compile, or for each error of the section; a lack of memory has none
abbrev pub ShowsFault : SourceValue → LexTextError → List ℕ → Type 0
ShowsFault source (faults.File (files.Memory e)) shown = ⊥
ShowsFault source (faults.File (files.Section errors)) shown = ShowsEach source errors.items shown
ShowsFault source (faults.File (files.Line fault)) shown = BeginsAt source (record { start = fault.offset; end = fault.offset }) shown
ShowsFault source (faults.Expression span e) shown = BeginsAt source span shown
