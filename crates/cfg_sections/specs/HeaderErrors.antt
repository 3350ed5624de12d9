-- Errors of a section, with their texts as bytes.
use Rattle.std.specs.Prelude.{ℕ, List, ◌++◌, codes}
use Rattle.std.specs.Char.{encode_utf8}
use Rattle.cfg_base.specs.declared.span.SpansKind.{SpansKind}
use Rattle.cfg_base.specs.declared.span.SpansKind.TheVariants as spans
use Rattle.cfg_sections.specs.declared.header.error.HeaderErrorKind.{HeaderErrorKind}
use Rattle.cfg_sections.specs.declared.header.error.HeaderErrorKind.TheVariants as kinds

pub data KindText : Type 0 where
  missing_section : KindText
  illegal_name : KindText
  expected_token : ℕ → KindText
  unexpected_token : ℕ → List ℕ → KindText
  duplicate_entry : KindText
  invalid_entry : List ℕ → KindText
  no_conversion : List ℕ → List ℕ → KindText

abbrev pub kind_text : HeaderErrorKind → KindText
kind_text kinds.MissingGrmtoolsSection = missing_section
kind_text kinds.IllegalName = illegal_name
kind_text (kinds.ExpectedToken c) = expected_token c
kind_text (kinds.UnexpectedToken c why) = unexpected_token c why.now
kind_text kinds.DuplicateEntry = duplicate_entry
kind_text (kinds.InvalidEntry what) = invalid_entry what.now
kind_text (kinds.ConversionError to why) = no_conversion to.now why.now

-- repeated keys are located at all of them, other faults at one location
abbrev pub spanskind_of : KindText → SpansKind
spanskind_of duplicate_entry = spans.DuplicationError
spanskind_of _ = spans.Error

-- as they are printed
abbrev pub header_error_text : KindText → List ℕ
header_error_text missing_section = codes "Missing %grmtools section"
header_error_text illegal_name = codes "Illegal name"
header_error_text (expected_token c) = codes "Expected token '" ++ (encode_utf8 c ++ codes "'")
header_error_text (unexpected_token c why) = codes "Unexpected token '" ++ (encode_utf8 c ++ codes "'")
header_error_text duplicate_entry = codes "Duplicate entry"
header_error_text (invalid_entry what) = codes "Invalid entry '" ++ (what ++ codes "'")
header_error_text (no_conversion to why) = codes "Cannot convert to " ++ (to ++ (codes ": " ++ why))
