-- The program's faults and statuses.
use Rattle.std.specs.Prelude.{◌≡◌, ◌<◌, ℕ, List, length, Result, Ok, Err, Option, None, Some}
use Rattle.std.specs.Str.Lossy.{utf8_valid_len}
use Rattle.byte_streams.specs.Inputs.{most_bytes}
use Rattle.lrkit_parse.specs.declared.fault.Outcome.{Outcome}
use Rattle.lrkit_parse.specs.declared.fault.Outcome.TheVariants.{Parsed, Faulty, NoParser}
use Rattle.lrkit_parse.specs.declared.fault.ParseFault.{ParseFault}
use Rattle.lrkit_parse.specs.declared.fault.ParseFault.TheVariants.{Closed, Lexemes, Memory, NotUtf8, Read, TooLong, Write}

-- the texts; the grammar or the lexer; an input or the output; memory
abbrev pub status_of : Result Outcome ParseFault → ℕ
status_of (Ok Parsed) = 0
status_of (Ok Faulty) = 1
status_of (Ok NoParser) = 2
status_of (Err (NotUtf8 index at)) = 5
status_of (Err (Read index cause)) = 5
status_of (Err (TooLong index)) = 5
status_of (Err Lexemes) = 5
status_of (Err (Write cause)) = 5
status_of (Err Closed) = 5
status_of (Err Memory) = 6

-- the number of the path that a fault is about
abbrev pub path_of : ParseFault → Option ℕ
path_of (NotUtf8 index at) = Some index
path_of (Read index cause) = Some index
path_of (TooLong index) = Some index
path_of Lexemes = None
path_of (Write cause) = None
path_of Closed = None
path_of Memory = None

-- more bytes than an input may have, or no text from this byte on
abbrev pub IsTextFault : ℕ → List ℕ → ParseFault → Type 0
IsTextFault index bytes (NotUtf8 k at) = (k ≡ index) × (at ≡ utf8_valid_len bytes)
IsTextFault index bytes (TooLong k) = (k ≡ index) × (most_bytes < length bytes)
IsTextFault index bytes (Read k cause) = ⊥
IsTextFault index bytes Lexemes = ⊥
IsTextFault index bytes (Write cause) = ⊥
IsTextFault index bytes Closed = ⊥
IsTextFault index bytes Memory = ⊥
