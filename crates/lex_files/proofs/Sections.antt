-- What a text with a section reads as.
use Rattle.std.proofs.Common.{◌≡◌, ℕ, List, drop}
use Rattle.std.specs.Str.{IsCharBoundary}
use Rattle.lex_files.specs.LexFiles.{SectionEnds, TellsFile, Tells, read_lines, first_file}
use Rattle.lex_files.specs.declared.fault.LexFileError.{LexFileError}
use Rattle.lex_files.specs.declared.fault.LexFileError.TheVariants.{Memory, Section, Line}

pub tells_file : (text : List ℕ) (end from : ℕ) → SectionEnds text end → (IsCharBoundary text end → from ≡ end) → (e : LexFileError) → Tells (read_lines first_file from (drop from text)) e → TellsFile text e
tells_file text end from s at (Memory a) h = tt
tells_file text end from s at (Section es) h = tt
tells_file text end from s at (Line f) h = record { end = end; section = s; from = from; is_end = at; lines = h }
