use Rattle.std.proofs.Common.{◌≡◌, ◌+◌, drop, length, ◌==◌}
use Rattle.std.specs.List.{slice_split}
use Rattle.lex_files.specs.LexFiles.{file_value, read_next, try_fold}
use Rattle.lex_files.proofs.Rooms.{room_of}
use Rattle.lex_files.proofs.reading.read_each.Given as goal

abbrev pub invariant-lines : goal.invariant-lines
invariant-lines l = (try_fold read_next (file_value l.fn.file, l.from) (slice_split (λ b. b == 10) l.text) ≡ try_fold read_next (file_value l.file, l.start) (drop (length l.yielded) (slice_split (λ b. b == 10) l.text))) × (l.start + room_of (drop (length l.yielded) (slice_split (λ b. b == 10) l.text)) ≡ l.from + length l.text + 1)
