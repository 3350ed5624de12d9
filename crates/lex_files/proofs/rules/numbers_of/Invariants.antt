use Rattle.std.proofs.Common.{◌≡◌, map, drop, length, ◌==◌}
use Rattle.std.specs.List.{slice_split}
use Rattle.lex_files.specs.LexFiles.{condition_value, add_number, numbers_of, try_fold}
use Rattle.lex_files.proofs.rules.numbers_of.Given as goal

abbrev pub invariant-names : goal.invariant-names
invariant-names l = numbers_of (map condition_value l.conditions) l.at l.names ≡ try_fold (add_number (map condition_value l.conditions) l.at) l.numbers.items (drop (length l.yielded) (slice_split (λ b. b == 44) l.names))
