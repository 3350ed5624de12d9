use Rattle.std.proofs.Common.{◌≡◌, map, drop, length, ◌==◌}
use Rattle.std.specs.List.{slice_split}
use Rattle.lex_files.specs.LexFiles.{condition_value, declare_part, declare_words, try_fold}
use Rattle.lex_files.proofs.conditions.declare_words.Given as goal

abbrev pub invariant-parts : goal.invariant-parts
invariant-parts l = declare_words l.exclusive l.at (map condition_value l.fn.conditions.items) l.words ≡ try_fold (declare_part l.exclusive l.at) (map condition_value l.conditions.items) (drop (length l.yielded) (slice_split (λ b. b == 32) l.words))
