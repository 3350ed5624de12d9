use Rattle.std.proofs.Common.{◌≡◌, map, ◌+◌, drop}
use Rattle.lex_files.specs.LexFiles.{condition_value, condition_named}
use Rattle.lex_files.proofs.conditions.condition_named.Given as goal

abbrev pub invariant-conditions : goal.invariant-conditions
invariant-conditions l = l.index + condition_named (map condition_value (drop l.index l.conditions)) l.name ≡ condition_named (map condition_value l.conditions) l.name
