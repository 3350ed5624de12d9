-- The marks so far are those of the tokens so far.
use Rattle.std.proofs.Common.{◌≡◌, map, take}
use Rattle.lrkit_c.specs.Marks.{token_mark}
use Rattle.lrkit_c.proofs.marks.marks_of_tokens.Given as goal

abbrev pub invariant-tokens : goal.invariant-tokens
invariant-tokens l = l.marks.items ≡ map (token_mark 1) (take l.index l.numbers)
