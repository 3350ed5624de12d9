use Rattle.std.proofs.Common.{◌≡◌, length}
use Rattle.lrtable.proofs.revisiting.hint_all.Given as goal

abbrev pub invariant-items : goal.invariant-items
invariant-items g l = length l.hints.items ≡ length l.initial.hints.items
