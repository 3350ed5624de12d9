-- The lexemes so far, and those of the items that are left, are all.
use Rattle.std.proofs.Common.{◌≡◌, ◌++◌, drop}
use Rattle.text_server.specs.Fronts.{fronts}
use Rattle.text_server.proofs.completion.lexemes_before.Given as goal

abbrev pub invariant-items : goal.invariant-items
invariant-items l = l.lexemes.items ++ fronts l.cut (drop l.item-index l.items) ≡ fronts l.cut l.items
