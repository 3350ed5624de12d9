use Rattle.std.proofs.Common.{◌≡◌, take}
use Rattle.state_table.specs.CoreViews.{items_of}
use Rattle.state_table.proofs.cores.same_items.Given as goal

abbrev pub invariant-each : goal.invariant-each
invariant-each g l = items_of g.S.IndexStorage.number (take l.i l.a) ≡ items_of g.S.IndexStorage.number (take l.i l.b)
