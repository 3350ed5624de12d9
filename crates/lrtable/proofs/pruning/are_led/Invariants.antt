use Rattle.std.specs.Prelude.{map}
use Rattle.lrtable.specs.StateViews.{value_of}
use Rattle.lrtable.proofs.Whole.{AreLedBelow}
use Rattle.lrtable.proofs.pruning.are_led.Given as goal

abbrev pub invariant-states : goal.invariant-states
invariant-states g l = AreLedBelow (map (value_of g.S.IndexStorage.number) l.states) l.number l.led.items
