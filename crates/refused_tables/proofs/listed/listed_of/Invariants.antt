use Rattle.std.proofs.Common.{◌≡◌, map, take}
use Rattle.refused_tables.specs.Blocks.{pair_of, shift_of}
use Rattle.state_table.specs.CellViews as views
use Rattle.refused_tables.proofs.listed.listed_of.Given as goal

abbrev pub invariant-pairs : goal.invariant-pairs
invariant-pairs l = l.pairs.items ≡ map pair_of (map (views.pair_of (λ n. n)) (take l.entry-index l.entry-items))

abbrev pub invariant-shifts : goal.invariant-shifts
invariant-shifts l = l.shifts.items ≡ map shift_of (map (views.shift_of (λ n. n)) (take l.entry-index l.entry-items))
