use Rattle.std.proofs.Common.{◌≡◌, ℕ, ◌<◌, length, get_or}
use Rattle.lr_theory.specs.Automaton.{Action}
use Rattle.state_table.specs.CellViews.{cells_of}
use Rattle.state_table.proofs.statetable.all_reduce.Given as goal

abbrev pub invariant-each : goal.invariant-each
invariant-each g l =
    let number = g.S.IndexStorage.number in
    (j : ℕ) (d : ℕ × Action) → j < l.i → j < length (cells_of number l.row) → (get_or (cells_of number l.row) j d).1 ≡ Action.reduce (number l.pidx.0)
