-- Equality of actions.
use Rattle.std.specs.Prelude.{ℕ, ◌==◌, Bool, false, true}
use Rattle.state_table.specs.declared.cells.Action.{Action}
use Rattle.state_table.specs.declared.cells.Action.TheVariants.{Accept, Error, Reduce, Shift}

-- of one kind, and of one state or production
abbrev pub action_eq : {S : Type 0} → (S → ℕ) → Action S → Action S → Bool
action_eq number (Shift p) (Shift q) = number p.0 == number q.0
action_eq number (Shift p) (Reduce q) = false
action_eq number (Shift p) Accept = false
action_eq number (Shift p) Error = false
action_eq number (Reduce p) (Shift q) = false
action_eq number (Reduce p) (Reduce q) = number p.0 == number q.0
action_eq number (Reduce p) Accept = false
action_eq number (Reduce p) Error = false
action_eq number Accept (Shift q) = false
action_eq number Accept (Reduce q) = false
action_eq number Accept Accept = true
action_eq number Accept Error = false
action_eq number Error (Shift q) = false
action_eq number Error (Reduce q) = false
action_eq number Error Accept = false
action_eq number Error Error = true
