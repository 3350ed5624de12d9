use Rattle.std.proofs.Common.{◌≡◌, ◌+◌, ◌≤◌, ℕ, length, take}
use Rattle.language_server.specs.Positions.{units, IsBehind}
use Rattle.language_server.proofs.places.column_at.Given as goal

abbrev pub invariant-loop-index : goal.invariant-loop-index
invariant-loop-index l = (l.begin ≤ length l.bytes) × ((a : ℕ) → IsBehind l.fn.encoding l.bytes l.fn.start l.fn.units a → (l.index ≤ a) × (l.left + units l.fn.encoding (take l.index l.bytes) ≡ units l.fn.encoding (take a l.bytes)))
