use Rattle.std.proofs.Common.{◌≡◌, ◌-◌, ◌≤◌, length}
use Rattle.cfg_base.specs.Text.{comment_end}
use Rattle.cfg_base.proofs.text.comment_end.Given as goal

-- no `*/` stands between the first offset and this one
abbrev pub invariant-bytes : goal.invariant-bytes
invariant-bytes l = record { from : l.offset ≤ l.end; within : l.end ≤ length l.text; same : comment_end l.text l.end ≡ comment_end l.text l.offset }

abbrev pub decreases-bytes : goal.decreases-bytes
decreases-bytes l = length l.text - l.end
