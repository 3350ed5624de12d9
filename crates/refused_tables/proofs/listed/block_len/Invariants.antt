use Rattle.std.proofs.Common.{◌≡◌, ℕ, ◌<◌, get_or, true}
use Rattle.refused_tables.specs.Blocks.{go_together}
use Rattle.refused_tables.specs.declared.listed.Listed.{Listed}
use Rattle.refused_tables.proofs.listed.block_len.Given as goal

-- those before the index go with the first one
abbrev pub invariant-entries : goal.invariant-entries
invariant-entries l = (l.count ≡ l.entry-index) × ((d : Listed) (k : ℕ) → 0 < k → k < l.entry-index → go_together l.each (get_or l.listed 0 d) (get_or l.listed k d) ≡ true)
