use Rattle.std.proofs.Common.{◌≡◌, take}
use Rattle.refused_tables.proofs.nearer.shared_len.Given as goal

-- the open productions before the index are the same
abbrev pub invariant-items : goal.invariant-items
invariant-items l = take l.index l.first ≡ take l.index l.second
