use Rattle.conflict_examples.specs.Opening.{IsOpen}
use Rattle.conflict_examples.proofs.spine.open_all.Given as goal

-- what is open so far
abbrev pub invariant-items : goal.invariant-items
invariant-items g l = IsOpen g.S.IndexStorage.number l.grm.grammar l.spine
