use Rattle.state_table.proofs.shared_sets.like_among.Given as goal

abbrev pub invariant-back : goal.invariant-back
invariant-back l = Unit {0}
