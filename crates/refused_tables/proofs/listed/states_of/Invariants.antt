use Rattle.std.proofs.Common.{◌≡◌, map, take}
use Rattle.refused_tables.proofs.listed.states_of.Given as goal

abbrev pub invariant-entries : goal.invariant-entries
invariant-entries l = map (λ s. s.0) l.states.items ≡ map (λ e. e.state.0) (take l.entry-index l.listed)
