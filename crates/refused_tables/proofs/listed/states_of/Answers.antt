use Rattle.std.proofs.Common.{◌≡◌, map, arith}
use Rattle.std.proofs.lemmas.Grind.{common_steps}
use Rattle.std.proofs.lemmas.List.Filters.{dedup_is}
use Rattle.refused_tables.proofs.Numbers.{numbers_rise, numbers_stay}
use Rattle.refused_tables.proofs.listed.states_of.Goals as goal

pub returns-clause-each : goal.returns-clause-each
returns-clause-each c =
    let same : map (λ s. s.0) c.entries.states.items ≡ map (λ e. e.state.0) c.args.listed.now = grind (arith, common_steps) in
    numbers_stay (λ s. s.0) _ _ _ _ c.sort.ensures.permutation (dedup_is _ _ _ c.dedup.ensures.filtered) same

pub returns-clause-once : goal.returns-clause-once
returns-clause-once c = numbers_rise (λ s. s.0) _ _ (dedup_is _ _ _ c.dedup.ensures.filtered) c.in_ok-sort.ensures.sorted
