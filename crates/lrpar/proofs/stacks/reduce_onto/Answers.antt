use Rattle.std.proofs.Common.{◌<◌, ◌-◌, length, refl, ◌∙◌, arith}
use Rattle.std.proofs.lemmas.List.{reverse-append}
use Rattle.lrpar.proofs.Reduced.{number_at, state_in, are_pushed, states_pushed, reduces_to, goes_to, within}
use Rattle.lrpar.proofs.stacks.reduce_onto.Goals as goal
use Rattle.lrpar.proofs.stacks.reduce_onto.Goals.{After-prod_to_rule-ridx}

-- the reduction leaves a state
leaves : (g : _) (c : After-prod_to_rule-ridx g) → c.to_usize-count.result < length c.args.stacks.now.states.items
leaves g c = within g.S.IndexStorage.number c.args.machine.now.grm.now.grammar c.args.machine.now.stable.now (g.S.IndexStorage.number c.args.pidx.0) c.to_usize-count.result c.args.stacks.now.states.items c.requires.goes (c.to_usize-count.ensures.value ∙ c.prod_len.ensures)

pub index-below-requires : goal.index-below-requires
index-below-requires g c = let lt = leaves g (goal.at.index-below-requires g c).After-prod_to_rule-ridx in omega (arith, lt, c.args.stacks.now.states.ok.0)

pub reduce-requires : goal.reduce-requires
reduce-requires g c =
    let same = c.to_usize-count.ensures.value ∙ c.prod_len.ensures in
    record { stands = (c.args.machine.now.grm.now.grammar, c.requires.held.0, c.requires.held.1, omega (arith, same, c.requires.held.2)) }

pub overflow_sub-left : goal.overflow_sub-left
overflow_sub-left g c = let lt = leaves g (goal.at.overflow_sub-left g c).After-prod_to_rule-ridx in omega (arith, lt, c.args.stacks.now.states.ok.0)

pub overflow_sub-left-2 : goal.overflow_sub-left-2
overflow_sub-left-2 g c = let lt = leaves g (goal.at.overflow_sub-left-2 g c).After-prod_to_rule-ridx in omega (arith, lt, c.args.stacks.now.states.ok.0)

pub target-next-requires-clause-state : goal.target-next-requires-clause-state
target-next-requires-clause-state g c =
    let lt = leaves g (goal.at.target-next-requires-clause-state g c).After-prod_to_rule-ridx in
    state_in g.S.IndexStorage.number c.args.machine.now.stable.now c.args.stacks.now.states.items (c.len.result - c.to_usize-count.result - 1) c.index-below.result.now c.requires.states (omega (arith, lt, c.args.stacks.now.states.ok.0)) c.index-below.ensures

pub target-next-requires-clause-there : goal.target-next-requires-clause-there
target-next-requires-clause-there g c =
    let number = g.S.IndexStorage.number in
    let states = c.args.stacks.now.states in
    let lt = leaves g (goal.at.target-next-requires-clause-there g c).After-prod_to_rule-ridx in
    goes_to number c.args.machine.now.grm.now.grammar c.args.machine.now.stable.now (number c.args.pidx.0) c.to_usize-count.result c.len.result states.items (c.to_usize-count.ensures.value ∙ c.prod_len.ensures) lt (omega (arith, states.ok.0))
    (number c.index-below.result.now.0) (number c.prod_to_rule-ridx.result.0) (number_at number states.items (c.len.result - c.to_usize-count.result - 1) c.index-below.result.now c.index-below.ensures) c.prod_to_rule-ridx.ensures c.requires.goes

pub returns-clause-goes : goal.returns-clause-goes
returns-clause-goes g c = λ x.
    let number = g.S.IndexStorage.number in
    let states = c.args.stacks.now.states in
    let lt = leaves g (goal.at.returns-clause-goes g c).After-prod_to_rule-ridx in
    reduces_to number c.args.machine.now.grm.now.grammar c.args.machine.now.stable.now (number c.args.pidx.0) c.to_usize-count.result c.len.result states.items (c.to_usize-count.ensures.value ∙ c.prod_len.ensures) lt (omega (arith, states.ok.0))
    (number c.index-below.result.now.0) (number c.prod_to_rule-ridx.result.0) x (number_at number states.items (c.len.result - c.to_usize-count.result - 1) c.index-below.result.now c.index-below.ensures) c.prod_to_rule-ridx.ensures
    ∙ rw (c.target-next.ensures, c.in_ok-put_above.ensures, states_pushed number, reverse-append) refl

pub returns-clause-states : goal.returns-clause-states
returns-clause-states g c =
    rw c.in_ok-put_above.ensures (are_pushed g.S.IndexStorage.number c.args.machine.now.stable.now c.args.stacks.now.states.items (c.len.result - c.to_usize-count.result) c.target-next.result c.requires.states (c.args.machine.now.table.is_table.targets _ _ _ c.target-next.ensures))

pub returns-clause-held : goal.returns-clause-held
returns-clause-held g c = λ ts below f stands popped.
    let same = c.to_usize-count.ensures.value ∙ c.prod_len.ensures in
    c.in_ok-reduce.ensures.stands c.args.machine.now.grm.now.grammar ts below f c.prod_to_rule-ridx.ensures stands (rw same popped)
