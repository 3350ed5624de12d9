use Rattle.lrpar.specs.Reducing.{IsTableFor}
use Rattle.lrpar.proofs.FittingStates.{table_for_of}
use Rattle.lrpar.proofs.parserdata.judge_chains.Goals as goal
use Rattle.lrpar.proofs.parserdata.judge_chains.Goals.{After-states_len}

table_here : (g : _) (c : After-states_len g) → IsTableFor c.args.grm.now.grammar c.args.stable.now
table_here g c = table_for_of c.args.grm.now.grammar c.args.sgraph.now c.args.stable.now g.S.IndexStorage.MAX c.all_states_len.ensures.graph c.states_len.ensures.rows c.requires.counts c.start_prod.ensures.well_formed c.requires.safe

pub invariant_of-chains : goal.invariant_of-chains
invariant_of-chains g c = record { table = table_here g (goal.at.invariant_of-chains g c).After-states_len }

pub returns-in-Some-clause-refused : goal.returns-in-Some-clause-refused
returns-in-Some-clause-refused g c = rw c.in-Some.is at (c.in_ok-chain.ensures c.args.sgraph.now)

pub returns-clause-checked : goal.returns-clause-checked
returns-clause-checked g c = record {
  pair = c.requires;
  table = table_here g (goal.at.returns-clause-checked g c).After-states_len;
  chains = λ x. rw c.in_default.is at (c.in_ok-chain.ensures x);
}
