use Rattle.std.proofs.Common.{◌+◌, arith}
use Rattle.state_table.specs.Tables.{automaton_of}
use Rattle.lrpar.proofs.LongChain.{leads_more, leads_end, leads_all}
use Rattle.lrpar.proofs.chains.is_long.Goals as goal

pub returns-then-not-branch : goal.returns-then-not-branch
returns-then-not-branch g c = λ x. leads_end c.args.chains.now.grm.now.grammar (automaton_of x c.args.chains.now.stable.now) (g.S.IndexStorage.number c.args.tidx.0) c.chain.counter c.args.chains.now.limit _ _ (c.chain.invariant.leads x) (omega arith) (rw c.if-not-branch.true at (c.in_ok-reduce_once.ensures.ok x))

pub chain-preserved : goal.chain-preserved
chain-preserved g c = record {
  states = c.in_ok-reduce_once.ensures.states;
  some = c.in_ok-reduce_once.ensures.some;
  leads = λ x. leads_more c.args.chains.now.grm.now.grammar (automaton_of x c.args.chains.now.stable.now) (g.S.IndexStorage.number c.args.tidx.0) c.chain.counter _ _ _ (c.chain.invariant.leads x) (rw c.if-not-branch.false at (c.in_ok-reduce_once.ensures.ok x));
}

pub returns : goal.returns
returns g c = λ x. leads_all c.args.chains.now.grm.now.grammar (automaton_of x c.args.chains.now.stable.now) (g.S.IndexStorage.number c.args.tidx.0) c.chain.counter (c.args.chains.now.limit + 1) _ _ (c.chain.invariant.leads x) (omega arith) (omega arith)
