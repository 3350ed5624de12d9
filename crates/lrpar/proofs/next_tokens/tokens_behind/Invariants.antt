use Rattle.state_table.specs.Graphs.{GraphValue}
use Rattle.state_table.specs.Tables.{automaton_of}
use Rattle.lrpar.specs.NextStates.{TellBelow}
use Rattle.lrpar.specs.Reducing.{stack_of}
use Rattle.lrpar.proofs.next_tokens.tokens_behind.Given as goal

abbrev pub invariant-tokens : goal.invariant-tokens
invariant-tokens g l = (x : GraphValue) → TellBelow l.machine.grm.now.grammar (automaton_of x l.machine.stable.now) (stack_of g.S.IndexStorage.number l.base) l.number l.bits.bits
