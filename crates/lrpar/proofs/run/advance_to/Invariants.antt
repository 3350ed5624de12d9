use Rattle.std.proofs.Common.{◌+◌, ◌*◌, ℕ, List, [], length}
use Rattle.cfg_theory.specs.Grammar.{end_token}
use Rattle.lr_theory.specs.Chains.{Reductions}
use Rattle.lr_theory.specs.Machine.{Config}
use Rattle.state_table.specs.Graphs.{GraphValue}
use Rattle.state_table.specs.Tables.{automaton_of}
use Rattle.lrpar.specs.Reducing.{stack_of}
use Rattle.lrpar.specs.Run.{StandFor, AreStacks, GoesOn, token_of, NextOf, StartsKept}
use Rattle.parse_trees.specs.Lex.{token_by}
use Rattle.lrpar.proofs.Room.{room}
use Rattle.lrpar.proofs.run.advance_to.Given as goal

abbrev pub invariant-turns : goal.invariant-turns
invariant-turns g l = record {
  stacks : AreStacks g.S.IndexStorage.number l.machine.stable.now l.stacks;
  keeps : g.V.ValueStack.keeps l.initial.stacks.values l.stacks.values;
  starts : StartsKept (g.V.ValueStack.starts_by l.initial.stacks.values) (g.V.ValueStack.starts_by l.stacks.values);
  short : (x : GraphValue) → Reductions l.machine.grm.now.grammar (automaton_of x l.machine.stable.now) (token_of (token_by g.L.Lexeme.lex) (end_token l.machine.grm.now.grammar) l.next) (length l.initial.stacks.states.items * (l.machine.limit + 1)) (stack_of g.S.IndexStorage.number l.stacks.states.items) → ⊥;
  on : (input : List g.row.L.Denot) (d : Config g.row.L.Denot) → StandFor g.S.IndexStorage.number g.L.Lexeme.lex l.machine.grm.now.grammar l.machine.sgraph.now l.machine.stable.now (g.V.ValueStack.stands l.machine.grm.now.grammar) input l.initial.stacks d → NextOf l.next d.rest →
      (steps : ℕ) × GoesOn g.S.IndexStorage.number g.L.Lexeme.lex l.machine.grm.now.grammar l.machine.sgraph.now l.machine.stable.now (g.V.ValueStack.stands l.machine.grm.now.grammar) input steps d l.stacks d.rest;
}

abbrev pub decreases-turns : goal.decreases-turns
decreases-turns g l = room l.machine.grm.now.grammar (automaton_of (record { start = 0; cores = []; closed = []; edges = [] }) l.machine.stable.now) (token_of (token_by g.L.Lexeme.lex) (end_token l.machine.grm.now.grammar) l.next) (length l.initial.stacks.states.items * (l.machine.limit + 1)) (stack_of g.S.IndexStorage.number l.stacks.states.items)
