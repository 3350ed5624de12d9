use Rattle.std.proofs.Common.{◌≡◌, ◌≤◌, ◌++◌, List, length, drop}
use Rattle.lr_theory.specs.Machine.{Config}
use Rattle.lr_theory.specs.Repair.{with_rest, Takes}
use Rattle.lr_theory.specs.Stack.{stack_yield}
use Rattle.state_table.specs.Tables.{automaton_of}
use Rattle.lrpar.specs.Made.{made_by, end_of}
use Rattle.lrpar.specs.Run.{StartsByNext, StandFor, AreStacks}
use Rattle.parse_trees.specs.Lex.{token_by}
use Rattle.parse_trees.specs.Edits.{edits_of}
use Rattle.lrpar.specs.Applied.{GoesOnWay}
use Rattle.lrpar.proofs.apply.apply_steps.Given as goal

abbrev pub invariant-steps : goal.invariant-steps
invariant-steps g l = record {
  keeps : g.V.ValueStack.keeps l.initial.stacks.values l.stacks.values;
  within : l.index ≤ length l.lexemes;
  stacks : AreStacks g.S.IndexStorage.number l.machine.stable.now l.stacks;
  starts : StartsByNext g.L.Lexeme.lex (g.V.ValueStack.starts_by l.stacks.values) l.lexemes l.index;
  on : (input : List g.row.L.Denot) (d : Config g.row.L.Denot) → StandFor g.S.IndexStorage.number g.L.Lexeme.lex l.machine.grm.now.grammar l.machine.sgraph.now l.machine.stable.now (g.V.ValueStack.stands l.machine.grm.now.grammar) input l.initial.stacks d → d.rest ≡ drop l.fn.at l.lexemes →
      (k : Takes l.machine.grm.now.grammar (automaton_of l.machine.sgraph.now l.machine.stable.now) (token_by g.L.Lexeme.lex) (made_by g.L.Lexeme.faulty_of g.L.Lexeme.lex (end_of g.L.Lexeme.lex l.lexemes)) d (edits_of g.S.IndexStorage.number l.steps)) →
      GoesOnWay g.S.IndexStorage.number g.L.Lexeme.lex l.machine.grm.now.grammar l.machine.sgraph.now l.machine.stable.now (g.V.ValueStack.stands l.machine.grm.now.grammar) (made_by g.L.Lexeme.faulty_of g.L.Lexeme.lex (end_of g.L.Lexeme.lex l.lexemes)) (stack_yield d.trees ++ (k.put ++ k.left)) (with_rest d (k.put ++ k.left)) l.stacks (drop l.index l.lexemes) (edits_of g.S.IndexStorage.number (drop l.number l.steps)) k.left;
}
