use Rattle.std.proofs.Common.{◌≤◌, ◌+◌, ◌-◌, length, drop}
use Rattle.lrpar.specs.Made.{made_by, end_of}
use Rattle.lrpar.specs.Parsing.{errors_of, Underway}
use Rattle.lrpar.specs.Run.{StartsByNext, AreStacks}
use Rattle.lrpar.proofs.parse.parse_lexemes.Given as goal

abbrev pub invariant-errors : goal.invariant-errors
invariant-errors g l = record {
  within : l.at ≤ length l.lexemes;
  stacks : AreStacks g.S.IndexStorage.number l.machine.stable.now l.stack;
  starts : StartsByNext g.L.Lexeme.lex (g.V.ValueStack.starts_by l.stack.values) l.lexemes l.at;
  kept : g.V.ValueStack.keeps l.fn.values l.stack.values;
  on : Underway g.S.IndexStorage.number g.L.Lexeme.lex l.machine.grm.now.grammar l.machine.sgraph.now l.machine.stable.now (g.V.ValueStack.stands l.machine.grm.now.grammar) (made_by g.L.Lexeme.faulty_of g.L.Lexeme.lex (end_of g.L.Lexeme.lex l.lexemes)) (g.R.Recoverer.answers l.recoverer) l.lexemes (errors_of g.S.IndexStorage.number l.errors.items) l.stack (drop l.at l.lexemes);
}

abbrev pub decreases-errors : goal.decreases-errors
decreases-errors g l = length l.lexemes + 1 - length l.errors.items
