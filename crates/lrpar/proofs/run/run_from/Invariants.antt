use Rattle.std.proofs.Common.{◌≡◌, ◌≤◌, ◌-◌, ℕ, List, length, drop}
use Rattle.lr_theory.specs.Machine.{Config}
use Rattle.lrpar.specs.Run.{StartsByNext, StandFor, AreStacks, GoesOn}
use Rattle.lrpar.proofs.run.run_from.Given as goal

abbrev pub invariant-lexemes : goal.invariant-lexemes
invariant-lexemes g l = record {
  keeps : g.V.ValueStack.keeps l.initial.stacks.values l.stacks.values;
  within : l.at ≤ length l.lexemes;
  stacks : AreStacks g.S.IndexStorage.number l.machine.stable.now l.stacks;
  starts : StartsByNext g.L.Lexeme.lex (g.V.ValueStack.starts_by l.stacks.values) l.lexemes l.at;
  on : (input : List g.row.L.Denot) (d : Config g.row.L.Denot) → StandFor g.S.IndexStorage.number g.L.Lexeme.lex l.machine.grm.now.grammar l.machine.sgraph.now l.machine.stable.now (g.V.ValueStack.stands l.machine.grm.now.grammar) input l.initial.stacks d → d.rest ≡ drop l.fn.index l.lexemes →
      (steps : ℕ) × GoesOn g.S.IndexStorage.number g.L.Lexeme.lex l.machine.grm.now.grammar l.machine.sgraph.now l.machine.stable.now (g.V.ValueStack.stands l.machine.grm.now.grammar) input steps d l.stacks (drop l.at l.lexemes);
}

abbrev pub decreases-lexemes : goal.decreases-lexemes
decreases-lexemes g l = length l.lexemes - l.at
