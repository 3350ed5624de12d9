use Rattle.lrpar.specs.Replay.{overlaid, IsOver}
use Rattle.parse_trees.specs.Lex.{token_by}
use Rattle.lrpar.proofs.NextTold.{ComesWith}
use Rattle.lrpar.proofs.next_tokens.states_behind.Given as goal

abbrev pub invariant-lexemes : goal.invariant-lexemes
invariant-lexemes g l = record {
  over : IsOver g.S.IndexStorage.number l.machine.stable.now l.base.items l.overlay;
  comes : ComesWith l.machine.grm.now.grammar l.machine.stable.now (token_by g.L.Lexeme.lex) l.lexemes l.index (overlaid g.S.IndexStorage.number l.base.items l.overlay);
}
