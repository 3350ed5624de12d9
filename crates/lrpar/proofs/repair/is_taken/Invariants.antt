use Rattle.std.proofs.Common.{◌≤◌, length, drop}
use Rattle.lrpar.specs.Reducing.{stack_of}
use Rattle.lrpar.specs.Replay.{overlaid, IsOver}
use Rattle.parse_trees.specs.Lex.{token_by}
use Rattle.parse_trees.specs.Edits.{edits_of}
use Rattle.lrpar.proofs.Tested.{Follows}
use Rattle.lrpar.proofs.repair.is_taken.Given as goal

abbrev pub invariant-steps : goal.invariant-steps
invariant-steps g l = record {
  within : l.at ≤ length l.lexemes;
  over : IsOver g.S.IndexStorage.number l.machine.stable.now l.base l.overlay;
  follows : Follows g.S.IndexStorage.MAX l.machine.grm.now.grammar l.machine.stable.now (token_by g.L.Lexeme.lex) (edits_of g.S.IndexStorage.number l.steps) (stack_of g.S.IndexStorage.number l.base) (drop l.index l.lexemes) (edits_of g.S.IndexStorage.number (drop l.number l.steps)) (overlaid g.S.IndexStorage.number l.base l.overlay) (drop l.at l.lexemes);
}
