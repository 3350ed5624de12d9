use Rattle.std.proofs.Common.{arith}
use Rattle.lrpar.specs.Replay.{overlaid}
use Rattle.parse_trees.specs.Lex.{token_by}
use Rattle.lrpar.proofs.Tested.{delete_tells_read}
use Rattle.lrpar.proofs.repair.take_step.Goals as goal

pub returns-else-index-count-clause-tells : goal.returns-else-index-count-clause-tells
returns-else-index-count-clause-tells g c =
    rw c.in-Delete.is (delete_tells_read g.S.IndexStorage.MAX c.args.machine.now.grm.now.grammar c.args.machine.now.stable.now (token_by g.L.Lexeme.lex) c.args.machine.now.table c.args.index (overlaid g.S.IndexStorage.number c.args.base.now c.args.overlay.now) c.args.lexemes.now (omega arith))
