use Rattle.std.proofs.Common.{◌+◌, drop}
use Rattle.lrpar.specs.Replay.{overlaid}
use Rattle.parse_trees.specs.Lex.{token_by}
use Rattle.lrpar.proofs.NextLexeme.{drop_from}
use Rattle.lrpar.proofs.Tested.{keep_tells, keep_tells_not}
use Rattle.lrpar.proofs.repair.take_shift.Goals as goal

pub returns-then-not-branch-clause-tells : goal.returns-then-not-branch-clause-tells
returns-then-not-branch-clause-tells g c =
    let number = g.S.IndexStorage.number in
    let y = c.at.result in
    keep_tells_not g.S.IndexStorage.MAX c.args.machine.now.grm.now.grammar c.args.machine.now.stable.now (token_by g.L.Lexeme.lex) c.args.machine.now.table y (drop (c.args.index + 1) c.args.lexemes.now) (number c.tok_id.result) (overlaid number c.args.base.now c.args.overlay.now) (overlaid number c.args.base.now c.shift_on.new.overlay) (drop c.args.index c.args.lexemes.now) c.args.lexemes.now c.tok_id.ensures (drop_from c.args.lexemes.now c.args.index y c.at.ensures) (λ x. rw c.if-not-branch.true at (c.in_ok-shift_on.ensures.shifts x))

pub returns-clause-tells : goal.returns-clause-tells
returns-clause-tells g c =
    let number = g.S.IndexStorage.number in
    let y = c.at.result in
    keep_tells g.S.IndexStorage.MAX c.args.machine.now.grm.now.grammar c.args.machine.now.stable.now (token_by g.L.Lexeme.lex) c.args.machine.now.table y (number c.tok_id.result) c.args.index (overlaid number c.args.base.now c.args.overlay.now) (overlaid number c.args.base.now c.shift_on.new.overlay) c.args.lexemes.now c.tok_id.ensures (drop_from c.args.lexemes.now c.args.index y c.at.ensures) (λ x. rw c.if-not-branch.false at (c.in_ok-shift_on.ensures.shifts x))
