use Rattle.std.proofs.Common.{drop, arith}
use Rattle.lrpar.specs.Replay.{overlaid}
use Rattle.parse_trees.specs.Lex.{token_by}
use Rattle.lrpar.proofs.Tested.{insert_tells, insert_tells_not, insert_tells_past}
use Rattle.lrpar.proofs.repair.take_insert.Goals as goal

pub returns-then-to_usize-clause-tells : goal.returns-then-to_usize-clause-tells
returns-then-to_usize-clause-tells g c =
    let number = g.S.IndexStorage.number in
    let value = c.to_usize.ensures.value in
    let bound = c.to_usize.ensures.bound in
    let eof = c.to_usize-2.ensures.value in
    let end = c.eof_token_idx.ensures.value in
    insert_tells_past g.S.IndexStorage.MAX c.args.machine.now.grm.now.grammar c.args.machine.now.stable.now (token_by g.L.Lexeme.lex) c.args.machine.now.table (number c.args.tidx.0) (overlaid number c.args.base.now c.args.overlay.now) (overlaid number c.args.base.now c.args.overlay.now) (drop c.args.index c.args.lexemes.now) c.args.lexemes.now (omega (arith, value, bound)) (omega (arith, value, eof, end))

pub returns-then-not-branch-clause-tells : goal.returns-then-not-branch-clause-tells
returns-then-not-branch-clause-tells g c =
    let number = g.S.IndexStorage.number in
    let value = c.to_usize.ensures.value in
    let bound = c.to_usize.ensures.bound in
    let eof = c.to_usize-2.ensures.value in
    let end = c.eof_token_idx.ensures.value in
    insert_tells_not g.S.IndexStorage.MAX c.args.machine.now.grm.now.grammar c.args.machine.now.stable.now (token_by g.L.Lexeme.lex) c.args.machine.now.table (number c.args.tidx.0) (overlaid number c.args.base.now c.args.overlay.now) (overlaid number c.args.base.now c.shift_on.new.overlay) (drop c.args.index c.args.lexemes.now) c.args.lexemes.now (omega (arith, value, bound)) (omega (arith, value, eof, end)) (λ x. rw c.if-not-branch.true at (c.in_ok-shift_on.ensures.shifts x))

pub returns-clause-tells : goal.returns-clause-tells
returns-clause-tells g c =
    let number = g.S.IndexStorage.number in
    let value = c.to_usize.ensures.value in
    let bound = c.to_usize.ensures.bound in
    let eof = c.to_usize-2.ensures.value in
    let end = c.eof_token_idx.ensures.value in
    insert_tells g.S.IndexStorage.MAX c.args.machine.now.grm.now.grammar c.args.machine.now.stable.now (token_by g.L.Lexeme.lex) c.args.machine.now.table (number c.args.tidx.0) c.args.index (overlaid number c.args.base.now c.args.overlay.now) (overlaid number c.args.base.now c.shift_on.new.overlay) c.args.lexemes.now (omega (arith, value, bound)) (omega (arith, value, eof, end)) (λ x. rw c.if-not-branch.false at (c.in_ok-shift_on.ensures.shifts x))
