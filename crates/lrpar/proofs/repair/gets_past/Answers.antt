use Rattle.std.proofs.Common.{◌+◌, drop, arith}
use Rattle.std.proofs.lemmas.List.{drop_all}
use Rattle.lrpar.specs.Replay.{overlaid}
use Rattle.parse_trees.specs.Lex.{token_by}
use Rattle.lrpar.proofs.NextLexeme.{drop_from}
use Rattle.lrpar.proofs.Tested.{past_tells, end_tells}
use Rattle.lrpar.proofs.repair.gets_past.Goals as goal

pub shift_on-requires-clause-token : goal.shift_on-requires-clause-token
shift_on-requires-clause-token g c =
    let y = c.at.result in
    let lt = c.requires.inside c.args.index y c.at.ensures in
    let same = c.args.machine.now.table.tokens in
    let is = c.tok_id.ensures in
    omega (arith, lt, same, is)

pub returns-then-index-len : goal.returns-then-index-len
returns-then-index-len g c =
    let number = g.S.IndexStorage.number in
    let n = c.len.ensures in
    end_tells g.S.IndexStorage.MAX c.args.machine.now.grm.now.grammar c.args.machine.now.stable.now (token_by g.L.Lexeme.lex) c.args.machine.now.table (overlaid number c.args.base.now c.args.overlay.now) (drop c.args.index c.args.lexemes.now) c.in_ok-past.past (drop_all c.args.index c.args.lexemes.now (omega (arith, n))) c.in_ok-past.ensures

pub returns : goal.returns
returns g c =
    let number = g.S.IndexStorage.number in
    let y = c.at.result in
    past_tells g.S.IndexStorage.MAX c.args.machine.now.grm.now.grammar c.args.machine.now.stable.now (token_by g.L.Lexeme.lex) c.args.machine.now.table y (drop (c.args.index + 1) c.args.lexemes.now) (number c.tok_id.result) (overlaid number c.args.base.now c.args.overlay.now) (overlaid number c.args.base.now c.shift_on.new.overlay) (drop c.args.index c.args.lexemes.now) c.in_ok-past-2.past c.tok_id.ensures (drop_from c.args.lexemes.now c.args.index y c.at.ensures) c.in_ok-past-2.ensures.shifts
