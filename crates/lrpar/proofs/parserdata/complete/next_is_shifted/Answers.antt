use Rattle.std.proofs.Common.{◌≡◌, Some, sym, arith}
use Rattle.cfg_theory.specs.Grammar.{token, symbol_at}
use Rattle.state_table.specs.CellViews.{action_of}
use Rattle.lrpar.proofs.Completed.{next_tells}
use Rattle.lrpar.proofs.parserdata.complete.next_is_shifted.Goals as goal
use Rattle.lrpar.proofs.parserdata.complete.next_is_shifted.Goals.{In-Some-Token}

next : (g : _) (c : In-Some-Token g) → symbol_at c.args.machine.now.grm.now.grammar (g.S.IndexStorage.number c.args.pidx.0) (g.S.IndexStorage.number c.args.dot.0) ≡ Some (token (g.S.IndexStorage.number c.in-Some-Token.tidx.0))
next g c =
    let number = g.S.IndexStorage.number in
    rw (c.in-Some-Token.is, c.in-Some-Token.field-0-is) at (sym c.next_of.ensures)

pub action-requires-clause-token : goal.action-requires-clause-token
action-requires-clause-token g c =
    let number = g.S.IndexStorage.number in
    let lt = c.args.machine.now.table.well_formed.symbols (number c.args.pidx.0) (number c.args.dot.0) (token (number c.in-Some-Token.tidx.0)) (record { at = next g (goal.at.action-requires-clause-token g c).In-Some-Token }) in
    omega (arith, lt, c.args.machine.now.table.tokens)

pub returns-in-Some-Token : goal.returns-in-Some-Token
returns-in-Some-Token g c =
    let number = g.S.IndexStorage.number in
    next_tells c.args.machine.now.grm.now.grammar c.args.machine.now.stable.now (number c.args.state.0) (number c.args.pidx.0) (number c.args.dot.0) (number c.in-Some-Token.tidx.0) (action_of number c.action.result) c.is_shift.result (next g (goal.at.returns-in-Some-Token g c).In-Some-Token) c.action.ensures c.is_shift.ensures
