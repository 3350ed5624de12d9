use Rattle.std.proofs.Common.{◌<◌, ℕ, Some, length, sym, ap, ◌∙◌, arith}
use Rattle.std.proofs.lemmas.List.{get_or_default}
use Rattle.state_table.specs.CellViews.{targets_of}
use Rattle.state_table.specs.declared.stidx.StIdx.{StIdx}
use Rattle.state_table.proofs.Cursors.{past_end, other_number, same_number, target_at, targets_length}
use Rattle.state_table.proofs.state_rows.take_edge.Goals as goal

pub returns-then-index-shifts-clause-edge : goal.returns-then-index-shifts-clause-edge
returns-then-index-shifts-clause-edge g c =
    let number = g.S.IndexStorage.number in
    let n = targets_length number c.args.shifts.now in
    let t = c.if-index-shifts.true in
    sym (past_end (targets_of number c.args.shifts.now) c.args.next.now c.args.number c.requires.next (omega (arith, n, t))).0

pub returns-then-index-shifts-clause-next : goal.returns-then-index-shifts-clause-next
returns-then-index-shifts-clause-next g c =
    let number = g.S.IndexStorage.number in
    let n = targets_length number c.args.shifts.now in
    let t = c.if-index-shifts.true in
    (past_end (targets_of number c.args.shifts.now) c.args.next.now c.args.number c.requires.next (omega (arith, n, t))).1

pub returns-then-at-number-clause-edge : goal.returns-then-at-number-clause-edge
returns-then-at-number-clause-edge g c =
    let number = g.S.IndexStorage.number in
    let n = targets_length number c.args.shifts.now in
    let t = c.if-index-shifts.false in
    let x = c.index-shifts-index.result in
    let read = ap (λ (u : ℕ × StIdx g.row.S.Denot). u.0) c.index-shifts-index.is in
    let lt : c.args.next.now < length c.args.shifts.now = omega (arith, t) in
    sym (other_number (targets_of number c.args.shifts.now) c.args.next.now c.args.number (x.0, number x.1.0) c.requires.rises c.requires.next (omega (arith, n, lt)) (target_at number c.args.shifts.now c.args.next.now x lt c.index-shifts-index.is) (λ q. c.if-at-number.true (sym read ∙ q))).0

pub returns-then-at-number-clause-next : goal.returns-then-at-number-clause-next
returns-then-at-number-clause-next g c =
    let number = g.S.IndexStorage.number in
    let n = targets_length number c.args.shifts.now in
    let t = c.if-index-shifts.false in
    let x = c.index-shifts-index.result in
    let read = ap (λ (u : ℕ × StIdx g.row.S.Denot). u.0) c.index-shifts-index.is in
    let lt : c.args.next.now < length c.args.shifts.now = omega (arith, t) in
    (other_number (targets_of number c.args.shifts.now) c.args.next.now c.args.number (x.0, number x.1.0) c.requires.rises c.requires.next (omega (arith, n, lt)) (target_at number c.args.shifts.now c.args.next.now x lt c.index-shifts-index.is) (λ q. c.if-at-number.true (sym read ∙ q))).1

pub returns-clause-edge : goal.returns-clause-edge
returns-clause-edge g c =
    let number = g.S.IndexStorage.number in
    let n = targets_length number c.args.shifts.now in
    let t = c.if-index-shifts.false in
    let x = c.index-shifts-index.result in
    let read = ap (λ (u : ℕ × StIdx g.row.S.Denot). u.0) c.index-shifts-index.is in
    let lt : c.args.next.now < length c.args.shifts.now = omega (arith, t) in
    let e = (same_number (targets_of number c.args.shifts.now) c.args.next.now c.args.number (x.0, number x.1.0) c.requires.rises c.requires.next (omega (arith, n, lt)) (target_at number c.args.shifts.now c.args.next.now x lt c.index-shifts-index.is) (read ∙ c.if-at-number.false)).0 in
    let same = get_or_default c.args.shifts.now c.args.next.now c.index-shifts-index-2.result x lt ∙ sym c.index-shifts-index.is in
    ap (λ (u : ℕ × StIdx g.row.S.Denot). Some (number u.1.0)) same ∙ sym e

pub returns-clause-next : goal.returns-clause-next
returns-clause-next g c =
    let number = g.S.IndexStorage.number in
    let n = targets_length number c.args.shifts.now in
    let t = c.if-index-shifts.false in
    let x = c.index-shifts-index.result in
    let read = ap (λ (u : ℕ × StIdx g.row.S.Denot). u.0) c.index-shifts-index.is in
    let lt : c.args.next.now < length c.args.shifts.now = omega (arith, t) in
    (same_number (targets_of number c.args.shifts.now) c.args.next.now c.args.number (x.0, number x.1.0) c.requires.rises c.requires.next (omega (arith, n, lt)) (target_at number c.args.shifts.now c.args.next.now x lt c.index-shifts-index.is) (read ∙ c.if-at-number.false)).1
