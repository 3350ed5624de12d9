use Rattle.std.proofs.Common.{◌≡◌, ◌++◌, ℕ, List, sym, subst, ap, ◌∙◌, append-nil}
use Rattle.lr_theory.specs.Automaton.{Action}
use Rattle.table_theory.specs.Cells.{ReduceReduce, ShiftReduce}
use Rattle.state_table.specs.CellRows.{IsPlain, filled, reductions_on}
use Rattle.state_table.specs.CellViews.{action_of, cells_of, pairs_of, parts_of, precedences_of, reductions_of, shifts_of, state_of}
use Rattle.state_table.specs.Meeting.{rows_in}
use Rattle.state_table.proofs.PlainCells.{plain_cell, plain_pairs, plain_shifts}
use Rattle.state_table.proofs.state_rows.put_token.Goals as goal

pub returns-in_ok-put_cell-in-Some-clause-row : goal.returns-in_ok-put_cell-in-Some-clause-row
returns-in_ok-put_cell-in-Some-clause-row g c =
    let number = g.S.IndexStorage.number in
    let sets = rows_in c.args.source.now.sets.now in
    let parts = parts_of number sets c.args.source.now.parts.now in
    let t = number c.args.tidx.0 in
    let old = cells_of number c.args.row.now.items in
    let a = action_of number c.in-Some.cell in
    let edge = state_of number c.args.edge in
    let e : c.to_usize-number.result ≡ t = c.to_usize-number.ensures.value in
    let p = subst (λ (n : ℕ). IsPlain (reductions_on (reductions_of number sets c.args.source.now.parts.now.reductions.items) n) edge a) e c.in-Some.ensures.plain in
    c.in_ok-put_cell-in-Some.ensures
    ∙ ap (λ (x : Action). old ++ filled t x) (plain_cell parts t edge a c.requires.edge p c.args.source.now.grm.now.grammar (precedences_of c.args.source.now.grm.now) c.in-Some.ensures.quiet)

pub returns-in_ok-put_cell-in-Some-clause-pairs : goal.returns-in_ok-put_cell-in-Some-clause-pairs
returns-in_ok-put_cell-in-Some-clause-pairs g c =
    let number = g.S.IndexStorage.number in
    let sets = rows_in c.args.source.now.sets.now in
    let parts = parts_of number sets c.args.source.now.parts.now in
    let t = number c.args.tidx.0 in
    let a = action_of number c.in-Some.cell in
    let edge = state_of number c.args.edge in
    let old = pairs_of number c.args.pairs.now.items in
    let e : c.to_usize-number.result ≡ t = c.to_usize-number.ensures.value in
    let p = subst (λ (n : ℕ). IsPlain (reductions_on (reductions_of number sets c.args.source.now.parts.now.reductions.items) n) edge a) e c.in-Some.ensures.plain in
    sym (ap (λ (l : List ReduceReduce). old ++ l) (plain_pairs parts t edge a c.requires.edge p (number c.args.source.now.stidx.0)) ∙ append-nil old)

pub returns-in_ok-put_cell-in-Some-clause-shifts : goal.returns-in_ok-put_cell-in-Some-clause-shifts
returns-in_ok-put_cell-in-Some-clause-shifts g c =
    let number = g.S.IndexStorage.number in
    let sets = rows_in c.args.source.now.sets.now in
    let parts = parts_of number sets c.args.source.now.parts.now in
    let t = number c.args.tidx.0 in
    let a = action_of number c.in-Some.cell in
    let edge = state_of number c.args.edge in
    let old = shifts_of number c.args.shifts.now.items in
    let e : c.to_usize-number.result ≡ t = c.to_usize-number.ensures.value in
    let p = subst (λ (n : ℕ). IsPlain (reductions_on (reductions_of number sets c.args.source.now.parts.now.reductions.items) n) edge a) e c.in-Some.ensures.plain in
    sym (ap (λ (l : List ShiftReduce). old ++ l) (plain_shifts parts t edge a c.requires.edge p (precedences_of c.args.source.now.grm.now) (number c.args.source.now.stidx.0)) ∙ append-nil old)
