use Rattle.std.proofs.Common.{◌++◌, ap, ◌∙◌, List}
use Rattle.lr_theory.specs.Automaton.{Action}
use Rattle.table_theory.specs.Cells.{ShiftReduce, pairs_at}
use Rattle.state_table.specs.CellRows.{filled, first_of, reductions_on}
use Rattle.state_table.specs.CellViews.{action_of, cells_of, pairs_of, parts_of, precedences_of, production_of, reductions_of, shifts_of, state_of}
use Rattle.state_table.specs.Meeting.{rows_in}
use Rattle.state_table.proofs.TokenReductions.{first_within}
use Rattle.state_table.proofs.CellSteps.{token_cell, token_shift}
use Rattle.state_table.proofs.state_rows.settle_token.Goals as goal

pub list_shift-requires-clause-production : goal.list_shift-requires-clause-production
list_shift-requires-clause-production g c =
    let number = g.S.IndexStorage.number in
    let sets = rows_in c.args.source.now.sets.now in
    let t = number c.args.tidx.0 in
    first_within number c.in_ok-first.first _ (reductions_of number sets c.args.source.now.parts.now.reductions.items) t c.requires.fits.productions (c.in_ok-first.ensures.first ∙ ap (λ l. first_of (reductions_on (reductions_of number sets l) t)) c.as_slice-reductions.ensures.value)

pub cell_on-cell-requires-clause-production : goal.cell_on-cell-requires-clause-production
cell_on-cell-requires-clause-production g c =
    let number = g.S.IndexStorage.number in
    let sets = rows_in c.args.source.now.sets.now in
    let t = number c.args.tidx.0 in
    first_within number c.in_ok-first.first _ (reductions_of number sets c.args.source.now.parts.now.reductions.items) t c.requires.fits.productions (c.in_ok-first.ensures.first ∙ ap (λ l. first_of (reductions_on (reductions_of number sets l) t)) c.as_slice-reductions.ensures.value)

pub returns-clause-row : goal.returns-clause-row
returns-clause-row g c =
    let number = g.S.IndexStorage.number in
    let sets = rows_in c.args.source.now.sets.now in
    let G = c.args.source.now.grm.now.grammar in
    let t = number c.args.tidx.0 in
    let old = cells_of number c.args.row.now.items in
    let parts = parts_of number sets c.args.source.now.parts.now in
    let first = production_of number c.in_ok-first.first in
    let edge = state_of number c.args.edge in
    let cell = action_of number c.cell_on-cell.result in
    c.in_ok-put_cell.ensures
    ∙ ap (λ (a : Action). old ++ filled t a) (token_cell G (precedences_of c.args.source.now.grm.now) parts t c.accepts_on-accepts.result first edge cell c.accepts_on-accepts.ensures (c.in_ok-first.ensures.first ∙ ap (λ l. first_of (reductions_on (reductions_of number sets l) t)) c.as_slice-reductions.ensures.value) c.requires.edge c.cell_on-cell.ensures)

pub returns-clause-pairs : goal.returns-clause-pairs
returns-clause-pairs g c =
    let number = g.S.IndexStorage.number in
    let t = number c.args.tidx.0 in
    c.in_ok-first.ensures.listed ∙ ap (λ l. pairs_of number c.args.pairs.now.items ++ pairs_at (number c.args.source.now.stidx.0) t (reductions_on (reductions_of number (rows_in c.args.source.now.sets.now) l) t)) c.as_slice-reductions.ensures.value

pub returns-clause-shifts : goal.returns-clause-shifts
returns-clause-shifts g c =
    let number = g.S.IndexStorage.number in
    let sets = rows_in c.args.source.now.sets.now in
    let t = number c.args.tidx.0 in
    let parts = parts_of number sets c.args.source.now.parts.now in
    let first = production_of number c.in_ok-first.first in
    let edge = state_of number c.args.edge in
    c.in_ok-list_shift.ensures
    ∙ ap (λ (l : List ShiftReduce). shifts_of number c.args.shifts.now.items ++ l) (token_shift (precedences_of c.args.source.now.grm.now) parts (number c.args.source.now.stidx.0) t first edge (c.in_ok-first.ensures.first ∙ ap (λ l. first_of (reductions_on (reductions_of number sets l) t)) c.as_slice-reductions.ensures.value) c.requires.edge)
