use Rattle.std.proofs.Common.{◌≡◌, ◌++◌, [], List, sym, ap, ◌∙◌, arith, append-nil}
use Rattle.table_theory.specs.Cells.{ReduceReduce, ShiftReduce}
use Rattle.state_table.specs.CellRows.{filled_row, shift_to}
use Rattle.state_table.specs.CellViews.{pairs_of, parts_of, precedences_of, reductions_of, shifts_of, targets_of}
use Rattle.state_table.specs.Meeting.{rows_in}
use Rattle.state_table.specs.Rows.{at_of}
use Rattle.state_table.proofs.LoneRows.{no_item, shifts_no_pairs, shifts_no_shifts, shifts_row}
use Rattle.state_table.proofs.state_rows.state_row.Goals as goal

pub returns-then-reductions-eq0-clause-row : goal.returns-then-reductions-eq0-clause-row
returns-then-reductions-eq0-clause-row g c =
    let number = g.S.IndexStorage.number in
    let G = c.args.source.now.grm.now.grammar in
    let precedences = precedences_of c.args.source.now.grm.now in
    let rows = rows_in c.args.source.now.sets.now in
    let x = parts_of number rows c.args.source.now.parts.now in
    let a = c.len-reductions.ensures in
    let e = c.if-reductions-eq0.true in
    let none : x.reductions ≡ [] = ap (λ l. reductions_of number rows l) (no_item c.args.source.now.parts.now.reductions.items (omega (arith, a, e))) in
    let slice = c.as_slice.ensures.value in
    let width = c.to_usize.ensures.value ∙ c.tokens_len.ensures in
    c.in_ok-row.ensures ∙ (ap (λ l. filled_row (λ t. shift_to (at_of (targets_of number l) t)) c.to_usize.result) slice
    ∙ (ap (λ n. filled_row (λ t. shift_to (at_of x.shifts t)) n) width ∙ shifts_row G precedences x none c.if-accepts.false G.tokens))

pub returns-then-reductions-eq0-clause-pairs : goal.returns-then-reductions-eq0-clause-pairs
returns-then-reductions-eq0-clause-pairs g c =
    let number = g.S.IndexStorage.number in
    let G = c.args.source.now.grm.now.grammar in
    let precedences = precedences_of c.args.source.now.grm.now in
    let rows = rows_in c.args.source.now.sets.now in
    let x = parts_of number rows c.args.source.now.parts.now in
    let a = c.len-reductions.ensures in
    let e = c.if-reductions-eq0.true in
    let none : x.reductions ≡ [] = ap (λ l. reductions_of number rows l) (no_item c.args.source.now.parts.now.reductions.items (omega (arith, a, e))) in
    let old = pairs_of number c.args.pairs.now.items in
    sym (ap (λ (l : List ReduceReduce). old ++ l) (shifts_no_pairs G precedences x none (number c.args.source.now.stidx.0) G.tokens) ∙ append-nil old)

pub returns-then-reductions-eq0-clause-shifts : goal.returns-then-reductions-eq0-clause-shifts
returns-then-reductions-eq0-clause-shifts g c =
    let number = g.S.IndexStorage.number in
    let G = c.args.source.now.grm.now.grammar in
    let precedences = precedences_of c.args.source.now.grm.now in
    let rows = rows_in c.args.source.now.sets.now in
    let x = parts_of number rows c.args.source.now.parts.now in
    let a = c.len-reductions.ensures in
    let e = c.if-reductions-eq0.true in
    let none : x.reductions ≡ [] = ap (λ l. reductions_of number rows l) (no_item c.args.source.now.parts.now.reductions.items (omega (arith, a, e))) in
    let old = shifts_of number c.args.shifts.now.items in
    sym (ap (λ (l : List ShiftReduce). old ++ l) (shifts_no_shifts G precedences x none (number c.args.source.now.stidx.0) G.tokens) ∙ append-nil old)
