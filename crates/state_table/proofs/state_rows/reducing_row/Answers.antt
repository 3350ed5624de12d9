use Rattle.std.proofs.Common.{◌≡◌, ◌<◌, ◌++◌, ◌∷◌, [], List, length, get_or, sym, ap, ◌∙◌, subst, arith, append-nil}
use Rattle.table_theory.specs.Cells.{ReduceReduce, ShiftReduce}
use Rattle.state_table.specs.CellRows.{AreApart, filled_row, lone_cells}
use Rattle.state_table.specs.CellViews.{pairs_of, parts_of, precedences_of, reductions_of, shifts_of, targets_of}
use Rattle.state_table.specs.Meeting.{rows_in}
use Rattle.state_table.proofs.LoneRows.{lone, lone_no_pairs, lone_no_shifts, lone_row, single}
use Rattle.state_table.proofs.TokenReductions.{row_in}
use Rattle.state_table.proofs.state_rows.reducing_row.Goals as goal

pub lone_row-requires-clause-width : goal.lone_row-requires-clause-width
lone_row-requires-clause-width g c =
    let a = c.len.ensures in
    let d = c.to_usize.ensures.bound in
    let u = c.if-len-to_usize.false in
    omega (arith, a, d, u)

pub returns-clause-row : goal.returns-clause-row
returns-clause-row g c =
    let number = g.S.IndexStorage.number in
    let G = c.args.source.now.grm.now.grammar in
    let precedences = precedences_of c.args.source.now.grm.now in
    let rows = rows_in c.args.source.now.sets.now in
    let x = parts_of number rows c.args.source.now.parts.now in
    let r = c.index-reduction.result.now in
    let p = number r.pidx.0 in
    let bits = c.index-sets-reduction.result.bits in
    let t = c.if-reduction-sets.false in
    let within : r.set < length c.args.source.now.sets.now = omega (arith, t) in
    let looks : get_or rows r.set [] ≡ bits = row_in c.args.source.now.sets.now r.set c.index-sets-reduction.result within c.index-sets-reduction.is in
    let one : x.reductions ≡ record { production = p; looks = bits } ∷ [] =
    ap (λ l. reductions_of number rows l) (single c.args.source.now.parts.now.reductions.items r c.requires.one c.index-reduction.ensures) ∙ ap (lone p) looks in
    let slice = c.as_slice-edges.ensures.value in
    let apart : AreApart bits x.shifts = subst (λ l. AreApart bits (targets_of number l)) slice (c.crosses.ensures c.if-crosses.false) in
    let a = c.len.ensures in
    let b = c.tokens_len.ensures in
    let d = c.to_usize.ensures.value in
    let u = c.if-len-to_usize.false in
    let width : length bits ≡ G.tokens = omega (arith, a, b, d, u) in
    c.in_ok-row.ensures ∙ (ap (λ l. filled_row (lone_cells p bits (targets_of number l)) (length bits)) slice
    ∙ (ap (λ n. filled_row (lone_cells p bits x.shifts) n) width ∙ lone_row G precedences x p bits one apart c.requires.quiet G.tokens))

pub returns-clause-pairs : goal.returns-clause-pairs
returns-clause-pairs g c =
    let number = g.S.IndexStorage.number in
    let G = c.args.source.now.grm.now.grammar in
    let precedences = precedences_of c.args.source.now.grm.now in
    let rows = rows_in c.args.source.now.sets.now in
    let x = parts_of number rows c.args.source.now.parts.now in
    let r = c.index-reduction.result.now in
    let p = number r.pidx.0 in
    let bits = c.index-sets-reduction.result.bits in
    let t = c.if-reduction-sets.false in
    let within : r.set < length c.args.source.now.sets.now = omega (arith, t) in
    let looks : get_or rows r.set [] ≡ bits = row_in c.args.source.now.sets.now r.set c.index-sets-reduction.result within c.index-sets-reduction.is in
    let one : x.reductions ≡ record { production = p; looks = bits } ∷ [] =
    ap (λ l. reductions_of number rows l) (single c.args.source.now.parts.now.reductions.items r c.requires.one c.index-reduction.ensures) ∙ ap (lone p) looks in
    let slice = c.as_slice-edges.ensures.value in
    let apart : AreApart bits x.shifts = subst (λ l. AreApart bits (targets_of number l)) slice (c.crosses.ensures c.if-crosses.false) in
    let old = pairs_of number c.args.pairs.now.items in
    sym (ap (λ (l : List ReduceReduce). old ++ l) (lone_no_pairs G precedences x p bits one apart (number c.args.source.now.stidx.0) G.tokens) ∙ append-nil old)

pub returns-clause-shifts : goal.returns-clause-shifts
returns-clause-shifts g c =
    let number = g.S.IndexStorage.number in
    let G = c.args.source.now.grm.now.grammar in
    let precedences = precedences_of c.args.source.now.grm.now in
    let rows = rows_in c.args.source.now.sets.now in
    let x = parts_of number rows c.args.source.now.parts.now in
    let r = c.index-reduction.result.now in
    let p = number r.pidx.0 in
    let bits = c.index-sets-reduction.result.bits in
    let t = c.if-reduction-sets.false in
    let within : r.set < length c.args.source.now.sets.now = omega (arith, t) in
    let looks : get_or rows r.set [] ≡ bits = row_in c.args.source.now.sets.now r.set c.index-sets-reduction.result within c.index-sets-reduction.is in
    let one : x.reductions ≡ record { production = p; looks = bits } ∷ [] =
    ap (λ l. reductions_of number rows l) (single c.args.source.now.parts.now.reductions.items r c.requires.one c.index-reduction.ensures) ∙ ap (lone p) looks in
    let slice = c.as_slice-edges.ensures.value in
    let apart : AreApart bits x.shifts = subst (λ l. AreApart bits (targets_of number l)) slice (c.crosses.ensures c.if-crosses.false) in
    let old = shifts_of number c.args.shifts.now.items in
    sym (ap (λ (l : List ShiftReduce). old ++ l) (lone_no_shifts G precedences x p bits one apart (number c.args.source.now.stidx.0) G.tokens) ∙ append-nil old)
