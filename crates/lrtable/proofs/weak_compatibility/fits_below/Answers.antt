use Rattle.std.proofs.Common.{arith, below_more, sym, ◌∙◌}
use Rattle.std.proofs.lemmas.List.{length-map}
use Rattle.vob.specs.Packed.{Contents}
use Rattle.state_table.specs.Meeting.{rows_in}
use Rattle.lrtable.specs.MovedItems.{rows_from}
use Rattle.lrtable.proofs.MovedRows.{count, row_of_moved, some_tokens}
use Rattle.lrtable.proofs.Shared.{alike_at, alike_left, row_of, fits_rows, apart_rows}
use Rattle.lrtable.proofs.weak_compatibility.fits_below.Goals as goal

pub row-bi-requires : goal.row-bi-requires
row-bi-requires g c =
    let n = count c.args.rows.now c.args.b.now in
    let m = length-map c.args.a.now (λ (v : Contents). v.bits) in
    let e = c.requires.alike.count in
    let lt = c.each-test.true in
    let in_a = c.requires.within in
    some_tokens c.args.rows.now c.args.b.now c.each.i c.index-b-i.result (omega (arith, n, m, e, lt, in_a)) c.requires.wide

pub row-bj-requires : goal.row-bj-requires
row-bj-requires g c =
    let n = count c.args.rows.now c.args.b.now in
    let m = length-map c.args.a.now (λ (v : Contents). v.bits) in
    let e = c.requires.alike.count in
    let in_a = c.requires.within in
    some_tokens c.args.rows.now c.args.b.now c.args.j c.index-b-j.result (omega (arith, n, m, e, in_a)) c.requires.wide

pub pair_fits-requires-clause-one : goal.pair_fits-requires-clause-one
pair_fits-requires-clause-one g c =
    let n = count c.args.rows.now c.args.b.now in
    let m = length-map c.args.a.now (λ (v : Contents). v.bits) in
    let e = c.requires.alike.count in
    let lt = c.each-test.true in
    let in_a = c.requires.within in
    alike_at (rows_in c.args.a.now) (rows_from c.args.rows.now c.args.b.now) c.requires.alike c.each.i c.args.j c.index-a-i.result.bits c.row-bj.result.now.bits (omega (arith, m, lt, in_a)) (omega (arith, m, e, in_a)) (row_of c.args.a.now c.each.i c.index-a-i.result (omega (arith, lt, in_a)) c.index-a-i.is)
    (row_of_moved c.args.rows.now c.args.b.now c.args.j c.index-b-j.result (omega (arith, n, m, e, in_a)) ∙ sym c.row-bj.ensures)

pub pair_fits-requires-clause-other : goal.pair_fits-requires-clause-other
pair_fits-requires-clause-other g c =
    let n = count c.args.rows.now c.args.b.now in
    let m = length-map c.args.a.now (λ (v : Contents). v.bits) in
    let e = c.requires.alike.count in
    let lt = c.each-test.true in
    let in_a = c.requires.within in
    sym
    (alike_at (rows_in c.args.a.now) (rows_from c.args.rows.now c.args.b.now) c.requires.alike c.args.j c.each.i c.index-a-j.result.bits c.row-bi.result.now.bits (omega (arith, m, in_a)) (omega (arith, m, e, lt, in_a)) (row_of c.args.a.now c.args.j c.index-a-j.result in_a c.index-a-j.is)
    (row_of_moved c.args.rows.now c.args.b.now c.each.i c.index-b-i.result (omega (arith, n, m, e, lt, in_a)) ∙ sym c.row-bi.ensures))

pub pair_fits-requires-clause-both : goal.pair_fits-requires-clause-both
pair_fits-requires-clause-both g c =
    let m = length-map c.args.a.now (λ (v : Contents). v.bits) in
    let lt = c.each-test.true in
    let in_a = c.requires.within in
    alike_left (rows_in c.args.a.now) (rows_from c.args.rows.now c.args.b.now) c.requires.alike c.each.i c.args.j c.index-a-i.result.bits c.index-a-j.result.bits (omega (arith, m, lt, in_a)) (omega (arith, m, in_a)) (row_of c.args.a.now c.each.i c.index-a-i.result (omega (arith, lt, in_a)) c.index-a-i.is)
    (row_of c.args.a.now c.args.j c.index-a-j.result in_a c.index-a-j.is)

pub each-preserved : goal.each-preserved
each-preserved g c =
    let n = count c.args.rows.now c.args.b.now in
    let m = length-map c.args.a.now (λ (v : Contents). v.bits) in
    let e = c.requires.alike.count in
    let lt = c.each-test.true in
    let in_a = c.requires.within in
    below_more _ _ c.each.invariant
    (fits_rows (rows_in c.args.a.now) (rows_from c.args.rows.now c.args.b.now) c.each.i c.args.j c.index-a-i.result.bits c.index-a-j.result.bits c.row-bi.result.now.bits c.row-bj.result.now.bits (row_of c.args.a.now c.each.i c.index-a-i.result (omega (arith, lt, in_a)) c.index-a-i.is)
    (row_of c.args.a.now c.args.j c.index-a-j.result in_a c.index-a-j.is)
    (row_of_moved c.args.rows.now c.args.b.now c.each.i c.index-b-i.result (omega (arith, n, m, e, lt, in_a)) ∙ sym c.row-bi.ensures)
    (row_of_moved c.args.rows.now c.args.b.now c.args.j c.index-b-j.result (omega (arith, n, m, e, in_a)) ∙ sym c.row-bj.ensures) (c.pair_fits.ensures.fits c.if-not-pair_fits.false))

pub returns-then-not-pair_fits-clause-apart : goal.returns-then-not-pair_fits-clause-apart
returns-then-not-pair_fits-clause-apart g c =
    let n = count c.args.rows.now c.args.b.now in
    let m = length-map c.args.a.now (λ (v : Contents). v.bits) in
    let e = c.requires.alike.count in
    let lt = c.each-test.true in
    let in_a = c.requires.within in
    λ _. (
      c.each.i,
      lt,
      apart_rows (rows_in c.args.a.now) (rows_from c.args.rows.now c.args.b.now) c.each.i c.args.j c.index-a-i.result.bits c.index-a-j.result.bits c.row-bi.result.now.bits c.row-bj.result.now.bits (row_of c.args.a.now c.each.i c.index-a-i.result (omega (arith, lt, in_a)) c.index-a-i.is)
          (row_of c.args.a.now c.args.j c.index-a-j.result in_a c.index-a-j.is)
          (row_of_moved c.args.rows.now c.args.b.now c.each.i c.index-b-i.result (omega (arith, n, m, e, lt, in_a)) ∙ sym c.row-bi.ensures)
          (row_of_moved c.args.rows.now c.args.b.now c.args.j c.index-b-j.result (omega (arith, n, m, e, in_a)) ∙ sym c.row-bj.ensures) (c.pair_fits.ensures.apart c.if-not-pair_fits.true),
    )

pub returns-clause-fits : goal.returns-clause-fits
returns-clause-fits g c = λ _ i lt. c.each.invariant i (let h = c.each-test.false in omega (arith, h, lt))
