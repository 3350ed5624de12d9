use Rattle.std.proofs.Common.{ℕ, arith, below_more, ap, ◌∙◌, sym}
use Rattle.std.specs.Prelude.{IsTrue}
use Rattle.std.proofs.lemmas.List.{length-map}
use Rattle.vob.specs.Packed.{Contents}
use Rattle.vob.specs.Sets.{is_set}
use Rattle.state_table.specs.Meeting.{row, rows_in}
use Rattle.lrtable.specs.MovedItems.{rows_from}
use Rattle.lrtable.proofs.MovedRows.{count, row_of_moved, some_tokens}
use Rattle.lrtable.proofs.Shared.{alike_at, row_of, all_covered, one_lacked}
use Rattle.lrtable.proofs.weak_compatibility.hold_all.Goals as goal

pub row-requires : goal.row-requires
row-requires g c =
    let n = count c.args.rows.now c.args.b.now in
    let m = length-map c.args.a.now (λ (v : Contents). v.bits) in
    let e = c.requires.alike.count in
    let lt = c.each-test.true in
    some_tokens c.args.rows.now c.args.b.now c.each.i c.index-b-i.result (omega (arith, n, m, e, lt)) c.requires.wide

pub holds-requires : goal.holds-requires
holds-requires g c =
    let n = count c.args.rows.now c.args.b.now in
    let m = length-map c.args.a.now (λ (v : Contents). v.bits) in
    let e = c.requires.alike.count in
    let lt = c.each-test.true in
    alike_at (rows_in c.args.a.now) (rows_from c.args.rows.now c.args.b.now) c.requires.alike c.each.i c.each.i c.index-a-i.result.bits c.row.result.now.bits (omega (arith, m, lt)) (omega (arith, m, e, lt)) (row_of c.args.a.now c.each.i c.index-a-i.result lt c.index-a-i.is)
    (row_of_moved c.args.rows.now c.args.b.now c.each.i c.index-b-i.result (omega (arith, n, m, e, lt)) ∙ sym c.row.ensures)

pub each-preserved : goal.each-preserved
each-preserved g c =
    let n = count c.args.rows.now c.args.b.now in
    let m = length-map c.args.a.now (λ (v : Contents). v.bits) in
    let e = c.requires.alike.count in
    let lt = c.each-test.true in
    let a = row_of c.args.a.now c.each.i c.index-a-i.result lt c.index-a-i.is in
    let b = row_of_moved c.args.rows.now c.args.b.now c.each.i c.index-b-i.result (omega (arith, n, m, e, lt)) ∙ sym c.row.ensures in
    below_more (λ k. (t : ℕ) → IsTrue (is_set (row (rows_from c.args.rows.now c.args.b.now) k) t) → IsTrue (is_set (row (rows_in c.args.a.now) k) t)) c.each.i c.each.invariant
    (λ t h. ap (λ l. is_set l t) a ∙ c.holds.ensures.holds.0 c.if-not-holds.false t (sym (ap (λ l. is_set l t) b) ∙ h))

pub returns-then-not-holds-clause-lacked : goal.returns-then-not-holds-clause-lacked
returns-then-not-holds-clause-lacked g c = λ _.
    let n = count c.args.rows.now c.args.b.now in
    let m = length-map c.args.a.now (λ (v : Contents). v.bits) in
    let e = c.requires.alike.count in
    let lt = c.each-test.true in
    let a = row_of c.args.a.now c.each.i c.index-a-i.result lt c.index-a-i.is in
    let b = row_of_moved c.args.rows.now c.args.b.now c.each.i c.index-b-i.result (omega (arith, n, m, e, lt)) ∙ sym c.row.ensures in
    one_lacked (rows_in c.args.a.now) (rows_from c.args.rows.now c.args.b.now) c.each.i c.index-a-i.result.bits c.row.result.now.bits a b (c.holds.ensures.lacks c.if-not-holds.true)

pub returns-clause-covered : goal.returns-clause-covered
returns-clause-covered g c = λ _.
    let m = length-map c.args.a.now (λ (v : Contents). v.bits) in
    let e = c.requires.alike.count in
    let done = c.each-test.false in
    all_covered (rows_in c.args.a.now) (rows_from c.args.rows.now c.args.b.now) c.each.i (omega (arith, m, e, done)) c.each.invariant
