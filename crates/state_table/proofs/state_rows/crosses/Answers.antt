use Rattle.std.proofs.Common.{◌≡◌, ℕ, false, sym, ap, ◌∙◌}
use Rattle.std.proofs.lemmas.Bool.{false≢true}
use Rattle.vob.specs.Sets.{is_set}
use Rattle.state_table.specs.declared.stidx.StIdx.{StIdx}
use Rattle.state_table.proofs.BlankCells.{edge_more}
use Rattle.state_table.proofs.state_rows.crosses.Goals as goal

pub each-preserved : goal.each-preserved
each-preserved g c = λ t set.
    let number = g.S.IndexStorage.number in
    let bits = c.args.tokens.now.bits in
    let x = c.index-shifts-i.result in
    let off : is_set bits x.0 ≡ false = ap (λ (z : ℕ × StIdx g.row.S.Denot). is_set bits z.0) c.index-shifts-i.is ∙ (sym c.is_in.ensures ∙ c.if-is_in.false) in
    edge_more number c.args.shifts.now c.each.i t x c.each-test.true c.index-shifts-i.is (c.each.invariant t set) (λ q. false≢true (sym off ∙ (ap (λ k. is_set bits k) (sym q) ∙ set)))
