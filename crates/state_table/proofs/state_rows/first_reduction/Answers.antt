use Rattle.std.proofs.Common.{sym, ◌∙◌}
use Rattle.state_table.specs.Meeting.{rows_in}
use Rattle.state_table.proofs.TokenReductions.{passed, found}
use Rattle.state_table.proofs.state_rows.first_reduction.Goals as goal

pub returns-then-has_token : goal.returns-then-has_token
returns-then-has_token g c =
    let number = g.S.IndexStorage.number in
    sym (found number (rows_in c.args.sets.now) c.args.reductions.now c.args.number c.each.i c.index-reductions-i.result c.each-test.true c.index-reductions-i.is (sym c.has_token.ensures ∙ c.if-has_token.true)) ∙ c.each.invariant

pub each-preserved : goal.each-preserved
each-preserved g c =
    let number = g.S.IndexStorage.number in
    sym (passed number (rows_in c.args.sets.now) c.args.reductions.now c.args.number c.each.i c.index-reductions-i.result c.each-test.true c.index-reductions-i.is (sym c.has_token.ensures ∙ c.if-has_token.false)) ∙ c.each.invariant
