use Rattle.std.proofs.Common.{arith, ◌∙◌, refl}
use Rattle.std.specs.Str.Lines.{lines}
use Rattle.std.proofs.lemmas.Iterator.Consumers.{YieldsList-at, YieldsList-turn, YieldsList-end}
use Rattle.std.proofs.lemmas.Iterator.Splits.{YieldsList-from_lines}
use Rattle.std.proofs.lemmas.List.{length_push}
use Rattle.std.proofs.lemmas.Result.{err_from_is_err_and}
use Rattle.lrkit.proofs.Lines.{LeavesLines-more, LeavesLines-start, WritesLines-end, BeginsTexts-start, BeginsTexts-more, BeginsTexts-rest}
use Rattle.lrkit.proofs.running.write_lines.Goals as goal

pub returns-in_err-shown-clause-begins : goal.returns-in_err-shown-clause-begins
returns-in_err-shown-clause-begins g c =
    let p = err_from_is_err_and c.from_residual.result c.from_residual.ensures.1 in
    rw p.1 (BeginsTexts-start _ _ _ _)

pub lines-init : goal.lines-init
lines-init g c = (LeavesLines-start c.args.kit.now c.args.repairs.now (lines c.args.line_text.now) (g.W.Sink.known c.args.out.now) _ c.new-text.ensures.items, refl)

pub returns-in_err-wrong-clause-begins : goal.returns-in_err-wrong-clause-begins
returns-in_err-wrong-clause-begins g c =
    let turn = YieldsList-turn (YieldsList-at c.into_iter-line-iterator.ensures.into_iter_gives (YieldsList-from_lines c.args.line_text.now c.lines-line-items.ensures.rest)) c.lines.yielded _ c.lines.yielded_by _ _ c.in-Some.line c.in-Some.is c.next.ensures.steps in
    let p = err_from_is_err_and c.from_residual-in_err-wrong.result c.from_residual-in_err-wrong.ensures.1 in
    rw p.1 (BeginsTexts-more _ _ _ _ _ _ _ _ _ _ turn c.lines.invariant.0 c.in_err-wrong.ensures.begins)

pub lines-preserved : goal.lines-preserved
lines-preserved g c =
    let turn = YieldsList-turn (YieldsList-at c.into_iter-line-iterator.ensures.into_iter_gives (YieldsList-from_lines c.args.line_text.now c.lines-line-items.ensures.rest)) c.lines.yielded _ c.lines.yielded_by _ _ c.in-Some.line c.in-Some.is c.next.ensures.steps in
    (rw length_push (LeavesLines-more _ _ _ _ _ _ _ _ _ _ turn c.lines.invariant.0 _ _ _ c.in_ok-wrong.ensures.ok c.either-faulty.ensures), c.in_ok-wrong.ensures.kept ∙ c.lines.invariant.1)

pub returns-in_err-write_rest-clause-begins : goal.returns-in_err-write_rest-clause-begins
returns-in_err-write_rest-clause-begins g c =
    let p = err_from_is_err_and c.from_residual-in_err-write_rest.result c.from_residual-in_err-write_rest.ensures.1 in
    rw p.1 (BeginsTexts-rest _ _ _ _ _ _ _ _ _ c.lines.invariant.0 (rw c.as_slice.ensures.value at c.in_err-write_rest.ensures.begins))

pub returns-clause-ok : goal.returns-clause-ok
returns-clause-ok g c =
    let e = YieldsList-end (YieldsList-at c.into_iter-line-iterator.ensures.into_iter_gives (YieldsList-from_lines c.args.line_text.now c.lines-line-items.ensures.rest)) c.lines.yielded _ c.lines.yielded_by _ _ c.in-None.is c.next.ensures.steps in
    WritesLines-end _ _ _ _ _ _ _ _ _ c.lines.invariant.0 (omega (arith, e.1)) (rw c.as_slice.ensures.value at c.in_ok-write_rest.ensures.ok)
