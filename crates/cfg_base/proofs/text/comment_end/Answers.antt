use Rattle.std.proofs.Common.{length, sym, ◌∙◌, arith}
use Rattle.cfg_base.specs.Text.{is_comment_end}
use Rattle.cfg_base.proofs.TextRuns.{first_here, first_step, first_end}
use Rattle.cfg_base.proofs.text.comment_end.Goals as goal

pub bytes-preserved : goal.bytes-preserved
bytes-preserved c =
    let text = c.args.text.now in
    let e = first_step (is_comment_end text) c.bytes.end (length text) c.bytes-test.true (sym c.is_comment_end.ensures.value ∙ c.if-is_comment_end.false) in
    record { from = omega arith; within = omega arith; same = sym e ∙ c.bytes.invariant.same }

pub returns-then-is_comment_end-clause-value : goal.returns-then-is_comment_end-clause-value
returns-then-is_comment_end-clause-value c =
    let text = c.args.text.now in
    sym (first_here (is_comment_end text) c.bytes.end (length text) c.bytes-test.true (sym c.is_comment_end.ensures.value ∙ c.if-is_comment_end.true)) ∙ c.bytes.invariant.same

pub returns-clause-value : goal.returns-clause-value
returns-clause-value c =
    let text = c.args.text.now in
    sym (first_end (is_comment_end text) c.bytes.end (length text) c.bytes-test.false) ∙ c.bytes.invariant.same
