use Rattle.std.proofs.lemmas.Result.{IfOk-weaker}
use Rattle.grammar_report.specs.Messages.{of_told}
use Rattle.grammar_report.proofs.large.push_told.Goals as goal

pub returns : goal.returns
returns c =
    let kept = rw c.text.ensures at c.in_ok-kept.ensures in
    IfOk-weaker c.push_checked-pushed.result _ _ (λ u h. of_told c.in_ok-kept.kept (c.args.kind, kept) h) c.push_checked-pushed.ensures
