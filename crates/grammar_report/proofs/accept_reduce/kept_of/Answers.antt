use Rattle.std.proofs.lemmas.Result.{IfOk-weaker}
use Rattle.cfg_read.specs.ValidityInfo.{CheckedAst, IsChecked}
use Rattle.grammar_report.specs.Messages.{IsKeptOf}
use Rattle.grammar_report.proofs.accept_reduce.kept_of.Goals as goal

pub returns : goal.returns
returns c =
    let kept : (x : CheckedAst) → IsChecked c.in_ok-kind.kind c.args.source.now x → IsKeptOf c.args.source.now x = λ x h. (c.in_ok-kind.kind, h) in
    IfOk-weaker _ _ _ kept c.new.ensures
