use Rattle.std.proofs.Common.{ℕ, Bool, Option, ap, subst, sym}
use Rattle.std.proofs.lemmas.Result.{IfOk-weaker}
use Rattle.text_messages.specs.Added.{MessagesValue}
use Rattle.grammar_report.specs.Messages.{AddsOfUntabled, DecidesUntabled, is_large_found, of_told, of_untold, told, untold}
use Rattle.grammar_report.specs.declared.large.Untabled.{Untabled}
use Rattle.report_values.proofs.findings.untabled_on.Goals as goal

-- what is added says whether the text is faulty or large
decides : (size most : ℕ) (u : Untabled) (old new : MessagesValue) → AddsOfUntabled size most u old new → DecidesUntabled size old.text (is_large_found u)
decides size most u old new (of_untold fs fails is same) = untold fs fails (ap is_large_found is)
decides size most u old new (of_told k kept (is, adds)) = told k kept is

pub returns-in-Ok : goal.returns-in-Ok
returns-in-Ok c =
    let d = rw c.text.ensures at (rw c.new-messages.ensures at (decides c.args.size c.args.most c.in-Ok.untabled _ _ c.in-Ok.ensures)) in
    IfOk-weaker c.said_untabled.result _ _ (λ o e. subst (λ (x : Option Bool). DecidesUntabled c.args.size c.args.source.now.text x) (sym e) d) c.said_untabled.ensures
