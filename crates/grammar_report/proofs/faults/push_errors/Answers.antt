use Rattle.std.proofs.Common.{[], ◌∷◌, ◌++◌, ap, subst, sym, take, ◌∙◌}
use Rattle.std.proofs.lemmas.List.{take_all, take_more}
use Rattle.text_messages.specs.Added.{AddsSome}
use Rattle.grammar_report.specs.Messages.{AreOfError, AreOfErrors}
use Rattle.grammar_report.proofs.ReportMessages.{of_none, of_one_more}
use Rattle.grammar_report.proofs.faults.push_errors.Goals as goal

pub errors-init : goal.errors-init
errors-init c = of_none (AreOfError c.args.messages.now.text) c.args.messages.now

pub errors-preserved : goal.errors-preserved
errors-preserved c =
    let a = c.args.messages.now in
    let es = c.args.errors.now in
    let i = c.errors.error-index in
    let e = c.error-item.result in
    let more = take_more es i e c.errors-test.true ∙ ap (λ x. take i es ++ x ∷ []) (sym c.error-item.is) in
    subst (λ l. AddsSome (AreOfErrors a.text l) a c.push_hinted.new.messages) (sym more) (of_one_more AreOfError a c.errors.messages c.push_hinted.new.messages (take i es) e c.errors.invariant c.in_ok-push_hinted.ensures)

pub returns : goal.returns
returns c =
    let a = c.args.messages.now in
    subst (λ l. AddsSome (AreOfErrors a.text l) a c.errors.messages) (take_all c.errors.error-index c.args.errors.now c.errors-test.false) c.errors.invariant
