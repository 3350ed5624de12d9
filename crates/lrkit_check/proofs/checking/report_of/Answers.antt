use Rattle.std.proofs.lemmas.Result.{IfOk-weaker}
use Rattle.lrkit_check.proofs.OfImports.{of_imported, of_text}
use Rattle.lrkit_check.proofs.checking.report_of.Goals as goal

pub returns-in-None : goal.returns-in-None
returns-in-None c =
    IfOk-weaker c.report_on_text.result _ _ (λ r. of_text c.args.grammar.now r.outcome) c.report_on_text.ensures

pub returns-in-Some : goal.returns-in-Some
returns-in-Some c =
    IfOk-weaker c.report_on_bison.result _ _ (λ r. of_imported c.args.grammar.now r.outcome) (rw c.in-Some.ensures.text at c.report_on_bison.ensures)
