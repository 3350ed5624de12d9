use Rattle.std.proofs.Common.{string_bytes}
use Rattle.std.proofs.lemmas.Result.{IfOk-weaker}
use Rattle.lrkit_check.proofs.OfImports.{of_import, of_refusal}
use Rattle.lrkit_check.proofs.bison.report_in_bison.Goals as goal

pub returns-in-Ok : goal.returns-in-Ok
returns-in-Ok c =
    let file = c.args.file.text.now in
    let text = string_bytes c.in-Ok.import.imported.text in
    IfOk-weaker c.report_on_import-told.result _ _ (λ r. of_import file text r.outcome c.in-Ok.ensures.rules) c.report_on_import-told.ensures

pub returns-in-Err : goal.returns-in-Err
returns-in-Err c = IfOk-weaker c.refusal.result _ _ (λ r. of_refusal c.args.file.text.now r.outcome) c.refusal.ensures
