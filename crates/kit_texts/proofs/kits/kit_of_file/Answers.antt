use Rattle.std.proofs.Common.{◌≡◌, IfOk, ap, subst}
use Rattle.std.proofs.lemmas.Result.{IfOk-weaker}
use Rattle.grammar_report.specs.Outcomes.{IsKitIn}
use Rattle.kit_texts.specs.KitFiles.{IsKitOfFile}
use Rattle.kit_texts.proofs.kits.kit_of_file.Goals as goal

pub returns : goal.returns
returns c =
    let text : c.in_ok-source.source.text ≡ c.args.text.now = ap (λ s. s.text) c.in_ok-source.ensures in
    IfOk-weaker c.kit_of_source-made.result _ _ (λ made is. IfOk-weaker made _ _ (λ kit of. IsKitOfFile.plain (subst (λ t. IsKitIn t kit) text of)) is) c.kit_of_source-made.ensures
