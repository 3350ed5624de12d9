use Rattle.std.proofs.Common.{string_bytes}
use Rattle.std.proofs.lemmas.Result.{IfOk-weaker}
use Rattle.kit_texts.specs.KitFiles.{IsKitOfFile}
use Rattle.kit_texts.proofs.kits.kit_of_bison.Goals as goal

pub returns-in-Ok : goal.returns-in-Ok
returns-in-Ok c =
    let text = string_bytes c.in-Ok.import.imported.text in
    IfOk-weaker c.kit_of_import-made.result _ _ (λ made is. IfOk-weaker made _ _ (λ kit of. IsKitOfFile.imported text c.in-Ok.ensures.rules of) is) c.kit_of_import-made.ensures
