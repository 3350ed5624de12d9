use Rattle.std.proofs.Common.{◌≡◌, IfOk, string_bytes, ap, subst}
use Rattle.grammar_report.specs.Outcomes.{IsKitIn}
use Rattle.kit_texts.proofs.kits.kit_of_import.Goals as goal

pub returns : goal.returns
returns c =
    let text : c.in_ok-source.source.text ≡ string_bytes c.args.import.now.imported.text = ap (λ s. s.text) c.in_ok-source.ensures in
    subst (λ t. IfOk c.kit_of_source-made.result (λ r. IfOk r (IsKitIn t))) text c.kit_of_source-made.ensures
