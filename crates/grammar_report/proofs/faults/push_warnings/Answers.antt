use Rattle.std.proofs.Common.{◌++◌, refl}
use Rattle.std.proofs.lemmas.Result.{on_ok_weaker}
use Rattle.text_messages.proofs.AddedMessages.{adds_more}
use Rattle.grammar_report.proofs.faults.push_warnings.Goals as goal

pub returns : goal.returns
returns c =
    let (unused, are, s) = c.in_ok-push_unused.ensures in
    on_ok_weaker c.push_token_warnings.result (λ h. (unused ++ h.0, (unused, h.0, are, h.1, refl), adds_more unused h.0 _ _ _ s h.2)) c.push_token_warnings.ensures
