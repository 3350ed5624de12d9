use Rattle.std.proofs.Common.{◌++◌, refl}
use Rattle.text_messages.proofs.AddedMessages.{adds_more}
use Rattle.grammar_report.proofs.faults.push_first_warnings.Goals as goal

pub returns : goal.returns
returns c =
    let (unused, are, s) = c.in_ok-left.ensures in
    let (more, warn, t) = c.in_ok-push_token_warnings.ensures in
    (unused ++ more, (unused, more, are, warn, refl), adds_more unused more _ _ _ s t)
