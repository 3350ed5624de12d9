use Rattle.std.proofs.Common.{Some, ap, refl, string_bytes}
use Rattle.text_messages.proofs.AddedMessages.{pushed_if}
use Rattle.grammar_report.specs.Messages.{IsNamed}
use Rattle.grammar_report.proofs.faults.push_named.Goals as goal

pub returns : goal.returns
returns c =
    let a = c.args.messages.now in
    let words = string_bytes c.in_ok-words.words in
    pushed_if c.push.result (IsNamed a.text c.args.severity c.args.span c.args.what.now) a c.push.new.self c.new.result c.args.severity (Some c.args.span) words c.push.ensures.added c.new.ensures.severity c.new.ensures.span (ap string_bytes c.new.ensures.words) (words, rw c.text.ensures at c.in_ok-words.ensures, refl)
