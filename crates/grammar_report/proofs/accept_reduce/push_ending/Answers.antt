use Rattle.std.proofs.Common.{codes, refl, string_bytes, ap, ◌∙◌}
use Rattle.text_messages.specs.declared.source.Severity.TheVariants.{Error}
use Rattle.text_messages.proofs.AddedMessages.{pushed_if}
use Rattle.grammar_report.specs.Places.{production_place}
use Rattle.grammar_report.specs.Messages.{IsError}
use Rattle.grammar_report.proofs.accept_reduce.push_ending.Goals as goal

pub returns : goal.returns
returns c =
    let a = c.args.messages.now in
    let place = production_place c.args.kept.now.ast c.args.pidx.0 in
    let words = string_bytes c.in_ok-words.words in
    pushed_if c.push.result (IsError a.text place (codes "accept/reduce conflict")) a c.push.new.self _ Error place words c.push.ensures.added c.new-message.ensures.severity (c.new-message.ensures.span ∙ rw c.ast.ensures.ast at c.production_span-span.ensures) (ap string_bytes c.new-message.ensures.words) (words, (_, c.in_ok-words.ensures.ok), refl)
