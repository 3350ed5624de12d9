use Rattle.std.proofs.Common.{string_bytes}
use Rattle.grammar_report.specs.Messages.{AreUnproductive}
use Rattle.grammar_report.proofs.ReportMessages.{collected_if}
use Rattle.grammar_report.proofs.reporting.show_unproductive.Goals as goal

pub returns : goal.returns
returns c =
    collected_if c.push_part.result (λ text. AreUnproductive text c.args.kit.now.parser.grammar c.args.kit.now.kept.ast) c.args.source.now c.text.result.now c.new-messages.result c.push_unproductive.new.messages c.as_slice.result.now (string_bytes c.args.text.now) (string_bytes c.push_part.new.text) c.new-messages.ensures c.text.ensures c.in_ok-push_unproductive.ensures c.as_slice.ensures.value c.as_slice.ensures.within c.push_part.ensures
