use Rattle.std.proofs.Common.{string_bytes}
use Rattle.grammar_report.proofs.ReportMessages.{conflicts_if}
use Rattle.grammar_report.proofs.reporting.show_conflicts.Goals as goal

pub returns : goal.returns
returns c =
    conflicts_if c.push_messages.result c.args.asked.each c.args.kit.now c.args.source.now c.text.result.now c.new-messages.result c.push_conflicts.new.messages c.as_slice.result.now (string_bytes c.args.text.now) (string_bytes c.push_messages.new.text) c.new-messages.ensures c.text.ensures c.in_ok-push_conflicts.ensures c.as_slice.ensures.value c.as_slice.ensures.within c.push_messages.ensures
