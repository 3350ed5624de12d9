use Rattle.std.proofs.Common.{Some}
use Rattle.grammar_report.proofs.ReportMessages.{without_note}
use Rattle.grammar_report.proofs.conflicts.push_unshown.Goals as goal

pub returns : goal.returns
returns c = without_note c.push.result c.args.messages.now c.push.new.self (record c.args.message { example = Some c.in_ok-lines.lines }) c.push.ensures.added
