use Rattle.std.proofs.Common.{string_bytes}
use Rattle.grammar_report.proofs.ReportMessages.{of_kit}
use Rattle.grammar_report.proofs.reporting.text_of_kit.Goals as goal

pub returns : goal.returns
returns c =
    of_kit _ c.args.asked.each c.args.kit.now c.args.source.now (string_bytes c.new-text.result) (string_bytes c.show_warnings.new.text) (string_bytes c.push_str.new.self) (string_bytes c.show_unproductive.new.text) (string_bytes c.show_conflicts.new.text) (string_bytes c.push_str-2.new.self) _ _
    c.new-text.ensures.bytes c.in_ok-show_warnings.ensures c.in_ok-push_str.ensures.bytes c.in_ok-show_unproductive.ensures c.in_ok-show_conflicts.ensures c.in_ok-push_str-2.ensures.bytes
