use Rattle.std.proofs.Common.{string_bytes, subst, sym, ◌∙◌}
use Rattle.text_messages.specs.Places.{BeginsWith}
use Rattle.grammar_report.specs.Messages.{kind_text}
use Rattle.grammar_report.proofs.ReportMessages.{of_conflict}
use Rattle.grammar_report.proofs.conflicts.push_conflict.Goals as goal

pub returns-in-Some : goal.returns-in-Some
returns-in-Some c = of_conflict c.push_shown.result c.args.view.now.kit.now.kept.ast c.args.view.now.severity c.args.first.now c.args.messages.now c.push_shown.new.messages c.new-message.result c.new-message.ensures.severity (c.new-message.ensures.span ∙ rw c.ast.ensures at c.production_span-span.ensures) (subst (λ w. BeginsWith (kind_text c.args.first.now.other) (string_bytes w)) (sym c.new-message.ensures.words) c.in_ok-words.ensures) c.push_shown.ensures

pub returns : goal.returns
returns c = of_conflict c.push_unshown.result c.args.view.now.kit.now.kept.ast c.args.view.now.severity c.args.first.now c.args.messages.now c.push_unshown.new.messages c.new-message.result c.new-message.ensures.severity (c.new-message.ensures.span ∙ rw c.ast.ensures at c.production_span-span.ensures) (subst (λ w. BeginsWith (kind_text c.args.first.now.other) (string_bytes w)) (sym c.new-message.ensures.words) c.in_ok-words.ensures) c.push_unshown.ensures
