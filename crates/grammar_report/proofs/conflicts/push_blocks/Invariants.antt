use Rattle.std.proofs.Common.{map, take}
use Rattle.text_messages.specs.Added.{AddsSome}
use Rattle.grammar_report.specs.Messages.{AreOfBlock, AreOfEach}
use Rattle.grammar_report.proofs.conflicts.push_blocks.Given as goal

abbrev pub invariant-each : goal.invariant-each
invariant-each l = AddsSome (AreOfEach (AreOfBlock l.initial.messages.text l.view.kit.now.kept.ast l.view.severity) (map (λ b. b.items) (take l.block-index l.blocks))) l.initial.messages l.messages
