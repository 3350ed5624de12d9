use Rattle.std.proofs.Common.{map, take}
use Rattle.std.specs.Bool.{⊤}
use Rattle.cfg_read.specs.WarningModels.{warning_of}
use Rattle.text_messages.specs.Added.{AddsSome, OneForEach}
use Rattle.grammar_report.specs.Messages.{SaysUnused}
use Rattle.grammar_report.proofs.faults.push_unused_names.Given as goal

abbrev pub invariant-warnings : goal.invariant-warnings
invariant-warnings l = AddsSome (OneForEach (λ w. ⊤) (SaysUnused l.initial.messages.text) (map warning_of (take l.warning-index l.warnings))) l.initial.messages l.messages
