use Rattle.grammar_index.specs.Occurrences.{AreHeadings}
use Rattle.grammar_index.proofs.index.headings_of.Given as goal

abbrev pub invariant-rules : goal.invariant-rules
invariant-rules l = AreHeadings l.len l.headings.items
