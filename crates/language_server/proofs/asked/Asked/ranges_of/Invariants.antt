use Rattle.std.proofs.Common.{◌≡◌, ◌<◌, ◌^◌, ℕ, length, get_or}
use Rattle.grammar_index.specs.declared.occurrence.Occurrence.{Occurrence}
use Rattle.language_server.specs.Positions.{AreLinesOf, IsRangeOf}
use Rattle.language_server.specs.declared.answers.Range.{Range}
use Rattle.language_server.proofs.asked.Asked.ranges_of.Given as goal

abbrev pub invariant-names : goal.invariant-names
invariant-names l = record {
  count : length l.ranges.items ≡ l.index;
  ranges : length l.self.text.now < 2 ^ 63 → AreLinesOf l.self.text.now l.self.lines.now → (k : ℕ) (r : Range) (o : Occurrence) → k < l.index → IsRangeOf l.self.encoding l.self.text.now (get_or l.names k o).start (get_or l.names k o).end (get_or l.ranges.items k r);
}
