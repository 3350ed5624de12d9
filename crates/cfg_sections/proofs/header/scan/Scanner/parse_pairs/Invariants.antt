use Rattle.std.proofs.Common.{◌-◌, ◌≤◌, [], length}
use Rattle.std.specs.Prelude.{map}
use Rattle.cfg_sections.specs.Sections.{Spaced, At, Pairs, Steps}
use Rattle.cfg_sections.specs.SectionResults.{pair_text}
use Rattle.cfg_sections.proofs.header.scan.Scanner.parse_pairs.Given as goal

abbrev pub invariant-pairs : goal.invariant-pairs
invariant-pairs l = record {
  from : l.offset ≤ l.end;
  within : l.end ≤ length l.self.text.now;
  steps : Steps l.self.text.now (Spaced Pairs [] l.offset) (At Pairs (map pair_text l.pairs.items) l.end);
}

abbrev pub decreases-pairs : goal.decreases-pairs
decreases-pairs l = length l.self.text.now - l.end
