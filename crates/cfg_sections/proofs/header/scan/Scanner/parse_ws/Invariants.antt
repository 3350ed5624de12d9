use Rattle.std.proofs.Common.{List, ◌-◌, ◌≤◌, length}
use Rattle.cfg_sections.specs.Sections.{Wanted, PairText, Spaced, Steps}
use Rattle.cfg_sections.proofs.header.scan.Scanner.parse_ws.Given as goal

abbrev pub invariant-parts : goal.invariant-parts
invariant-parts l = record {
  from : l.offset ≤ l.end;
  within : l.end ≤ length l.self.text.now;
  steps : (w : Wanted) (x : List PairText) → Steps l.self.text.now (Spaced w x l.offset) (Spaced w x l.end);
}

abbrev pub decreases-parts : goal.decreases-parts
decreases-parts l = length l.self.text.now - l.end
