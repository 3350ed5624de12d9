use Rattle.std.proofs.Common.{◌≡◌, ◌+◌, ◌-◌, ◌*◌, ◌≤◌, List, length}
use Rattle.cfg_sections.specs.HeaderTexts.{items_text}
use Rattle.cfg_sections.specs.Sections.{At, Value, Items, Key, Open, PairText, Steps, depth, span}
use Rattle.cfg_sections.proofs.header.scan.Scanner.+parse_setting.Given as goal

abbrev pub decreases-parse_array : goal.decreases-parse_array
decreases-parse_array l = 2 * (65 - l.depth) - 1

abbrev pub decreases-parse_setting : goal.decreases-parse_setting
decreases-parse_setting l = 2 * (65 - l.depth)

abbrev pub invariant-parse_array-items : goal.invariant-parse_array-items
invariant-parse_array-items l = record {
  from : l.offset + 1 ≤ l.end;
  within : l.end ≤ length l.self.text.now;
  steps : (k : Key) (o : Open) (x : List PairText) → depth o ≡ l.depth → Steps l.self.text.now (At (Value k o) x l.offset) (At (Items k o (items_text l.items.items) (span l.offset (l.offset + 1))) x l.end);
}

abbrev pub decreases-parse_array-items : goal.decreases-parse_array-items
decreases-parse_array-items l = length l.self.text.now - l.end
