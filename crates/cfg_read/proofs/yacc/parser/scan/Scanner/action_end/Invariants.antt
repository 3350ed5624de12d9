use Rattle.std.proofs.Common.{◌≡◌, ◌+◌, ◌-◌, ◌≤◌, length}
use Rattle.cfg_read.specs.Words.{action_end, is_action_end, count_between}
use Rattle.cfg_base.specs.Text.{first_offset}
use Rattle.cfg_read.proofs.yacc.parser.scan.Scanner.action_end.Given as goal

abbrev pub invariant-bytes : goal.invariant-bytes
invariant-bytes l = record {
  from : l.start ≤ l.offset;
  depth : count_between 125 l.self.text.now l.start l.offset + l.depth ≡ count_between 123 l.self.text.now l.start l.offset;
  few : l.depth ≤ l.offset;
  same : first_offset (is_action_end l.self.text.now l.start) l.offset (length l.self.text.now) ≡ action_end l.self.text.now l.start;
}

abbrev pub decreases-bytes : goal.decreases-bytes
decreases-bytes l = length l.self.text.now - l.offset
