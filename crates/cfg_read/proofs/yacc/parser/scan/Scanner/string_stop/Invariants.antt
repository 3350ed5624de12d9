use Rattle.std.proofs.Common.{◌≡◌, ◌-◌, ◌≤◌, length}
use Rattle.cfg_base.specs.Text.{first_offset}
use Rattle.cfg_read.specs.Words.{stops_string}
use Rattle.cfg_read.proofs.yacc.parser.scan.Scanner.string_stop.Given as goal

abbrev pub invariant-bytes : goal.invariant-bytes
invariant-bytes l = record {
  from : l.offset ≤ l.end;
  same : first_offset (stops_string l.quote l.self.text.now) l.end (length l.self.text.now) ≡ first_offset (stops_string l.quote l.self.text.now) l.offset (length l.self.text.now);
}

abbrev pub decreases-bytes : goal.decreases-bytes
decreases-bytes l = length l.self.text.now - l.end
