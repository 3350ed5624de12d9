use Rattle.std.proofs.Common.{◌≡◌, ◌-◌, ◌≤◌}
use Rattle.cfg_read.specs.Words.{lone_colon}
use Rattle.cfg_read.proofs.yacc.parser.scan.Scanner.lone_colon.Given as goal

abbrev pub invariant-bytes : goal.invariant-bytes
invariant-bytes l = record {
  from : l.start ≤ l.offset;
  same : lone_colon l.self.text.now l.offset l.end ≡ lone_colon l.self.text.now l.start l.end;
}

abbrev pub decreases-bytes : goal.decreases-bytes
decreases-bytes l = l.end - l.offset
