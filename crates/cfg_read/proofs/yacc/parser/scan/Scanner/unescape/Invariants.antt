use Rattle.std.proofs.Common.{◌≡◌, ◌-◌, ◌++◌}
use Rattle.std.specs.Prelude.{slice_range}
use Rattle.std.specs.List.{filter}
use Rattle.std.specs.String.{string_bytes}
use Rattle.cfg_read.specs.Bytes.{is_plain}
use Rattle.cfg_read.specs.Scanning.{FitsPart}
use Rattle.cfg_read.proofs.yacc.parser.scan.Scanner.unescape.Given as goal

abbrev pub invariant-parts : goal.invariant-parts
invariant-parts l = record {
  fits : FitsPart l.self.text.now l.offset l.end;
  same : string_bytes l.text ++ filter is_plain (slice_range l.self.text.now l.offset l.end) ≡ filter is_plain (slice_range l.self.text.now l.start l.end);
}

abbrev pub decreases-parts : goal.decreases-parts
decreases-parts l = l.end - l.offset
