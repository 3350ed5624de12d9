use Rattle.std.proofs.Common.{◌-◌, ◌≤◌, length}
use Rattle.cfg_read.specs.SyntaxTexts.{SyntaxText}
use Rattle.cfg_read.specs.Reading.{Wanted, InLine, Steps}
use Rattle.cfg_read.proofs.yacc.parser.scan.Scanner.parse_line_ws.Given as goal

abbrev pub invariant-parts : goal.invariant-parts
invariant-parts l = record {
  from : l.offset ≤ l.end;
  steps : (w : Wanted) (x : SyntaxText) → Steps l.self.kind l.self.text.now (InLine w x l.offset) (InLine w x l.end);
}

abbrev pub decreases-parts : goal.decreases-parts
decreases-parts l = length l.self.text.now - l.end
