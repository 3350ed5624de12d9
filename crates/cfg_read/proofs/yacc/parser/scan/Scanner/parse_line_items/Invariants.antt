use Rattle.std.proofs.Common.{◌-◌, ◌≤◌, [], length}
use Rattle.cfg_read.specs.declared.yacc.parser.declaration.LineList.{LineList}
use Rattle.cfg_read.specs.SyntaxTexts.{SyntaxText}
use Rattle.cfg_read.specs.SyntaxModels.{symbols_of}
use Rattle.cfg_read.specs.Reading.{InLine, At, LineItem, Steps}
use Rattle.cfg_read.proofs.yacc.parser.scan.Scanner.parse_line_items.Given as goal

abbrev pub invariant-items : goal.invariant-items
invariant-items l = record {
  from : l.offset ≤ l.end;
  steps : (k : LineList) (x : SyntaxText) → Steps l.self.kind l.self.text.now (InLine (LineItem k []) x l.offset) (At (LineItem k (symbols_of l.items.items)) x l.end);
}

abbrev pub decreases-items : goal.decreases-items
decreases-items l = length l.self.text.now - l.end
