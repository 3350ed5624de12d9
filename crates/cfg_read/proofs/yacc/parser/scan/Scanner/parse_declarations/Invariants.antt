use Rattle.std.proofs.Common.{◌-◌, ◌≤◌, length}
use Rattle.cfg_read.specs.SyntaxModels.{syntax_of}
use Rattle.cfg_read.specs.Reading.{Spaced, At, Declared, Steps}
use Rattle.cfg_read.proofs.yacc.parser.scan.Scanner.parse_declarations.Given as goal

abbrev pub invariant-declarations : goal.invariant-declarations
invariant-declarations l = record {
  from : l.offset ≤ l.end;
  steps : Steps l.self.kind l.self.text.now (Spaced Declared (syntax_of l.fn.syntax) l.offset) (At Declared (syntax_of l.syntax) l.end);
}

abbrev pub decreases-declarations : goal.decreases-declarations
decreases-declarations l = length l.self.text.now - l.end
