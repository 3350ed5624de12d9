use Rattle.std.proofs.Common.{◌-◌, ◌≤◌, length}
use Rattle.cfg_read.specs.SyntaxModels.{syntax_of}
use Rattle.cfg_read.specs.Reading.{Spaced, At, DeclaredToken, Steps}
use Rattle.cfg_read.proofs.yacc.parser.scan.Scanner.parse_declared_tokens.Given as goal

abbrev pub invariant-tokens : goal.invariant-tokens
invariant-tokens l = record {
  from : l.offset ≤ l.end;
  steps : Steps l.self.kind l.self.text.now (Spaced DeclaredToken (syntax_of l.fn.syntax) l.offset) (At DeclaredToken (syntax_of l.syntax) l.end);
}

abbrev pub decreases-tokens : goal.decreases-tokens
decreases-tokens l = length l.self.text.now - l.end
