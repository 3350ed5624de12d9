use Rattle.std.proofs.Common.{◌≡◌, ◌-◌, ◌≤◌, length}
use Rattle.cfg_read.specs.SyntaxModels.{part_of, syntax_of}
use Rattle.cfg_read.specs.SyntaxUpdates.{no_part}
use Rattle.cfg_read.specs.Reading.{Spaced, At, RuleName, Steps}
use Rattle.cfg_read.proofs.yacc.parser.scan.Scanner.parse_rules_by.Given as goal

abbrev pub invariant-rules : goal.invariant-rules
invariant-rules l = record {
  from : l.offset ≤ l.end;
  blank : part_of l.draft ≡ no_part;
  steps : Steps l.self.kind l.self.text.now (Spaced RuleName (syntax_of l.fn.syntax) l.offset) (At RuleName (syntax_of l.syntax) l.end);
}

abbrev pub decreases-rules : goal.decreases-rules
decreases-rules l = length l.self.text.now - l.end
