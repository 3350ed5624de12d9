use Rattle.std.proofs.Common.{◌≡◌, ◌-◌, ◌≤◌, length}
use Rattle.cfg_read.specs.SyntaxTexts.{RuleText, SyntaxText}
use Rattle.cfg_read.specs.SyntaxUpdates.{no_part}
use Rattle.cfg_read.specs.Reading.{Spaced, At, More, Steps}
use Rattle.cfg_read.specs.Words.{token_kind_at}
use Rattle.cfg_read.specs.Scanning.{StartsBy, FitsToken}
use Rattle.cfg_read.specs.SyntaxModels.{part_of}
use Rattle.cfg_read.proofs.yacc.parser.scan.Scanner.parse_alternative.Given as goal

abbrev pub invariant-parts : goal.invariant-parts
invariant-parts l = record {
  from : l.offset ≤ l.end;
  starts : StartsBy l.draft.span l.end;
  kind : token_kind_at l.self.text.now l.end ≡ l.kind;
  fits : FitsToken l.self.text.now l.end l.kind;
  steps : (r : RuleText) (x : SyntaxText) → Steps l.self.kind l.self.text.now (Spaced (More r no_part) x l.offset) (At (More r (part_of l.draft)) x l.end);
}

abbrev pub decreases-parts : goal.decreases-parts
decreases-parts l = length l.self.text.now - l.end
