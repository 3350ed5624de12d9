use Rattle.std.proofs.Common.{◌≡◌, ◌-◌, ◌≤◌, Option, length}
use Rattle.std.specs.Prelude.{map}
use Rattle.cfg_read.specs.SyntaxTexts.{WordText, SyntaxText}
use Rattle.cfg_read.specs.SyntaxUpdates.{heading, no_part}
use Rattle.cfg_read.specs.Reading.{Spaced, More, Steps}
use Rattle.cfg_read.specs.Scanning.{rule_text}
use Rattle.cfg_read.specs.SyntaxModels.{part_of, alternative_of}
use Rattle.cfg_read.proofs.yacc.parser.scan.Scanner.parse_alternatives.Given as goal

abbrev pub invariant-alternatives : goal.invariant-alternatives
invariant-alternatives l = record {
  from : l.offset ≤ l.start;
  blank : part_of l.draft ≡ no_part;
  steps : (n : WordText) (t : Option WordText) (x : SyntaxText) → Steps l.self.kind l.self.text.now (Spaced (More (heading n t) no_part) x l.offset) (Spaced (More (rule_text n t (map alternative_of l.alternatives.items)) no_part) x l.start);
}

abbrev pub decreases-alternatives : goal.decreases-alternatives
decreases-alternatives l = length l.self.text.now - l.start
