use Rattle.std.proofs.Common.{length, ap, ◌∙◌}
use Rattle.cfg_read.specs.Scanning.{end_or_separator}
use Rattle.cfg_read.specs.Reading.{programs, rules_end}
use Rattle.cfg_read.proofs.Chains.{one}
use Rattle.cfg_read.proofs.yacc.parser.scan.Scanner.parse_last_part.Goals as goal

pub returns-then-not-has_programs-clause-ok : goal.returns-then-not-has_programs-clause-ok
returns-then-not-has_programs-clause-ok c = (c.args.offset, one (rules_end (c.has_programs.ensures.kind ∙ ap end_or_separator c.if-not-has_programs.true)))

pub returns-clause-ok : goal.returns-clause-ok
returns-clause-ok c = (length c.args.self.now.text.now, rw c.in_ok-word.ensures.ok (one (programs (c.has_programs.ensures.kind ∙ ap end_or_separator c.if-not-has_programs.false))))
