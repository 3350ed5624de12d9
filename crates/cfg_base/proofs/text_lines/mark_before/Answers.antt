use Rattle.std.proofs.Common.{arith}
use Rattle.std.specs.Str.{chars}
use Rattle.cfg_base.proofs.Columns.{ended_within}
use Rattle.cfg_base.proofs.text_lines.mark_before.Goals as goal

pub returns-clause-mark : goal.returns-clause-mark
returns-clause-mark c = (omega arith, omega (arith, ended_within (chars c.args.text.now) 0))
