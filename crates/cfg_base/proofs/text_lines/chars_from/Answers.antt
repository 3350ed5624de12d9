use Rattle.std.proofs.Common.{◌≡◌, ◌≤◌, ◌+◌, length, arith}
use Rattle.std.specs.Str.{chars}
use Rattle.cfg_base.proofs.Columns.{ended_more, ended_within}
use Rattle.cfg_base.proofs.text_lines.chars_from.Goals as goal

pub overflow_sub-result : goal.overflow_sub-result
overflow_sub-result c = omega (arith, c.chars_before.ensures, c.chars_before-2.ensures, ended_more (chars c.args.text.now) c.args.from c.args.to c.requires.order)

pub returns-clause-small : goal.returns-clause-small
returns-clause-small c = omega (arith, c.chars_before.ensures, ended_within (chars c.args.text.now) c.args.to, c.requires.inside)
