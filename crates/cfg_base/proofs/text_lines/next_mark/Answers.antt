use Rattle.std.proofs.Common.{◌≡◌, ◌≤◌, ◌+◌, length, arith}
use Rattle.std.specs.Str.{chars}
use Rattle.cfg_base.proofs.Columns.{ended_more, ended_within}
use Rattle.cfg_base.proofs.text_lines.next_mark.Goals as goal

pub overflow_add-result : goal.overflow_add-result
overflow_add-result c =
    let behind : c.args.last.at ≤ c.min-at.result = omega (arith, c.requires.0) in
    let sum = ended_more (chars c.args.text.now) c.args.last.at c.min-at.result behind in
    omega (arith, c.requires.1, c.chars_between.ensures.value, sum, ended_within (chars c.args.text.now) c.min-at.result)

pub returns : goal.returns
returns c =
    let behind : c.args.last.at ≤ c.min-at.result = omega (arith, c.requires.0) in
    let sum = ended_more (chars c.args.text.now) c.args.last.at c.min-at.result behind in
    (omega arith, omega (arith, c.requires.1, c.chars_between.ensures.value, sum))
