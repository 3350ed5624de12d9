use Rattle.std.proofs.Common.{◌≡◌, arith}
use Rattle.std.specs.Str.{chars}
use Rattle.cfg_base.proofs.Columns.{ended_more, ended_within}
use Rattle.cfg_base.proofs.text_lines.chars_before.Goals as goal

pub overflow_add-result : goal.overflow_add-result
overflow_add-result c =
    let mark = c.mark_before-mark.ensures in
    let sum = ended_more (chars c.args.text.now) c.mark_before-mark.result.at c.args.to mark.before in
    omega (arith, mark.mark.1, c.chars_between.ensures.value, sum, ended_within (chars c.args.text.now) c.args.to)

pub returns : goal.returns
returns c =
    let mark = c.mark_before-mark.ensures in
    let sum = ended_more (chars c.args.text.now) c.mark_before-mark.result.at c.args.to mark.before in
    omega (arith, mark.mark.1, c.chars_between.ensures.value, sum)
