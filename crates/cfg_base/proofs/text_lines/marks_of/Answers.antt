use Rattle.std.proofs.Common.{◌≡◌, ◌≤◌, arith, subst, sym, List}
use Rattle.std.specs.List.{All}
use Rattle.std.specs.Str.{chars}
use Rattle.std.proofs.lemmas.List.Elements.{All-nil, All-push}
use Rattle.cfg_base.specs.Marks.{IsMark}
use Rattle.cfg_base.specs.declared.text_lines.Mark.{Mark}
use Rattle.cfg_base.proofs.Columns.{ended_within}
use Rattle.cfg_base.proofs.text_lines.marks_of.Goals as goal

pub steps-init : goal.steps-init
steps-init c =
    let none : All (IsMark c.args.text.now) c.new-marks.result.items = rw c.new-marks.ensures.items (All-nil (IsMark c.args.text.now)) in
    ((omega arith, omega (arith, ended_within (chars c.args.text.now) 0)), none)

pub steps-preserved : goal.steps-preserved
steps-preserved c =
    let more : All (IsMark c.args.text.now) c.push.new.self.items = rw c.in_ok-push.ensures.items (All-push (IsMark c.args.text.now) c.steps.marks.items c.next_mark-last.result c.steps.invariant.1 c.next_mark-last.ensures) in
    (c.next_mark-last.ensures, more)
