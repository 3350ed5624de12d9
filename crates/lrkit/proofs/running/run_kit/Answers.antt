use Rattle.std.proofs.lemmas.Result.{IfOk-weaker, err_from_is_err_and}
use Rattle.lrkit.proofs.Outcomes.{IsOutAt-early, IsOutAt-late, IsOutAt-unwritten, WritesOutput-from}
use Rattle.lrkit.proofs.running.run_kit.Goals as goal

pub returns-in_err-repair_lines-clause-refused : goal.returns-in_err-repair_lines-clause-refused
returns-in_err-repair_lines-clause-refused g c known good =
    let p = err_from_is_err_and c.from_residual.result c.from_residual.ensures.1 in
    rw (p.1, p.2) (c.in_err-repair_lines.ensures.refused known good)

pub returns-in_err-repair_lines-clause-out_at : goal.returns-in_err-repair_lines-clause-out_at
returns-in_err-repair_lines-clause-out_at g c known good =
    let p = err_from_is_err_and c.from_residual.result c.from_residual.ensures.1 in
    rw (p.1, p.2) (IsOutAt-early _ _ _ _ _ _ c.in_err-repair_lines.ensures.early)

pub returns-in_err-line_text-clause-out_at : goal.returns-in_err-line_text-clause-out_at
returns-in_err-line_text-clause-out_at g c known good =
    let p = err_from_is_err_and c.from_residual-in_err-line_text.result c.from_residual-in_err-line_text.ensures.1 in
    rw (p.1, p.2) (IsOutAt-unwritten _ _ _ _ _ _ c.in_err-line_text.ensures.early)

pub returns-clause-ok : goal.returns-clause-ok
returns-clause-ok g c known good =
    let of_lines = rw c.as_str.ensures.value at c.write_lines.ensures.ok in
    IfOk-weaker _ _ _ (WritesOutput-from _ _ _ _ _ _ _ _ good c.in_ok-repair_lines.ensures.ok c.in_ok-line_text.ensures.ok) of_lines

pub returns-clause-out_at : goal.returns-clause-out_at
returns-clause-out_at g c known good =
    let begun = rw c.as_str.ensures.value at c.write_lines.ensures.begins in
    IsOutAt-late _ _ _ _ _ _ _ _ good c.in_ok-repair_lines.ensures.ok c.in_ok-line_text.ensures.ok _ c.write_lines.ensures.late begun
