use Rattle.std.proofs.Common.{◌≡◌, ◌==◌, length, false, sym, ◌∙◌}
use Rattle.std.proofs.lemmas.Result.{on_ok_weaker}
use Rattle.report_forms.proofs.dot.push_box_end.Goals as goal

pub returns : goal.returns
returns c =
    let some : (length c.args.contested.now == 0) ≡ false = sym c.is_empty.ensures ∙ c.if-is_empty.false in
    on_ok_weaker c.push_contest_end.result (λ h. rw some h) c.push_contest_end.ensures
