use Rattle.std.proofs.Common.{ℕ, None, Some, subst, ap}
use Rattle.std.proofs.lemmas.Result.{on_ok_weaker}
use Rattle.std.specs.String.{string_bytes}
use Rattle.cfg_base.specs.declared.symbol.PIdx.{PIdx}
use Rattle.refused_tables.specs.ExampleTexts.{AddsAction, first_text, reduction_text}
use Rattle.refused_tables.proofs.AddedTexts.{first_action}
use Rattle.refused_tables.proofs.examples.push_example.Goals as goal
use Rattle.refused_tables.proofs.examples.push_example.Goals.{in-Some+in_ok-push_reduction-in-Some, in-None+in_ok-push_shift-in-None}

pub returns : goal.returns
returns c =
    let v = c.args.grm.now in
    let x = c.args.example.now in
    let p = c.args.pidx.0 in
    let string = string_bytes c.push_string.new.text in
    let mid = string_bytes c.match-other.text in
    let new = string_bytes c.push_reduction-2.new.text in
    let first : AddsAction v (first_text v x p c.args.other) x.first string mid = elim c.match-other.branch [
      | in-Some+in_ok-push_reduction-in-Some w ↦ first_action v x p c.args.other (Some _) string mid (string_bytes w.push_reduction.new.text) w.in-Some.is (ap string_bytes w.text-is) w.in_ok-push_reduction-in-Some.ensures
      | in-None+in_ok-push_shift-in-None w ↦ first_action v x p c.args.other None string mid (string_bytes w.push_shift.new.text) w.in-None.is (ap string_bytes w.text-is) w.in_ok-push_shift-in-None.ensures
    ] in
    on_ok_weaker c.push_reduction-2.result (λ h. (string, mid, c.in_ok-push_string.ensures, first, subst (λ (q : PIdx ℕ). AddsAction v (reduction_text v q.0) x.second mid new) c.unwrap_or.ensures h)) c.push_reduction-2.ensures
