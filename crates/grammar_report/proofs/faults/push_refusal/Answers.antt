use Rattle.std.proofs.lemmas.Result.{on_ok_weaker}
use Rattle.grammar_report.proofs.faults.push_refusal.Goals as goal

pub returns : goal.returns
returns c =
    let kept = rw c.text.ensures at c.in_ok-kept.ensures in
    on_ok_weaker c.push_refusal_of-pushed.result (λ h. (h.0, (c.in_ok-kept.kept, kept, h.1), h.2)) c.push_refusal_of-pushed.ensures
