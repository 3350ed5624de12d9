use Rattle.std.proofs.lemmas.Result.{err_from_is_err_and}
use Rattle.lrkit.proofs.Outcomes.{IsOutAt-early}
use Rattle.lrkit.proofs.running.run.Goals as goal

pub returns-in_err-kit-clause-out_at : goal.returns-in_err-kit-clause-out_at
returns-in_err-kit-clause-out_at g c =
    let p = err_from_is_err_and c.from_residual.result c.from_residual.ensures.1 in
    rw (p.1, p.2) (IsOutAt-early _ _ _ _ _ _ c.in_err-kit.ensures.early)

pub returns-clause-in_grammar : goal.returns-clause-in_grammar
returns-clause-in_grammar g c = c.run_kit-outcome.ensures.in_grammar _ _ _
