use Rattle.std.proofs.Common.{None}
use Rattle.std.proofs.lemmas.Result.{err_from_is_err_and}
use Rattle.lrkit.proofs.Outcomes.{IsRefusal-counts, IsRefusal-kit}
use Rattle.lrkit.proofs.running.read_kit.Goals as goal

pub returns-in_err-kit-clause-refused : goal.returns-in_err-kit-clause-refused
returns-in_err-kit-clause-refused g c =
    let refused = rw c.as_str.ensures.value at c.in_err-kit.ensures.refused in
    let p = err_from_is_err_and c.from_residual-in_err-kit.result c.from_residual-in_err-kit.ensures.1 in
    rw (p.1, p.2) (IsRefusal-kit _ None _ _ c.in_ok-text.ensures.ok refused)

pub returns-clause-refused : goal.returns-clause-refused
returns-clause-refused g c = IsRefusal-counts _ _ _ _ _ c.in_ok-text.ensures.ok (rw c.as_str.ensures.value at c.in_ok-kit.ensures.kit) c.in-Err.ensures.err

pub returns-in-Ok-clause-ok : goal.returns-in-Ok-clause-ok
returns-in-Ok-clause-ok g c =
    record {
      text = _;
      input = c.in_ok-text.ensures.ok;
      is_kit = rw c.as_str.ensures.value at c.in_ok-kit.ensures.kit;
      expected = c.in-Ok.ensures.ok;
    }
