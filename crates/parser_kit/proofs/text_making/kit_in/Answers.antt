use Rattle.std.proofs.Common.{subst}
use Rattle.std.proofs.lemmas.Result.{err_from_is_err_and}
use Rattle.cfg_numbered.specs.Value.{GrammarValue}
use Rattle.parser_kit.proofs.Kits.{of_failed}
use Rattle.parser_kit.specs.Tabled.{HasTabledCause, IsTabledRefusal, NeverAcceptsAndReduces}
use Rattle.parser_kit.proofs.text_making.kit_in.Goals as goal

pub returns-in_err-grm-clause-refused : goal.returns-in_err-grm-clause-refused
returns-in_err-grm-clause-refused g c =
    let p = err_from_is_err_and c.from_residual.result c.from_residual.ensures.1 in
    rw (p.1, p.2) (c.in_err-grm.ensures.refused c.args.cap)

pub returns-in-Err-clause-refused : goal.returns-in-Err-clause-refused
returns-in-Err-clause-refused g c =
    let number = g.S.IndexStorage.number in
    let top = g.S.IndexStorage.MAX in
    of_failed top c.args.kept.now (λ v e. IsTabledRefusal number top v c.args.cap e) c.in_ok-grm.grm c.in-Err.e c.from.result c.in_ok-grm.ensures.fits c.in_ok-grm.ensures.made c.from.ensures c.in-Err.ensures.refused

pub returns-in-Err-clause-crowded : goal.returns-in-Err-clause-crowded
returns-in-Err-clause-crowded g c =
    let number = g.S.IndexStorage.number in
    let top = g.S.IndexStorage.MAX in
    of_failed top c.args.kept.now (λ v e. HasTabledCause number top v e) c.in_ok-grm.grm c.in-Err.e c.from.result c.in_ok-grm.ensures.fits c.in_ok-grm.ensures.made c.from.ensures c.in-Err.ensures.crowded

pub returns-in-Ok-clause-accepts : goal.returns-in-Ok-clause-accepts
returns-in-Ok-clause-accepts g c = subst (λ (v : GrammarValue). NeverAcceptsAndReduces v.grammar) c.in_ok-grm.ensures.made c.in-Ok.ensures.accepts
