use Rattle.std.proofs.lemmas.Result.{err_from_is_err_and}
use Rattle.lrpar.proofs.parserdata.ParserData.new.Goals as goal

pub returns-in_err-full-clause-of_builder : goal.returns-in_err-full-clause-of_builder
returns-in_err-full-clause-of_builder g c =
    let p = err_from_is_err_and c.from_residual.result c.from_residual.ensures.1 in
    rw (p.1, p.2) (λ is unsafe. unsafe)

pub returns-clause-holds : goal.returns-clause-holds
returns-clause-holds g c = rw c.in_ok-full.ensures at c.of_parts.ensures.holds

pub returns-clause-safe : goal.returns-clause-safe
returns-clause-safe g c = rw c.in_ok-full.ensures at c.of_parts.ensures.safe

pub returns-clause-chains : goal.returns-clause-chains
returns-clause-chains g c = rw c.in_ok-full.ensures at c.of_parts.ensures.chains

pub returns-clause-refused : goal.returns-clause-refused
returns-clause-refused g c = rw c.in_ok-full.ensures at c.of_parts.ensures.refused

pub returns-clause-of_builder : goal.returns-clause-of_builder
returns-clause-of_builder g c = rw c.in_ok-full.ensures at c.of_parts.ensures.of_builder
