use Rattle.std.proofs.lemmas.Str.{IsCharBoundary-start}
use Rattle.maximal_munch.proofs.matching.match_len.Goals as goal

pub returns-else-start-eq0-clause-cut : goal.returns-else-start-eq0-clause-cut
returns-else-start-eq0-clause-cut c = IsCharBoundary-start _ c.utf8.rest

pub returns-in-None-clause-cut : goal.returns-in-None-clause-cut
returns-in-None-clause-cut c = IsCharBoundary-start _ c.utf8.rest
