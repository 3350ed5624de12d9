use Rattle.language_server.proofs.Once.{once}
use Rattle.language_server.proofs.laws.requests_are_answered_once.Goals as goal

pub returns : goal.returns
returns g = once
