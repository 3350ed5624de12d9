use Rattle.std.proofs.Common.{◌≡◌, length}
use Rattle.cfg_sets.proofs.productive.Search.new.Given as goal

abbrev pub invariant-prods : goal.invariant-prods
invariant-prods l = length l.hints.items ≡ l.counter
