use Rattle.std.proofs.Common.{ℕ, ◌<◌, length}
use Rattle.cfg_sets.specs.Searching.{IsLookedAt, IsSearch, room}
use Rattle.cfg_sets.proofs.productive.Search.run.Given as goal

abbrev pub invariant-takings : goal.invariant-takings
invariant-takings g l = record {
  is_search : IsSearch l.grm.grammar l.self;
  looked_at : (p : ℕ) → p < length l.grm.grammar.productions → IsLookedAt l.grm.grammar l.self.found.bits l.self.work.items p;
}

abbrev pub decreases-takings : goal.decreases-takings
decreases-takings g l = room l.self
