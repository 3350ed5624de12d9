use Rattle.std.proofs.Common.{ℕ, ◌<◌}
use Rattle.cfg_sets.specs.Searching.{IsLookedAt, IsSearch}
use Rattle.cfg_sets.proofs.productive.Search.look_at_all.Given as goal

abbrev pub invariant-prods : goal.invariant-prods
invariant-prods g l = record {
  is_search : IsSearch l.grm.grammar l.self;
  looked_at : (p : ℕ) → p < l.number → IsLookedAt l.grm.grammar l.self.found.bits l.self.work.items p;
}
