use Rattle.std.proofs.Common.{ℕ, ◌<◌, ◌≤◌, ◌⊎◌, length}
use Rattle.cfg_sets.specs.WorkLists.{StandsFrom}
use Rattle.cfg_sets.specs.Searching.{IsLookedAt, IsSearch, room}
use Rattle.cfg_sets.proofs.productive.Search.look_at_named.Given as goal

abbrev pub invariant-prods : goal.invariant-prods
invariant-prods g l = record {
  is_search : IsSearch l.grm.grammar l.self;
  looked_at : (p : ℕ) → p < length l.grm.grammar.productions → IsLookedAt l.grm.grammar l.self.found.bits l.self.work.items p ⊎ StandsFrom l.named l.index p;
  less : room l.self ≤ room l.initial.self;
}
