use Rattle.cfg_sets.proofs.Searches.{looked_more}
use Rattle.cfg_sets.specs.Searching.{IsLookedAt}
use Rattle.cfg_sets.proofs.productive.Search.look_at_all.Goals as goal

pub prods-preserved : goal.prods-preserved
prods-preserved g c =
    let G = c.args.grm.now.grammar in
    let s = c.prods.self in
    let t = c.look_at.new.self in
    record {
      is_search = c.in_ok-look_at.ensures.is_search;
      looked_at = looked_more (IsLookedAt G s.found.bits s.work.items) (IsLookedAt G t.found.bits t.work.items) c.prods.number c.prods.invariant.looked_at c.in_ok-look_at.ensures.kept c.in_ok-look_at.ensures.here;
    }
