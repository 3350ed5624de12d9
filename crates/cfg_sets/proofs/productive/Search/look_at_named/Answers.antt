use Rattle.std.proofs.Common.{◌<◌, List, ℕ, length, get_or, refl, sym, subst, arith}
use Rattle.cfg_sets.proofs.WorkSteps.{in_range, next_one}
use Rattle.cfg_sets.proofs.Searches.{taken, still, stands_no}
use Rattle.cfg_sets.specs.Searching.{IsLookedAt}
use Rattle.cfg_sets.proofs.productive.Search.look_at_named.Goals as goal

pub prods-init : goal.prods-init
prods-init g c =
    let G = c.args.grm.now.grammar in
    let s = c.args.self.now in
    record {
      is_search = c.requires.search;
      looked_at = λ p lt. still (IsLookedAt G s.found.bits s.work.items p) _ _ p c.of-named.ensures (taken G c.args.naming.now s.found.bits s.work.items c.args.rule p c.requires.naming lt (c.requires.looked_at p lt));
      less = omega arith;
    }

pub look_at-requires-clause-production : goal.look_at-requires-clause-production
look_at-requires-clause-production g c =
    let G = c.args.grm.now.grammar in
    let lt = c.prods-test.true in
    subst (λ (l : List ℕ). get_or l c.prods.index 0 < length G.productions) (sym c.of-named.ensures)
    (in_range G (length G.productions) c.args.naming.now c.args.rule c.prods.index 0 c.requires.naming (subst (λ (l : List ℕ). c.prods.index < length l) c.of-named.ensures lt))

pub prods-preserved : goal.prods-preserved
prods-preserved g c =
    let G = c.args.grm.now.grammar in
    let s = c.prods.self in
    let t = c.look_at.new.self in
    let named = c.of-named.result.now in
    let i = c.prods.index in
    let was = c.prods.invariant.less in
    let less = c.in_ok-look_at.ensures.less in
    record {
      is_search = c.in_ok-look_at.ensures.is_search;
      looked_at = λ p lt. next_one (IsLookedAt G s.found.bits s.work.items) (IsLookedAt G t.found.bits t.work.items) named i (get_or named i 0) c.prods-test.true refl c.in_ok-look_at.ensures.kept c.in_ok-look_at.ensures.here p (c.prods.invariant.looked_at p lt);
      less = omega (arith, was, less);
    }

pub returns-clause-looked_at : goal.returns-clause-looked_at
returns-clause-looked_at g c = λ p lt. stands_no (IsLookedAt c.args.grm.now.grammar c.prods.self.found.bits c.prods.self.work.items p) c.of-named.result.now c.prods.index p c.prods-test.false (c.prods.invariant.looked_at p lt)
