use Rattle.std.proofs.Common.{ℕ, List, map, sym, subst}
use Rattle.std.proofs.lemmas.List.{take_all}
use Rattle.cfg_base.specs.declared.symbol.PIdx.{PIdx}
use Rattle.refused_tables.specs.Cycles.{Continue}
use Rattle.refused_tables.proofs.Rounds.{last_seen, round_step}
use Rattle.refused_tables.proofs.cycle.is_round.Goals as goal

pub productions-preserved : goal.productions-preserved
productions-preserved c =
    round_step c.args.grm.now.grammar c.in-Some.last.now.0 c.args.productions.now c.productions.index c.productions.before.0 (record { 0 = 0 }) c.productions-test.true c.productions.invariant.0 c.productions.invariant.1
    (c.continues.ensures.within c.if-not-continues.false) (c.continues.ensures.continues c.if-not-continues.false)

pub returns : goal.returns
returns c =
    let xs = c.args.productions.now in
    let p = c.in-Some.last.now in
    λ _. record {
      last = p.0;
      is_last = last_seen (λ (q : PIdx ℕ). q.0) xs p (sym c.in-Some.ensures.value);
      continue = subst (λ (l : List (PIdx ℕ)). Continue c.args.grm.now.grammar p.0 (map (λ (q : PIdx ℕ). q.0) l)) (take_all c.productions.index xs c.productions-test.false) c.productions.invariant.0;
    }
