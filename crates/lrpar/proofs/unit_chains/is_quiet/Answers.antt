use Rattle.std.proofs.Common.{◌≡◌, ◌+◌, ◌-◌, suc, [], ◌∷◌, Some, sym, ap, ◌∙◌, subst, arith}
use Rattle.cfg_theory.specs.Grammar.{IsOf}
use Rattle.lr_theory.specs.Chains.{Reductions}
use Rattle.state_table.specs.CellViews.{state_of}
use Rattle.state_table.specs.TableValues.{goto_at}
use Rattle.state_table.specs.Tables.{automaton_of}
use Rattle.lrpar.proofs.Quiet.{From, ends, goes_on, at_target, no_target}
use Rattle.lrpar.proofs.unit_chains.is_quiet.Goals as goal

pub returns-in-Nothing : goal.returns-in-Nothing
returns-in-Nothing g c = λ _ x t h.
    let number = g.S.IndexStorage.number in
    let G = c.args.chains.now.grm.now.grammar in
    let v = c.args.chains.now.stable.now in
    let p = number c.args.state.0 in
    let q = number c.links.top.0 in
    let i = c.links.counter in
    let e : c.args.chains.now.limit + 1 ≡ i + suc (c.args.chains.now.limit - i) = omega arith in
    let come = c.links.invariant.on x t (suc (c.args.chains.now.limit - i)) (subst (λ n. Reductions G (automaton_of x v) t n (number c.args.above.0 ∷ p ∷ [])) e h) in
    ends number G x v c.args.chains.now.table.is_table t (c.args.chains.now.limit - i) q p (rw c.in-Nothing.is at (c.requires.shorts.each q c.short_at.result c.short_at.ensures)) come

pub prod_to_rule-requires : goal.prod_to_rule-requires
prod_to_rule-requires g c = (rw c.in-Unit.is at (c.requires.shorts.each (g.S.IndexStorage.number c.links.top.0) c.short_at.result c.short_at.ensures)).0

pub goto-requires-clause-rule : goal.goto-requires-clause-rule
goto-requires-clause-rule g c =
    let number = g.S.IndexStorage.number in
    let one = rw c.in-Unit.is at (c.requires.shorts.each (number c.links.top.0) c.short_at.result c.short_at.ensures) in
    let is_of : IsOf c.args.chains.now.grm.now.grammar (number c.in-Unit.pidx.0) (number c.prod_to_rule.result.0) = record { in_range = one.0; head = sym c.prod_to_rule.ensures } in
    let heads = c.args.chains.now.table.well_formed.heads (number c.in-Unit.pidx.0) (number c.prod_to_rule.result.0) is_of in
    omega (arith, heads, c.args.chains.now.table.rules)

pub returns-in_default : goal.returns-in_default
returns-in_default g c = λ _ x t h.
    let number = g.S.IndexStorage.number in
    let G = c.args.chains.now.grm.now.grammar in
    let v = c.args.chains.now.stable.now in
    let p = number c.args.state.0 in
    let q = number c.links.top.0 in
    let i = c.links.counter in
    let k = c.args.chains.now.limit - i in
    let e : c.args.chains.now.limit + 1 ≡ i + suc k = omega arith in
    let one = rw c.in-Unit.is at (c.requires.shorts.each q c.short_at.result c.short_at.ensures) in
    let come = c.links.invariant.on x t (suc k) (subst (λ n. Reductions G (automaton_of x v) t n (number c.args.above.0 ∷ p ∷ [])) e h) in
    let f = subst (From G (automaton_of x v) t k p) (sym c.prod_to_rule.ensures) (goes_on number G x v c.args.chains.now.table.is_table t k q p c.in-Unit.pidx one come) in
    no_target number G x v c.args.chains.now.table.is_table t k p (number c.prod_to_rule.result.0) (sym c.goto.ensures ∙ ap (state_of number) c.in_default.is) f

pub links-preserved : goal.links-preserved
links-preserved g c =
    let number = g.S.IndexStorage.number in
    let G = c.args.chains.now.grm.now.grammar in
    let v = c.args.chains.now.stable.now in
    let p = number c.args.state.0 in
    let q = number c.links.top.0 in
    let i = c.links.counter in
    let one = rw c.in-Unit.is at (c.requires.shorts.each q c.short_at.result c.short_at.ensures) in
    let to : goto_at v p (number c.prod_to_rule.result.0) ≡ Some (number c.in-Some.next.0) = sym c.goto.ensures ∙ ap (state_of number) c.in-Some.is in
    record {
      inside = c.args.chains.now.table.is_table.targets _ _ _ to;
      on = λ x t k h.
          let e : i + 1 + k ≡ i + suc k = omega arith in
          let come = c.links.invariant.on x t (suc k) (subst (λ n. Reductions G (automaton_of x v) t n (number c.args.above.0 ∷ p ∷ [])) e h) in
          let f = subst (From G (automaton_of x v) t k p) (sym c.prod_to_rule.ensures) (goes_on number G x v c.args.chains.now.table.is_table t k q p c.in-Unit.pidx one come) in
          at_target number G x v c.args.chains.now.table.is_table t k p (number c.prod_to_rule.result.0) (number c.in-Some.next.0) to f;
    }
