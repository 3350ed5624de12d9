use Rattle.std.proofs.Common.{[], ◌∷◌, Some, sym, subst}
use Rattle.lrpar.specs.Endings.{IsEnding, IsLink}
use Rattle.lrpar.proofs.EndingSteps.{within_limit}
use Rattle.lrpar.proofs.endings.ends_on.Goals as goal

pub returns-in-Some-Ends-clause-ends : goal.returns-in-Some-Ends-clause-ends
returns-in-Some-Ends-clause-ends g c = λ h x.
    let number = g.S.IndexStorage.number in
    let G = c.args.chains.now.grm.now.grammar in
    let v = c.args.chains.now.stable.now in
    let t = number c.args.tidx.0 in
    let p = number c.args.state.0 in
    let q = number c.args.above.0 in
    let last = c.in-Some-Ends.ending in
    let e = rw c.in-Some.is at c.in_ok-ending.ensures.ending in
    let led = c.advance.ensures (q ∷ p ∷ []) (subst (λ u. IsLink number G v u (q ∷ p ∷ []) c.links.link) (sym e.token) c.links.invariant.link) in
    let k = rw c.in-Some-Ends.field-0-is at (rw c.in-Some-Ends.is at led) in
    within_limit number G v t c.args.chains.now.limit p (Some q) last (subst (λ u. IsEnding number G v u (q ∷ p ∷ []) last) e.token k) (c.is_within.ensures h) x

pub links-preserved : goal.links-preserved
links-preserved g c =
    let number = g.S.IndexStorage.number in
    let G = c.args.chains.now.grm.now.grammar in
    let v = c.args.chains.now.stable.now in
    let p = number c.args.state.0 in
    let q = number c.args.above.0 in
    let next = c.in-Some-Goes.next in
    let e = rw c.in-Some.is at c.in_ok-ending.ensures.ending in
    let led = c.advance.ensures (q ∷ p ∷ []) (subst (λ u. IsLink number G v u (q ∷ p ∷ []) c.links.link) (sym e.token) c.links.invariant.link) in
    let k = rw c.in-Some-Goes.field-0-is at (rw c.in-Some-Goes.is at led) in
    record {
      rows = c.in_ok-ending.ensures.rows;
      link = subst (λ u. IsLink number G v u (q ∷ p ∷ []) next) e.token k.1;
    }
