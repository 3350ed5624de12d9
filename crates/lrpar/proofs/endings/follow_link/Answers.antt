use Rattle.std.proofs.Common.{◌∷◌, [], sym, subst}
use Rattle.lrpar.specs.Endings.{IsEnding, IsLink}
use Rattle.lrpar.proofs.EndingSteps.{links_more}
use Rattle.lrpar.proofs.endings.follow_link.Goals as goal

pub keep-requires-clause-ending : goal.keep-requires-clause-ending
keep-requires-clause-ending g c =
    let number = g.S.IndexStorage.number in
    let G = c.args.chains.now.grm.now.grammar in
    let v = c.args.chains.now.stable.now in
    let p = number c.args.link.state.0 in
    let next = c.in-Some-Ends.ending in
    let e = rw c.in-Ends.is at c.look.ensures in
    let led = c.advance.ensures (p ∷ []) (subst (λ u. IsLink number G v u (p ∷ []) c.args.link) (sym e.token) c.requires.link) in
    let k = rw c.in-Some-Ends.field-0-is at (rw c.in-Some-Ends.is at led) in
    rw c.lower_of.ensures (subst (λ u. IsEnding number G v u (p ∷ []) next) (sym k.token) k)

pub returns-in_ok-push-in-Goes-2-clause-waiting : goal.returns-in_ok-push-in-Goes-2-clause-waiting
returns-in_ok-push-in-Goes-2-clause-waiting g c =
    let number = g.S.IndexStorage.number in
    let G = c.args.chains.now.grm.now.grammar in
    let v = c.args.chains.now.stable.now in
    let t = number c.args.tidx.0 in
    let next = c.in-Goes.next in
    let k = rw c.in-Goes.is at c.look.ensures in
    let one = subst (λ p. IsLink number G v t (p ∷ []) next) (sym k.0) k.1 in
    let was = c.args.waiting.now.items in
    rw (c.in_ok-push-in-Goes-2.ensures.items, c.in_ok-push-in-Goes.ensures.items) (links_more number G v t _ next (links_more number G v t was c.args.link c.requires.waiting c.requires.link) one)

pub returns-in_ok-push-in-Some-Goes-clause-waiting : goal.returns-in_ok-push-in-Some-Goes-clause-waiting
returns-in_ok-push-in-Some-Goes-clause-waiting g c =
    let number = g.S.IndexStorage.number in
    let G = c.args.chains.now.grm.now.grammar in
    let v = c.args.chains.now.stable.now in
    let t = number c.args.tidx.0 in
    let p = number c.args.link.state.0 in
    let next = c.in-Some-Goes.next in
    let e = rw c.in-Ends.is at c.look.ensures in
    let led = c.advance.ensures (p ∷ []) (subst (λ u. IsLink number G v u (p ∷ []) c.args.link) (sym e.token) c.requires.link) in
    let k = rw c.in-Some-Goes.field-0-is at (rw c.in-Some-Goes.is at led) in
    let one = subst (λ q. IsLink number G v t (q ∷ []) next) (sym k.0) (subst (λ u. IsLink number G v u (p ∷ []) next) e.token k.1) in
    rw c.in_ok-push-in-Some-Goes.ensures.items (links_more number G v t c.args.waiting.now.items next c.requires.waiting one)
