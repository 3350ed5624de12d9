use Rattle.std.proofs.Common.{◌<◌, List, ℕ, length, get_or, sym, subst, arith}
use Rattle.std.specs.List.{Contains}
use Rattle.std.proofs.lemmas.List.Elements.{Contains-get_or}
use Rattle.cfg_sets.proofs.WorkSteps.{out_none, out_more, none_left}
use Rattle.cfg_sets.proofs.naming.Naming.take_out.Goals as goal

pub prods-init : goal.prods-init
prods-init c = out_none c.of-named.result.now c.args.prods.now.bits

pub set-requires : goal.set-requires
set-requires c =
    let named = c.of-named.result.now in
    let i = c.prods.index in
    let low : get_or named i 0 < length c.args.prods.now.bits = c.requires.within (get_or named i 0) (subst (λ (l : List ℕ). Contains l (get_or named i 0)) c.of-named.ensures (Contains-get_or named i 0 c.prods-test.true)) in
    let width = c.prods.invariant.width in
    omega (arith, low, width)

pub prods-preserved : goal.prods-preserved
prods-preserved c =
    let named = c.of-named.result.now in
    let i = c.prods.index in
    let low : get_or named i 0 < length c.args.prods.now.bits = c.requires.within (get_or named i 0) (subst (λ (l : List ℕ). Contains l (get_or named i 0)) c.of-named.ensures (Contains-get_or named i 0 c.prods-test.true)) in
    let width = c.prods.invariant.width in
    out_more named i c.args.prods.now.bits c.prods.prods.bits c.set.new.self.bits c.prods-test.true (omega (arith, low, width)) c.set.ensures.bits c.prods.invariant

pub returns-clause-gone : goal.returns-clause-gone
returns-clause-gone c = λ p named is. none_left c.of-named.result.now c.prods.index p c.prods-test.false (c.prods.invariant.left p (subst (λ (l : List ℕ). Contains l p) (sym c.of-named.ensures) named) is)
