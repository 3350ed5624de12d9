use Rattle.std.proofs.Common.{◌≡◌, Bool, true, false, not, refl}
use Rattle.cfg_theory.specs.Grammar.{body_of}
use Rattle.cfg_sentences.specs.CostTable.{cost_of, IsCost, HasNoCost}
use Rattle.cfg_sentences.proofs.SettleSteps.{settles_by}
use Rattle.cfg_sentences.proofs.sentences.bounded.settles.Goals as goal

not_true : (b : Bool) → not b ≡ true → b ≡ false
not_true false e = refl
not_true true e = cc

pub returns-in_default : goal.returns-in_default
returns-in_default g c =
    let G = c.args.costly.now.grammar in
    let costs = c.args.costly.now.costs in
    let costly = c.args.costly.now.table in
    let p = g.S.IndexStorage.number c.args.pidx.0 in
    let none : HasNoCost costs costly (body_of G p) = c.in_default.ensures in
    λ _ n s. absurd (none n s)

pub returns : goal.returns
returns g c = λ h.
    let G = c.args.costly.now.grammar in
    let costs = c.args.costly.now.costs in
    let costly = c.args.costly.now.table in
    let p = g.S.IndexStorage.number c.args.pidx.0 in
    let cost : IsCost costs costly (body_of G p) c.in-Some.cost = c.in-Some.ensures in
    let none = not_true c.names_kept.result h in
    settles_by G (cost_of costs) costly c.args.set.now.bits c.args.rest.now.bits p cost.0 c.in-Some.cost cost.1 cost.2 (λ le. c.names_kept.ensures.none_old le none) (λ lt. c.names_kept.ensures.none_new lt none)
