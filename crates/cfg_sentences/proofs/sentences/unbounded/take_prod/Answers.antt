use Rattle.std.proofs.Common.{◌≡◌, ◌<◌, length, refl, sym, ap, ◌∙◌, subst, None, arith}
use Rattle.cfg_theory.specs.Grammar.{IsOf, head_of, body_of}
use Rattle.cfg_sentences.specs.CostTable.{cost_of, IsCost, HasNoCost}
use Rattle.cfg_sentences.specs.Greatest.{AreGaining}
use Rattle.cfg_sentences.proofs.NarrowSteps.{Narrows, still_gaining, costless_step, unnamed_step, into, with_width}
use Rattle.cfg_sentences.proofs.sentences.unbounded.take_prod.Goals as goal

pub names_kept-requires-clause-production : goal.names_kept-requires-clause-production
names_kept-requires-clause-production g c =
    let e = c.prod_at-pidx.ensures in
    let lt = c.requires.production in
    omega (arith, e, lt)

pub returns-in_default-clause-takes : goal.returns-in_default-clause-takes
returns-in_default-clause-takes g c =
    let G = c.args.costly.now.grammar in
    let costs = c.args.costly.now.costs in
    let costly = c.args.costly.now.table in
    let none : HasNoCost costs costly (body_of G c.args.number) = subst (λ q. HasNoCost costs costly (body_of G q)) c.prod_at-pidx.ensures c.in_default.ensures in
    costless_step G (cost_of costs) costly c.args.old.now.bits c.args.number c.args.new.now.bits none

pub returns-then-not-names_kept-clause-takes : goal.returns-then-not-names_kept-clause-takes
returns-then-not-names_kept-clause-takes g c =
    let G = c.args.costly.now.grammar in
    let costs = c.args.costly.now.costs in
    let costly = c.args.costly.now.table in
    let p = g.S.IndexStorage.number c.prod_at-pidx.result.0 in
    let cost : IsCost costs costly (body_of G p) c.in-Some.cost = c.in-Some.ensures in
    let h = c.names_kept.ensures in
    subst (λ q. Narrows G (cost_of costs) costly c.args.old.now.bits q c.args.new.now.bits c.args.new.now.bits None) c.prod_at-pidx.ensures
    (unnamed_step G (cost_of costs) costly c.args.old.now.bits p c.args.new.now.bits cost.0 c.in-Some.cost cost.1 cost.2 (λ le. h.none_old le c.if-not-names_kept.true) (λ lt. h.none_new lt c.if-not-names_kept.true))

pub put_rule-requires : goal.put_rule-requires
put_rule-requires g c =
    let G = c.args.costly.now.grammar in
    let p = c.args.number in
    let lt : head_of G p < G.rules = c.stays_well_formed.ensures.heads p (head_of G p) (record { in_range = c.requires.production; head = refl }) in
    let e : c.to_usize.result ≡ head_of G p = c.to_usize.ensures.value ∙ c.prod_to_rule.ensures ∙ ap (head_of G) c.prod_at-pidx.ensures in
    let width = c.requires.width in
    omega (arith, lt, e, width)

pub returns-clause-width : goal.returns-clause-width
returns-clause-width g c = ap length c.put_rule.ensures.bits ∙ with_width c.args.new.now.bits c.to_usize.result ∙ c.requires.width

pub returns-clause-sound : goal.returns-clause-sound
returns-clause-sound g c =
    let G = c.args.costly.now.grammar in
    let costs = c.args.costly.now.costs in
    let costly = c.args.costly.now.table in
    let f = cost_of costs in
    let n = c.args.number in
    let p = g.S.IndexStorage.number c.prod_at-pidx.result.0 in
    let same : p ≡ n = c.prod_at-pidx.ensures in
    let A = c.to_usize.result in
    let e : A ≡ head_of G p = c.to_usize.ensures.value ∙ c.prod_to_rule.ensures in
    let in_range = c.requires.production in
    let o : IsOf G p A = record { in_range = omega (arith, in_range, same); head = sym e } in
    let lt = c.stays_well_formed.ensures.heads p A o in
    let width = c.requires.width in
    let cost : IsCost costs costly (body_of G p) c.in-Some.cost = c.in-Some.ensures in
    let h = c.names_kept.ensures in
    subst (AreGaining G f c.args.old.now.bits) (sym c.put_rule.ensures.bits)
    (still_gaining G f costly c.stays_kept.ensures.table c.args.old.now.bits p A o cost.0 cost.1 c.args.new.now.bits c.requires.sound c.in-Some.cost cost.2 (omega (arith, lt, width)) (λ le. h.several le c.if-not-names_kept.false) (λ low. h.single low c.if-not-names_kept.false))

pub returns-clause-takes : goal.returns-clause-takes
returns-clause-takes g c =
    let G = c.args.costly.now.grammar in
    let costs = c.args.costly.now.costs in
    let costly = c.args.costly.now.table in
    let p = c.args.number in
    let A = c.to_usize.result in
    let e : A ≡ head_of G p = c.to_usize.ensures.value ∙ c.prod_to_rule.ensures ∙ ap (head_of G) c.prod_at-pidx.ensures in
    let lt : A < G.rules = c.stays_well_formed.ensures.heads p A (record { in_range = c.requires.production; head = sym e }) in
    let width = c.requires.width in
    into G (cost_of costs) costly c.args.old.now.bits p c.args.new.now.bits c.put_rule.new.set.bits A c.put_rule.result c.put_rule.ensures.bits (sym e) (omega (arith, lt, width)) lt c.put_rule.ensures.told
