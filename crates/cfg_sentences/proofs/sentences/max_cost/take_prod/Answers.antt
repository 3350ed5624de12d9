use Rattle.std.proofs.Common.{◌≡◌, ℕ, ◌<◌, Bool, true, false, List, Option, length, get_or, None, refl, sym, ap, ◌∙◌, subst, arith}
use Rattle.std.proofs.lemmas.List.{get_or_read}
use Rattle.cfg_theory.specs.Grammar.{IsOf, head_of, body_of}
use Rattle.vob.specs.Sets.{is_set}
use Rattle.cfg_sentences.specs.CostTable.{cost_of, cost_in, AreCapped, IsCost, HasNoCost}
use Rattle.cfg_sentences.proofs.RaiseSteps.{capped, dearer, skipped_rule, costless, no_dearer, raises}
use Rattle.cfg_sentences.proofs.sentences.max_cost.take_prod.Goals as goal

false_true : ◌≡◌ {A = Bool} false true → ⊥
false_true e = cc

pub get_unchecked-requires : goal.get_unchecked-requires
get_unchecked-requires g c =
    let G = c.args.tokens.now.grammar in
    let p = c.args.number in
    let same : g.S.IndexStorage.number c.prod_at-pidx.result.0 ≡ p = c.prod_at-pidx.ensures in
    let A = c.to_usize-rule.result in
    let e : A ≡ head_of G p = c.to_usize-rule.ensures.value ∙ c.prod_to_rule.ensures ∙ ap (head_of G) same in
    let lt : head_of G p < G.rules = c.stays_well_formed.ensures.heads p (head_of G p) (record { in_range = c.requires.production; head = refl }) in
    let width = c.requires.rules in
    omega (arith, lt, e, width)

pub body_cost-requires-clause-capped : goal.body_cost-requires-clause-capped
body_cost-requires-clause-capped g c =
    let G = c.args.tokens.now.grammar in
    subst (λ (l : List (Option ℕ)). AreCapped l) (sym c.as_slice.ensures.value)
    (capped G (cost_of c.args.tokens.now.costs) c.args.top c.args.greatest.now.items c.requires.costs c.requires.top)

pub index-requires : goal.index-requires
index-requires g c =
    let G = c.args.tokens.now.grammar in
    let p = c.args.number in
    let same : g.S.IndexStorage.number c.prod_at-pidx.result.0 ≡ p = c.prod_at-pidx.ensures in
    let A = c.to_usize-rule.result in
    let e : A ≡ head_of G p = c.to_usize-rule.ensures.value ∙ c.prod_to_rule.ensures ∙ ap (head_of G) same in
    let lt : head_of G p < G.rules = c.stays_well_formed.ensures.heads p (head_of G p) (record { in_range = c.requires.production; head = refl }) in
    let count = c.requires.costs.count in
    let ok = c.args.greatest.now.ok.0 in
    omega (arith, lt, e, count, ok)

pub index_mut-requires : goal.index_mut-requires
index_mut-requires g c =
    let G = c.args.tokens.now.grammar in
    let p = c.args.number in
    let same : g.S.IndexStorage.number c.prod_at-pidx.result.0 ≡ p = c.prod_at-pidx.ensures in
    let A = c.to_usize-rule.result in
    let e : A ≡ head_of G p = c.to_usize-rule.ensures.value ∙ c.prod_to_rule.ensures ∙ ap (head_of G) same in
    let lt : head_of G p < G.rules = c.stays_well_formed.ensures.heads p (head_of G p) (record { in_range = c.requires.production; head = refl }) in
    let count = c.requires.costs.count in
    let ok = c.args.greatest.now.ok.0 in
    omega (arith, lt, e, count, ok)

pub returns-then-get_unchecked-clause-takes : goal.returns-then-get_unchecked-clause-takes
returns-then-get_unchecked-clause-takes g c =
    let G = c.args.tokens.now.grammar in
    let p = c.args.number in
    let same : g.S.IndexStorage.number c.prod_at-pidx.result.0 ≡ p = c.prod_at-pidx.ensures in
    let A = c.to_usize-rule.result in
    let e : A ≡ head_of G p = c.to_usize-rule.ensures.value ∙ c.prod_to_rule.ensures ∙ ap (head_of G) same in
    let bits = c.args.skipped.now.bits in
    skipped_rule G (cost_of c.args.tokens.now.costs) c.args.top bits p c.args.greatest.now.items (ap (is_set bits) (sym e) ∙ sym c.get_unchecked.ensures ∙ c.if-get_unchecked.true)

pub returns-in_default-clause-takes : goal.returns-in_default-clause-takes
returns-in_default-clause-takes g c =
    let G = c.args.tokens.now.grammar in
    let costs = c.args.tokens.now.costs in
    let table = c.args.greatest.now.items in
    let p = c.args.number in
    let same : g.S.IndexStorage.number c.prod_at-pidx.result.0 ≡ p = c.prod_at-pidx.ensures in
    let none : HasNoCost costs table (body_of G p) = subst (λ (q : ℕ). HasNoCost costs table (body_of G q)) same (subst (λ (l : List (Option ℕ)). HasNoCost costs l (body_of G (g.S.IndexStorage.number c.prod_at-pidx.result.0))) c.as_slice.ensures.value c.in_default.ensures) in
    costless G (cost_of costs) c.args.top c.args.skipped.now.bits p table none

pub returns-then-not-is_more-clause-takes : goal.returns-then-not-is_more-clause-takes
returns-then-not-is_more-clause-takes g c =
    let G = c.args.tokens.now.grammar in
    let costs = c.args.tokens.now.costs in
    let table = c.args.greatest.now.items in
    let p = c.args.number in
    let same : g.S.IndexStorage.number c.prod_at-pidx.result.0 ≡ p = c.prod_at-pidx.ensures in
    let A = c.to_usize-rule.result in
    let e : A ≡ head_of G p = c.to_usize-rule.ensures.value ∙ c.prod_to_rule.ensures ∙ ap (head_of G) same in
    let lt : head_of G p < G.rules = c.stays_well_formed.ensures.heads p (head_of G p) (record { in_range = c.requires.production; head = refl }) in
    let count = c.requires.costs.count in
    let within : A < length table = omega (arith, lt, e, count) in
    let o = c.index.result.now in
    let at : o ≡ get_or table A None = get_or_read table A o within c.index.ensures None in
    let cost : IsCost costs table (body_of G p) c.in-Some.cost = subst (λ (q : ℕ). IsCost costs table (body_of G q) c.in-Some.cost) same (subst (λ (l : List (Option ℕ)). IsCost costs l (body_of G (g.S.IndexStorage.number c.prod_at-pidx.result.0)) c.in-Some.cost) c.as_slice.ensures.value c.in-Some.ensures) in
    let k = c.at_most-new.ensures in
    let m = cost.2 in
    let low = c.requires.top in
    no_dearer G (cost_of costs) c.args.top c.args.skipped.now.bits p table cost.0 c.at_most-new.result o cost.1 (omega (arith, k, m, low)) (ap (cost_in table) (sym e) ∙ sym at) (λ more. false_true (sym c.if-not-is_more.true ∙ c.is_more.ensures.1 more))

pub returns-clause-costs : goal.returns-clause-costs
returns-clause-costs g c =
    let G = c.args.tokens.now.grammar in
    let costs = c.args.tokens.now.costs in
    let table = c.args.greatest.now.items in
    let p = c.args.number in
    let same : g.S.IndexStorage.number c.prod_at-pidx.result.0 ≡ p = c.prod_at-pidx.ensures in
    let A = c.to_usize-rule.result in
    let e : A ≡ head_of G p = c.to_usize-rule.ensures.value ∙ c.prod_to_rule.ensures ∙ ap (head_of G) same in
    let o : IsOf G p A = record { in_range = c.requires.production; head = sym e } in
    let cost : IsCost costs table (body_of G p) c.in-Some.cost = subst (λ (q : ℕ). IsCost costs table (body_of G q) c.in-Some.cost) same (subst (λ (l : List (Option ℕ)). IsCost costs l (body_of G (g.S.IndexStorage.number c.prod_at-pidx.result.0)) c.in-Some.cost) c.as_slice.ensures.value c.in-Some.ensures) in
    let k = c.at_most-new.ensures in
    let m = cost.2 in
    let low = c.requires.top in
    dearer G (cost_of costs) c.args.top table c.requires.costs p A c.at_most-new.result o cost.0 cost.1 (omega (arith, k, m, low)) (c.stays_well_formed.ensures.heads p A o)

pub returns-clause-takes : goal.returns-clause-takes
returns-clause-takes g c =
    let G = c.args.tokens.now.grammar in
    let costs = c.args.tokens.now.costs in
    let table = c.args.greatest.now.items in
    let p = c.args.number in
    let same : g.S.IndexStorage.number c.prod_at-pidx.result.0 ≡ p = c.prod_at-pidx.ensures in
    let A = c.to_usize-rule.result in
    let e : A ≡ head_of G p = c.to_usize-rule.ensures.value ∙ c.prod_to_rule.ensures ∙ ap (head_of G) same in
    let lt : head_of G p < G.rules = c.stays_well_formed.ensures.heads p (head_of G p) (record { in_range = c.requires.production; head = refl }) in
    let count = c.requires.costs.count in
    let within : A < length table = omega (arith, lt, e, count) in
    let o = c.index.result.now in
    let at : o ≡ get_or table A None = get_or_read table A o within c.index.ensures None in
    let cost : IsCost costs table (body_of G p) c.in-Some.cost = subst (λ (q : ℕ). IsCost costs table (body_of G q) c.in-Some.cost) same (subst (λ (l : List (Option ℕ)). IsCost costs l (body_of G (g.S.IndexStorage.number c.prod_at-pidx.result.0)) c.in-Some.cost) c.as_slice.ensures.value c.in-Some.ensures) in
    let k = c.at_most-new.ensures in
    let m = cost.2 in
    let low = c.requires.top in
    raises G (cost_of costs) c.args.top c.args.skipped.now.bits p table A c.at_most-new.result o within at (c.is_more.ensures.0 c.if-not-is_more.false) c.requires.costs cost.0 e (omega (arith, lt, e)) cost.1 (omega (arith, k, m, low))
