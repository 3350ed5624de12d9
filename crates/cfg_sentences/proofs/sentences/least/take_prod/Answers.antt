use Rattle.std.proofs.Common.{◌≡◌, ℕ, ◌<◌, Bool, true, false, List, Option, length, get_or, None, refl, sym, ap, ◌∙◌, subst, arith}
use Rattle.std.proofs.lemmas.List.{get_or_read}
use Rattle.cfg_theory.specs.Grammar.{IsOf, head_of, body_of}
use Rattle.cfg_sentences.specs.CostTable.{cost_of, cost_in, IsCost, HasNoCost}
use Rattle.cfg_sentences.proofs.CostSteps.{costless, no_cheaper, lowers, cheaper}
use Rattle.cfg_sentences.proofs.sentences.least.take_prod.Goals as goal

false_true : ◌≡◌ {A = Bool} false true → ⊥
false_true e = cc

pub index-requires : goal.index-requires
index-requires g c =
    let G = c.args.tokens.now.grammar in
    let p = c.args.number in
    let same : g.S.IndexStorage.number c.prod_at-pidx.result.0 ≡ p = c.prod_at-pidx.ensures in
    let A = c.to_usize-rule.result in
    let e : A ≡ head_of G p = c.to_usize-rule.ensures.value ∙ c.prod_to_rule.ensures ∙ ap (head_of G) same in
    let lt : head_of G p < G.rules = c.stays_well_formed.ensures.heads p (head_of G p) (record { in_range = c.requires.production; head = refl }) in
    let count = c.requires.costs.count in
    let ok = c.args.least.now.ok.0 in
    omega (arith, lt, e, count, ok)

pub index_mut-requires : goal.index_mut-requires
index_mut-requires g c =
    let G = c.args.tokens.now.grammar in
    let p = c.args.number in
    let same : g.S.IndexStorage.number c.prod_at-pidx.result.0 ≡ p = c.prod_at-pidx.ensures in
    let A = c.to_usize-rule.result in
    let e : A ≡ head_of G p = c.to_usize-rule.ensures.value ∙ c.prod_to_rule.ensures ∙ ap (head_of G) same in
    let lt : head_of G p < G.rules = c.stays_well_formed.ensures.heads p (head_of G p) (record { in_range = c.requires.production; head = refl }) in
    let count = c.requires.costs.count in
    let ok = c.args.least.now.ok.0 in
    omega (arith, lt, e, count, ok)

pub returns-in_default-clause-takes : goal.returns-in_default-clause-takes
returns-in_default-clause-takes g c =
    let G = c.args.tokens.now.grammar in
    let costs = c.args.tokens.now.costs in
    let table = c.args.least.now.items in
    let p = c.args.number in
    let same : g.S.IndexStorage.number c.prod_at-pidx.result.0 ≡ p = c.prod_at-pidx.ensures in
    let none : HasNoCost costs table (body_of G p) = subst (λ (q : ℕ). HasNoCost costs table (body_of G q)) same (subst (λ (l : List (Option ℕ)). HasNoCost costs l (body_of G (g.S.IndexStorage.number c.prod_at-pidx.result.0))) c.as_slice.ensures.value c.in_default.ensures) in
    costless G (cost_of costs) p table none

pub returns-then-not-is_less-clause-takes : goal.returns-then-not-is_less-clause-takes
returns-then-not-is_less-clause-takes g c =
    let G = c.args.tokens.now.grammar in
    let costs = c.args.tokens.now.costs in
    let table = c.args.least.now.items in
    let p = c.args.number in
    let same : g.S.IndexStorage.number c.prod_at-pidx.result.0 ≡ p = c.prod_at-pidx.ensures in
    let A = c.to_usize-rule.result in
    let e : A ≡ head_of G p = c.to_usize-rule.ensures.value ∙ c.prod_to_rule.ensures ∙ ap (head_of G) same in
    let lt : head_of G p < G.rules = c.stays_well_formed.ensures.heads p (head_of G p) (record { in_range = c.requires.production; head = refl }) in
    let count = c.requires.costs.count in
    let within : A < length table = omega (arith, lt, e, count) in
    let o = c.index.result.now in
    let at : o ≡ get_or table A None = get_or_read table A o within c.index.ensures None in
    let cost : IsCost costs table (body_of G p) c.in-Some.new = subst (λ (q : ℕ). IsCost costs table (body_of G q) c.in-Some.new) same (subst (λ (l : List (Option ℕ)). IsCost costs l (body_of G (g.S.IndexStorage.number c.prod_at-pidx.result.0)) c.in-Some.new) c.as_slice.ensures.value c.in-Some.ensures) in
    no_cheaper G (cost_of costs) p table cost.0 c.in-Some.new o cost.1 cost.2 (ap (cost_in table) (sym e) ∙ sym at) (λ less. false_true (sym c.if-not-is_less.true ∙ c.is_less.ensures.1 less))

pub returns-clause-costs : goal.returns-clause-costs
returns-clause-costs g c =
    let G = c.args.tokens.now.grammar in
    let costs = c.args.tokens.now.costs in
    let table = c.args.least.now.items in
    let p = c.args.number in
    let same : g.S.IndexStorage.number c.prod_at-pidx.result.0 ≡ p = c.prod_at-pidx.ensures in
    let A = c.to_usize-rule.result in
    let e : A ≡ head_of G p = c.to_usize-rule.ensures.value ∙ c.prod_to_rule.ensures ∙ ap (head_of G) same in
    let o : IsOf G p A = record { in_range = c.requires.production; head = sym e } in
    let cost : IsCost costs table (body_of G p) c.in-Some.new = subst (λ (q : ℕ). IsCost costs table (body_of G q) c.in-Some.new) same (subst (λ (l : List (Option ℕ)). IsCost costs l (body_of G (g.S.IndexStorage.number c.prod_at-pidx.result.0)) c.in-Some.new) c.as_slice.ensures.value c.in-Some.ensures) in
    cheaper G (cost_of costs) table c.requires.costs p A c.in-Some.new o cost.0 cost.1 cost.2 (c.stays_well_formed.ensures.heads p A o)

pub returns-clause-takes : goal.returns-clause-takes
returns-clause-takes g c =
    let G = c.args.tokens.now.grammar in
    let costs = c.args.tokens.now.costs in
    let table = c.args.least.now.items in
    let p = c.args.number in
    let same : g.S.IndexStorage.number c.prod_at-pidx.result.0 ≡ p = c.prod_at-pidx.ensures in
    let A = c.to_usize-rule.result in
    let e : A ≡ head_of G p = c.to_usize-rule.ensures.value ∙ c.prod_to_rule.ensures ∙ ap (head_of G) same in
    let lt : head_of G p < G.rules = c.stays_well_formed.ensures.heads p (head_of G p) (record { in_range = c.requires.production; head = refl }) in
    let count = c.requires.costs.count in
    let within : A < length table = omega (arith, lt, e, count) in
    let o = c.index.result.now in
    let at : o ≡ get_or table A None = get_or_read table A o within c.index.ensures None in
    let cost : IsCost costs table (body_of G p) c.in-Some.new = subst (λ (q : ℕ). IsCost costs table (body_of G q) c.in-Some.new) same (subst (λ (l : List (Option ℕ)). IsCost costs l (body_of G (g.S.IndexStorage.number c.prod_at-pidx.result.0)) c.in-Some.new) c.as_slice.ensures.value c.in-Some.ensures) in
    lowers G (cost_of costs) p table A c.in-Some.new o within at (c.is_less.ensures.0 c.if-not-is_less.false) cost.0 e (omega (arith, lt, e)) cost.1 cost.2
