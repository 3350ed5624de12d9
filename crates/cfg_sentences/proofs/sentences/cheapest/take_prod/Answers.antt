use Rattle.std.proofs.Common.{◌≡◌, ℕ, ◌<◌, ◌↔◌, IsTrue, List, length, refl, sym, ap, ◌∙◌, subst, arith}
use Rattle.std.specs.Prelude.{Contains}
use Rattle.cfg_theory.specs.Grammar.{head_of, body_of}
use Rattle.cfg_numbered.specs.Symbols.{syms_of}
use Rattle.vob.specs.Sets.{is_set}
use Rattle.cfg_sentences.specs.CostTable.{cost_of}
use Rattle.cfg_sentences.specs.TokenLists.{lists_of, AddsLists}
use Rattle.cfg_sentences.specs.CheapestTable.{GivesLeast, AllHaveLists}
use Rattle.cfg_sentences.proofs.CheapestSteps.{not_wanted, not_given, body_has, made_of, joins_none, joins_some, lists_with}
use Rattle.cfg_sentences.proofs.sentences.cheapest.take_prod.Goals as goal

pub get_unchecked-requires : goal.get_unchecked-requires
get_unchecked-requires g c =
    let number = g.S.IndexStorage.number in
    let G = c.args.least.now.grammar in
    let p = c.args.number in
    let same : number c.prod_at-pidx.result.0 ≡ p = c.prod_at-pidx.ensures in
    let A = c.to_usize-rule.result in
    let e : A ≡ head_of G p = c.to_usize-rule.ensures.value ∙ c.prod_to_rule.ensures ∙ ap (head_of G) same in
    let lt : head_of G p < G.rules = c.stays_well_formed.ensures.heads p (head_of G p) (record { in_range = c.requires.production; head = refl }) in
    let width = c.requires.width in
    omega (arith, lt, e, width)

pub returns-then-not-get_unchecked-clause-takes : goal.returns-then-not-get_unchecked-clause-takes
returns-then-not-get_unchecked-clause-takes g c =
    let number = g.S.IndexStorage.number in
    let G = c.args.least.now.grammar in
    let p = c.args.number in
    let same : number c.prod_at-pidx.result.0 ≡ p = c.prod_at-pidx.ensures in
    let A = c.to_usize-rule.result in
    let e : A ≡ head_of G p = c.to_usize-rule.ensures.value ∙ c.prod_to_rule.ensures ∙ ap (head_of G) same in
    let f = cost_of c.args.least.now.costs in
    let least = c.args.least.now.table in
    let wanted = c.args.wanted.now.bits in
    let table = c.args.table.now.items in
    not_wanted G f least wanted p table (ap (is_set wanted) (sym e) ∙ sym c.get_unchecked.ensures ∙ c.if-not-get_unchecked.true)

pub returns-then-not-gives_least-clause-takes : goal.returns-then-not-gives_least-clause-takes
returns-then-not-gives_least-clause-takes g c =
    let number = g.S.IndexStorage.number in
    let G = c.args.least.now.grammar in
    let p = c.args.number in
    let same : number c.prod_at-pidx.result.0 ≡ p = c.prod_at-pidx.ensures in
    let f = cost_of c.args.least.now.costs in
    let least = c.args.least.now.table in
    let wanted = c.args.wanted.now.bits in
    let table = c.args.table.now.items in
    not_given G f least wanted p table c.gives_least.result c.if-not-gives_least.true (subst (λ (q : ℕ). IsTrue c.gives_least.result ↔ GivesLeast G f least q) same c.gives_least.ensures)

pub put_together-requires : goal.put_together-requires
put_together-requires g c =
    let number = g.S.IndexStorage.number in
    let G = c.args.least.now.grammar in
    let p = c.args.number in
    let same : number c.prod_at-pidx.result.0 ≡ p = c.prod_at-pidx.ensures in
    let table = c.args.table.now.items in
    subst (λ (l : List (List (List ℕ))). AllHaveLists l (syms_of number c.prod.result.now)) (sym c.as_slice.ensures.value)
    (subst (AllHaveLists table) (sym (c.prod.ensures ∙ ap (body_of G) same)) (body_has G table p c.stays_well_formed.ensures c.requires.lists.count))

pub index_mut-own-requires : goal.index_mut-own-requires
index_mut-own-requires g c =
    let number = g.S.IndexStorage.number in
    let G = c.args.least.now.grammar in
    let p = c.args.number in
    let same : number c.prod_at-pidx.result.0 ≡ p = c.prod_at-pidx.ensures in
    let A = c.to_usize-rule.result in
    let e : A ≡ head_of G p = c.to_usize-rule.ensures.value ∙ c.prod_to_rule.ensures ∙ ap (head_of G) same in
    let lt : head_of G p < G.rules = c.stays_well_formed.ensures.heads p (head_of G p) (record { in_range = c.requires.production; head = refl }) in
    let count = c.requires.lists.count in
    omega (arith, lt, e, count)

pub returns-then-not-changed-clause-lists : goal.returns-then-not-changed-clause-lists
returns-then-not-changed-clause-lists g c =
    let number = g.S.IndexStorage.number in
    let G = c.args.least.now.grammar in
    let p = c.args.number in
    let same : number c.prod_at-pidx.result.0 ≡ p = c.prod_at-pidx.ensures in
    let A = c.to_usize-rule.result in
    let e : A ≡ head_of G p = c.to_usize-rule.ensures.value ∙ c.prod_to_rule.ensures ∙ ap (head_of G) same in
    let lt : head_of G p < G.rules = c.stays_well_formed.ensures.heads p (head_of G p) (record { in_range = c.requires.production; head = refl }) in
    let f = cost_of c.args.least.now.costs in
    let least = c.args.least.now.table in
    let wanted = c.args.wanted.now.bits in
    let table = c.args.table.now.items in
    let count = c.requires.lists.count in
    let within : A < length table = omega (arith, lt, e, count) in
    let ws = lists_of number c.as_slice-2.result.now in
    let made = made_of number table c.as_slice.result.now (syms_of number c.prod.result.now) (body_of G p) c.as_slice-2.result.now c.in_ok-lists.lists.items c.as_slice-2.ensures.value c.as_slice.ensures.value (c.prod.ensures ∙ ap (body_of G) same) c.in_ok-lists.ensures in
    let own = c.index_mut-own.result.now in
    let new = c.insert_all.new.own in
    lists_with G f least wanted p table A own new ws within c.index_mut-own.ensures.value e made
    c.cheapest_lists_of_wanted_rules.ensures c.requires.lists (subst (GivesLeast G f least) same (c.gives_least.ensures.0 c.if-not-gives_least.false)) c.in_ok-changed.ensures.only

pub returns-then-not-changed-clause-takes : goal.returns-then-not-changed-clause-takes
returns-then-not-changed-clause-takes g c =
    let number = g.S.IndexStorage.number in
    let G = c.args.least.now.grammar in
    let p = c.args.number in
    let same : number c.prod_at-pidx.result.0 ≡ p = c.prod_at-pidx.ensures in
    let A = c.to_usize-rule.result in
    let e : A ≡ head_of G p = c.to_usize-rule.ensures.value ∙ c.prod_to_rule.ensures ∙ ap (head_of G) same in
    let lt : head_of G p < G.rules = c.stays_well_formed.ensures.heads p (head_of G p) (record { in_range = c.requires.production; head = refl }) in
    let f = cost_of c.args.least.now.costs in
    let least = c.args.least.now.table in
    let wanted = c.args.wanted.now.bits in
    let table = c.args.table.now.items in
    let count = c.requires.lists.count in
    let within : A < length table = omega (arith, lt, e, count) in
    let ws = lists_of number c.as_slice-2.result.now in
    let made = made_of number table c.as_slice.result.now (syms_of number c.prod.result.now) (body_of G p) c.as_slice-2.result.now c.in_ok-lists.lists.items c.as_slice-2.ensures.value c.as_slice.ensures.value (c.prod.ensures ∙ ap (body_of G) same) c.in_ok-lists.ensures in
    let own = c.index_mut-own.result.now in
    let new = c.insert_all.new.own in
    joins_none G f least wanted p table A own new ws within c.index_mut-own.ensures.value e made (subst (AddsLists (Contains ws) own new) c.if-not-changed.true c.in_ok-changed.ensures)

pub returns-clause-lists : goal.returns-clause-lists
returns-clause-lists g c =
    let number = g.S.IndexStorage.number in
    let G = c.args.least.now.grammar in
    let p = c.args.number in
    let same : number c.prod_at-pidx.result.0 ≡ p = c.prod_at-pidx.ensures in
    let A = c.to_usize-rule.result in
    let e : A ≡ head_of G p = c.to_usize-rule.ensures.value ∙ c.prod_to_rule.ensures ∙ ap (head_of G) same in
    let lt : head_of G p < G.rules = c.stays_well_formed.ensures.heads p (head_of G p) (record { in_range = c.requires.production; head = refl }) in
    let f = cost_of c.args.least.now.costs in
    let least = c.args.least.now.table in
    let wanted = c.args.wanted.now.bits in
    let table = c.args.table.now.items in
    let count = c.requires.lists.count in
    let within : A < length table = omega (arith, lt, e, count) in
    let ws = lists_of number c.as_slice-2.result.now in
    let made = made_of number table c.as_slice.result.now (syms_of number c.prod.result.now) (body_of G p) c.as_slice-2.result.now c.in_ok-lists.lists.items c.as_slice-2.ensures.value c.as_slice.ensures.value (c.prod.ensures ∙ ap (body_of G) same) c.in_ok-lists.ensures in
    let own = c.index_mut-own.result.now in
    let new = c.insert_all.new.own in
    lists_with G f least wanted p table A own new ws within c.index_mut-own.ensures.value e made
    c.cheapest_lists_of_wanted_rules.ensures c.requires.lists (subst (GivesLeast G f least) same (c.gives_least.ensures.0 c.if-not-gives_least.false)) c.in_ok-changed.ensures.only

pub returns-clause-takes : goal.returns-clause-takes
returns-clause-takes g c =
    let number = g.S.IndexStorage.number in
    let G = c.args.least.now.grammar in
    let p = c.args.number in
    let same : number c.prod_at-pidx.result.0 ≡ p = c.prod_at-pidx.ensures in
    let A = c.to_usize-rule.result in
    let e : A ≡ head_of G p = c.to_usize-rule.ensures.value ∙ c.prod_to_rule.ensures ∙ ap (head_of G) same in
    let lt : head_of G p < G.rules = c.stays_well_formed.ensures.heads p (head_of G p) (record { in_range = c.requires.production; head = refl }) in
    let f = cost_of c.args.least.now.costs in
    let least = c.args.least.now.table in
    let wanted = c.args.wanted.now.bits in
    let table = c.args.table.now.items in
    let count = c.requires.lists.count in
    let within : A < length table = omega (arith, lt, e, count) in
    let ws = lists_of number c.as_slice-2.result.now in
    let made = made_of number table c.as_slice.result.now (syms_of number c.prod.result.now) (body_of G p) c.as_slice-2.result.now c.in_ok-lists.lists.items c.as_slice-2.ensures.value c.as_slice.ensures.value (c.prod.ensures ∙ ap (body_of G) same) c.in_ok-lists.ensures in
    let own = c.index_mut-own.result.now in
    let new = c.insert_all.new.own in
    joins_some G f least wanted p table A own new ws within c.index_mut-own.ensures.value e made (subst (AddsLists (Contains ws) own new) c.if-not-changed.false c.in_ok-changed.ensures) (omega (arith, lt, e))
