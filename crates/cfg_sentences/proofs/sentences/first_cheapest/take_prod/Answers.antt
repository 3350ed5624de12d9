use Rattle.std.proofs.Common.{◌≡◌, ◌↔◌, ℕ, ◌<◌, ◌≤◌, Bool, true, false, List, [], Option, Some, None, length, get_or, set, refl, sym, ap, ◌∙◌, subst, arith}
use Rattle.std.specs.Prelude.{IsTrue}
use Rattle.cfg_theory.specs.Grammar.{head_of, body_of}
use Rattle.cfg_theory.specs.Productive.{RulesIn}
use Rattle.cfg_sentences.specs.CheapestTable.{GivesLeast}
use Rattle.cfg_numbered.specs.Symbols.{syms_of}
use Rattle.vob.specs.Sets.{is_set}
use Rattle.cfg_sentences.specs.CostTable.{cost_of}
use Rattle.cfg_sentences.specs.EarliestTable.{ComesFirst}
use Rattle.cfg_sentences.proofs.EarliestSteps.{Finds, body_below, gave_none, gave_one, not_told, not_wanted, not_given, not_found, not_first, given_up, found_with, put_found, put_takes}
use Rattle.cfg_sentences.proofs.TurnSteps.{match_some}
use Rattle.cfg_sentences.proofs.sentences.first_cheapest.take_prod.Goals as goal

pub returns-then-not-firsts-clause-takes : goal.returns-then-not-firsts-clause-takes
returns-then-not-firsts-clause-takes g c =
    let least = c.args.least.now in
    let now = c.args.firsts.now in
    not_told least.grammar (cost_of least.costs) least.table c.args.wanted.now.bits c.args.number now.shared.table now.is_told now.left c.if-not-firsts.true

pub get_unchecked-requires : goal.get_unchecked-requires
get_unchecked-requires g c =
    let G = c.args.least.now.grammar in
    let p = c.args.number in
    let same : g.S.IndexStorage.number c.prod_at-pidx.result.0 ≡ p = c.prod_at-pidx.ensures in
    let lt : head_of G p < G.rules = c.stays_well_formed.ensures.heads p (head_of G p) (record { in_range = c.requires.production; head = refl }) in
    let e = c.to_usize-rule.ensures.value ∙ c.prod_to_rule.ensures ∙ ap (head_of G) same in
    let width = c.requires.width in
    omega (arith, lt, e, width)

pub returns-then-not-get_unchecked-clause-takes : goal.returns-then-not-get_unchecked-clause-takes
returns-then-not-get_unchecked-clause-takes g c =
    let number = g.S.IndexStorage.number in
    let G = c.args.least.now.grammar in
    let f = cost_of c.args.least.now.costs in
    let p = c.args.number in
    let same : number c.prod_at-pidx.result.0 ≡ p = c.prod_at-pidx.ensures in
    let now = c.args.firsts.now in
    let e : c.to_usize-rule.result ≡ head_of G p = c.to_usize-rule.ensures.value ∙ c.prod_to_rule.ensures ∙ ap (head_of G) same in
    not_wanted G f c.args.least.now.table c.args.wanted.now.bits p now.shared.table now.is_told now.left
    (ap (is_set c.args.wanted.now.bits) (sym e) ∙ sym c.get_unchecked.ensures ∙ c.if-not-get_unchecked.true)

pub returns-then-not-gives_least-clause-takes : goal.returns-then-not-gives_least-clause-takes
returns-then-not-gives_least-clause-takes g c =
    let number = g.S.IndexStorage.number in
    let G = c.args.least.now.grammar in
    let f = cost_of c.args.least.now.costs in
    let p = c.args.number in
    let same : number c.prod_at-pidx.result.0 ≡ p = c.prod_at-pidx.ensures in
    let now = c.args.firsts.now in
    not_given G f c.args.least.now.table c.args.wanted.now.bits p now.shared.table now.is_told now.left c.gives_least.result c.if-not-gives_least.true
    (subst (λ (q : ℕ). IsTrue c.gives_least.result ↔ GivesLeast G f c.args.least.now.table q) same c.gives_least.ensures)

pub body_list-requires : goal.body_list-requires
body_list-requires g c =
    let number = g.S.IndexStorage.number in
    let G = c.args.least.now.grammar in
    let f = cost_of c.args.least.now.costs in
    let p = c.args.number in
    let same : number c.prod_at-pidx.result.0 ≡ p = c.prod_at-pidx.ensures in
    let K = c.args.firsts.now.shared.table in
    subst (RulesIn (λ A. A < length K)) (sym (c.prod.ensures ∙ ap (body_of G) same)) (body_below G (length K) p c.stays_well_formed.ensures c.requires.lists.count)

pub returns-in_default-clause-takes : goal.returns-in_default-clause-takes
returns-in_default-clause-takes g c =
    let number = g.S.IndexStorage.number in
    let G = c.args.least.now.grammar in
    let f = cost_of c.args.least.now.costs in
    let p = c.args.number in
    let same : number c.prod_at-pidx.result.0 ≡ p = c.prod_at-pidx.ensures in
    let now = c.args.firsts.now in
    subst (λ (t : List (Option (List ℕ))). Finds G f c.args.least.now.table c.args.wanted.now.bits p now.shared.table now.is_told now.left (record { table = t; is_told = now.is_told; left = now.left }) None) (sym c.in_ok-list.ensures.table)
    (not_found G f c.args.least.now.table c.args.wanted.now.bits p now.shared.table now.is_told now.left
    (gave_none now.shared.table c.body_list.new.shared.lists (syms_of number c.prod.result.now) (body_of G p) c.in_ok-list.field-0 (c.prod.ensures ∙ ap (body_of G) same) c.in_ok-list.ensures.list c.in_default.is))

pub returns-in_default-2-clause-takes : goal.returns-in_default-2-clause-takes
returns-in_default-2-clause-takes g c =
    let number = g.S.IndexStorage.number in
    let G = c.args.least.now.grammar in
    let f = cost_of c.args.least.now.costs in
    let p = c.args.number in
    let same : number c.prod_at-pidx.result.0 ≡ p = c.prod_at-pidx.ensures in
    let now = c.args.firsts.now in
    given_up G f c.args.least.now.table c.args.wanted.now.bits p now.shared.table now.is_told now.left (record { table = c.body_list.new.shared.table; is_told = false; left = now.left }) refl refl

pub returns-then-not-is_first-clause-takes : goal.returns-then-not-is_first-clause-takes
returns-then-not-is_first-clause-takes g c =
    let number = g.S.IndexStorage.number in
    let G = c.args.least.now.grammar in
    let f = cost_of c.args.least.now.costs in
    let p = c.args.number in
    let same : number c.prod_at-pidx.result.0 ≡ p = c.prod_at-pidx.ensures in
    let now = c.args.firsts.now in
    let e : c.to_usize-rule.result ≡ head_of G p = c.to_usize-rule.ensures.value ∙ c.prod_to_rule.ensures ∙ ap (head_of G) same in
    let K = now.shared.table in
    let ls = c.body_list.new.shared.lists in
    let w = get_or ls c.in-Some.list [] in
    let o = get_or K (head_of G p) None in
    let one = (gave_one K ls (syms_of number c.prod.result.now) (body_of G p) c.in_ok-list.field-0 (c.prod.ensures ∙ ap (body_of G) same) c.in_ok-list.ensures.list c.in-Some.list c.in-Some.is).1 in
    let at : get_or c.body_list.new.shared.table c.to_usize-rule.result None ≡ o = ap (λ (t : List (Option (List ℕ))). get_or t c.to_usize-rule.result None) c.in_ok-list.ensures.table ∙ ap (λ (k : ℕ). get_or K k None) e in
    let said : ComesFirst w (get_or c.body_list.new.shared.table c.to_usize-rule.result None) c.in-Some-2.is_first = match_some _ _ c.in_ok-is_first.field-0 c.in-Some-2.is_first c.in_ok-is_first.ensures c.in-Some-2.is in
    let h : ComesFirst w o false = subst (ComesFirst w o) c.if-not-is_first.true (subst (λ (r : Option (List ℕ)). ComesFirst w r c.in-Some-2.is_first) at said) in
    subst (λ (t : List (Option (List ℕ))). Finds G f c.args.least.now.table c.args.wanted.now.bits p now.shared.table now.is_told now.left (record { table = t; is_told = now.is_told; left = now.left }) None) (sym c.in_ok-list.ensures.table)
    (not_first G f c.args.least.now.table c.args.wanted.now.bits p now.shared.table now.is_told now.left w o one refl h)

pub returns-clause-lists : goal.returns-clause-lists
returns-clause-lists g c =
    let number = g.S.IndexStorage.number in
    let G = c.args.least.now.grammar in
    let f = cost_of c.args.least.now.costs in
    let p = c.args.number in
    let same : number c.prod_at-pidx.result.0 ≡ p = c.prod_at-pidx.ensures in
    let now = c.args.firsts.now in
    let e : c.to_usize-rule.result ≡ head_of G p = c.to_usize-rule.ensures.value ∙ c.prod_to_rule.ensures ∙ ap (head_of G) same in
    let K = now.shared.table in
    let ls = c.body_list.new.shared.lists in
    let w = get_or ls c.in-Some.list [] in
    let o = get_or K (head_of G p) None in
    let one = (gave_one K ls (syms_of number c.prod.result.now) (body_of G p) c.in_ok-list.field-0 (c.prod.ensures ∙ ap (body_of G) same) c.in_ok-list.ensures.list c.in-Some.list c.in-Some.is).1 in
    let at : get_or c.body_list.new.shared.table c.to_usize-rule.result None ≡ o = ap (λ (t : List (Option (List ℕ))). get_or t c.to_usize-rule.result None) c.in_ok-list.ensures.table ∙ ap (λ (k : ℕ). get_or K k None) e in
    let lt : head_of G p < G.rules = c.stays_well_formed.ensures.heads p (head_of G p) (record { in_range = c.requires.production; head = refl }) in
    let count = c.requires.lists.count in
    let low : head_of G p < length K = omega (arith, lt, count) in
    let more = found_with G f c.args.least.now.table c.args.wanted.now.bits p now.shared.table now.is_told now.left w o one refl c.requires.lists low c.cheapest_lists_of_wanted_rules.ensures (subst (λ (q : ℕ). GivesLeast G f c.args.least.now.table q) same (c.gives_least.ensures.0 c.if-not-gives_least.false)) in
    put_found G f c.args.least.now.table c.args.wanted.now.bits p now.shared.table now.is_told now.left w o one refl c.requires.lists low c.to_usize-rule.result c.body_list.new.shared.table (record { table = c.put.new.self.shared.table; is_told = c.put.new.self.is_told; left = c.put.new.self.left }) c.put.result e c.in_ok-list.ensures.table c.put.ensures more

pub returns-clause-takes : goal.returns-clause-takes
returns-clause-takes g c =
    let number = g.S.IndexStorage.number in
    let G = c.args.least.now.grammar in
    let f = cost_of c.args.least.now.costs in
    let p = c.args.number in
    let same : number c.prod_at-pidx.result.0 ≡ p = c.prod_at-pidx.ensures in
    let now = c.args.firsts.now in
    let e : c.to_usize-rule.result ≡ head_of G p = c.to_usize-rule.ensures.value ∙ c.prod_to_rule.ensures ∙ ap (head_of G) same in
    let K = now.shared.table in
    let ls = c.body_list.new.shared.lists in
    let w = get_or ls c.in-Some.list [] in
    let o = get_or K (head_of G p) None in
    let one = (gave_one K ls (syms_of number c.prod.result.now) (body_of G p) c.in_ok-list.field-0 (c.prod.ensures ∙ ap (body_of G) same) c.in_ok-list.ensures.list c.in-Some.list c.in-Some.is).1 in
    let at : get_or c.body_list.new.shared.table c.to_usize-rule.result None ≡ o = ap (λ (t : List (Option (List ℕ))). get_or t c.to_usize-rule.result None) c.in_ok-list.ensures.table ∙ ap (λ (k : ℕ). get_or K k None) e in
    let lt : head_of G p < G.rules = c.stays_well_formed.ensures.heads p (head_of G p) (record { in_range = c.requires.production; head = refl }) in
    let count = c.requires.lists.count in
    let low : head_of G p < length K = omega (arith, lt, count) in
    let said : ComesFirst w (get_or c.body_list.new.shared.table c.to_usize-rule.result None) c.in-Some-2.is_first = match_some _ _ c.in_ok-is_first.field-0 c.in-Some-2.is_first c.in_ok-is_first.ensures c.in-Some-2.is in
    let h : ComesFirst w o true = subst (ComesFirst w o) c.if-not-is_first.false (subst (λ (r : Option (List ℕ)). ComesFirst w r c.in-Some-2.is_first) at said) in
    put_takes G f c.args.least.now.table c.args.wanted.now.bits p now.shared.table now.is_told now.left w o one refl c.requires.lists low c.to_usize-rule.result c.body_list.new.shared.table (record { table = c.put.new.self.shared.table; is_told = c.put.new.self.is_told; left = c.put.new.self.left }) c.put.result e c.in_ok-list.ensures.table c.put.ensures h
