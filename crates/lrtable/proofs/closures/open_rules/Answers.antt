use Rattle.std.proofs.Common.{◌≡◌, ℕ, ◌<◌, sym, subst}
use Rattle.std.specs.Prelude.{◌↔◌}
use Rattle.std.specs.List.{Contains}
use Rattle.lrtable.specs.Opening.{IsOpen}
use Rattle.lrtable.proofs.Opened.{opens_none, opens_at, opens_next, opens_all}
use Rattle.lrtable.proofs.closures.open_rules.Goals as goal

pub rules-init : goal.rules-init
rules-init g c =
    let e : c.into_iter-number-iterator.result ≡ c.open_rules-number-items.result = cc in
    (tt, tt, opens_none g.S.IndexStorage.number c.args.grm.now.grammar c.args.opening.now c.into_iter-number-iterator.result c.args.set.now (subst (λ l. (A : ℕ) → Contains l A ↔ IsOpen c.args.opening.now A) (sym e) c.open_rules-number-items.ensures) c.requires.core c.requires.within)

pub rule_at-requires : goal.rule_at-requires
rule_at-requires g c = opens_at g.S.IndexStorage.number c.args.grm.now.grammar c.args.opening.now c.in-Some.number c.rules.number-iterator c.next.new.self c.args.set.now c.rules.set c.in-Some.ensures.steps c.requires.sizes.opened c.rules.invariant.2

pub row-requires : goal.row-requires
row-requires g c =
    let lt = opens_at g.S.IndexStorage.number c.args.grm.now.grammar c.args.opening.now c.in-Some.number c.rules.number-iterator c.next.new.self c.args.set.now c.rules.set c.in-Some.ensures.steps c.requires.sizes.opened c.rules.invariant.2 in
    subst (λ n. c.in-Some.number < n) (sym c.requires.sizes.rows) lt

pub open_rule-requires-clause-rule : goal.open_rule-requires-clause-rule
open_rule-requires-clause-rule g c =
    let lt = opens_at g.S.IndexStorage.number c.args.grm.now.grammar c.args.opening.now c.in-Some.number c.rules.number-iterator c.next.new.self c.args.set.now c.rules.set c.in-Some.ensures.steps c.requires.sizes.opened c.rules.invariant.2 in
    subst (λ n. n < c.args.grm.now.grammar.rules) (sym c.rule_at.ensures) lt

pub rules-preserved : goal.rules-preserved
rules-preserved g c =
    let number = g.S.IndexStorage.number in
    let G = c.args.grm.now.grammar in
    let s = c.args.opening.now in
    let A = c.in-Some.number in
    let lt = opens_at number G s A c.rules.number-iterator c.next.new.self c.args.set.now c.rules.set c.in-Some.ensures.steps c.requires.sizes.opened c.rules.invariant.2 in (
      tt,
      tt,
      opens_next number G s (number c.rule_at.result.0) A c.row.result.now.bits c.rules.number-iterator c.next.new.self c.args.set.now c.rules.set c.open_rule.new.set c.in-Some.ensures.steps c.rule_at.ensures lt c.row.ensures.bits c.rules.invariant.2 c.in_ok-open_rule.ensures,
    )

pub returns : goal.returns
returns g c = opens_all g.S.IndexStorage.number c.args.grm.now.grammar c.args.opening.now c.rules.number-iterator c.args.set.now c.rules.set c.in-None.ensures.steps.0 c.rules.invariant.2
