use Rattle.std.proofs.Common.{◌≡◌, ℕ, List, map, sym, ap, ◌∙◌, subst, arith}
use Rattle.std.specs.Prelude.{◌↔◌}
use Rattle.std.specs.List.{Contains}
use Rattle.std.proofs.lemmas.List.{map_push}
use Rattle.lrtable.specs.Fronts.{front_of}
use Rattle.lrtable.specs.Opening.{Front, IsOpen}
use Rattle.lrtable.specs.declared.openers.Opener.{Opener}
use Rattle.lrtable.proofs.Reaching.{ListsSoFar, lists_none, lists_at, lists_next, lists_all}
use Rattle.lrtable.proofs.opening.Opening.to_openers.Goals as goal

pub rules-init : goal.rules-init
rules-init c =
    let e : c.into_iter-rule-iterator.result ≡ c.open_rules-rule-items.result = cc in
    let none = lists_none c.args.self.now c.args.passed.now.bits c.into_iter-rule-iterator.result (subst (λ l. (A : ℕ) → Contains l A ↔ IsOpen c.args.self.now A) (sym e) c.open_rules-rule-items.ensures) in
    (tt, tt, subst (λ (l : List Opener). ListsSoFar c.args.self.now c.args.passed.now.bits c.into_iter-rule-iterator.result (map front_of l)) (sym c.in_ok-list.ensures.items) none)

pub opener_at-requires-clause-rule : goal.opener_at-requires-clause-rule
opener_at-requires-clause-rule c =
    let lt = lists_at c.args.self.now c.args.passed.now.bits c.in-Some.rule c.rules.rule-iterator c.next.new.self (map front_of c.rules.list.items) c.in-Some.ensures.steps c.rules.invariant.2 in
    let n = c.counts_agree.ensures in
    omega (arith, lt, n)

pub opener_at-requires-clause-width : goal.opener_at-requires-clause-width
opener_at-requires-clause-width c =
    let lt = lists_at c.args.self.now c.args.passed.now.bits c.in-Some.rule c.rules.rule-iterator c.next.new.self (map front_of c.rules.list.items) c.in-Some.ensures.steps c.rules.invariant.2 in
    let n = c.requires in
    omega (arith, lt, n)

pub rules-preserved : goal.rules-preserved
rules-preserved c =
    let o = c.in_ok-opener_at.field-0 in
    let e = ap (map front_of) c.in_ok-push.ensures.items ∙ map_push front_of c.rules.list.items o in (
      tt,
      tt,
      subst (λ (l : List Front). ListsSoFar c.args.self.now c.args.passed.now.bits c.next.new.self l) (sym e)
          (lists_next c.args.self.now c.args.passed.now.bits c.in-Some.rule c.rules.rule-iterator c.next.new.self (map front_of c.rules.list.items) (front_of o) c.in-Some.ensures.steps c.in_ok-opener_at.ensures.rule c.in_ok-opener_at.ensures.first c.in_ok-opener_at.ensures.width c.in_ok-opener_at.ensures.nullable c.rules.invariant.2),
    )

pub returns : goal.returns
returns c = lists_all c.args.self.now c.args.passed.now.bits c.rules.rule-iterator (map front_of c.rules.list.items) c.in-None.ensures.steps.0 c.rules.invariant.2
