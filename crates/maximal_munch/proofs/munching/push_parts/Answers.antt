use Rattle.std.proofs.Common.{◌<◌, length, sym, ◌∙◌, rules, arith}
use Rattle.std.proofs.lemmas.Bool.{eqb-true, eqb-false}
use Rattle.maximal_munch.specs.RuleValues.{rule_set_of, stack_of}
use Rattle.maximal_munch.proofs.MunchSteps.{stop_stuck, stop_end, go_on}
use Rattle.maximal_munch.proofs.munching.push_parts.Goals as goal

pub best_match-best-requires : goal.best_match-best-requires
best_match-best-requires c = record {
  patterns = c.text.invariant.1 ∙ c.requires.patterns;
  some = omega (arith, eqb-false (length c.text.rest.now) 0 (sym c.is_empty.ensures ∙ c.text-test.true));
}

pub returns-then-best-eq0 : goal.returns-then-best-eq0
returns-then-best-eq0 c =
    let l = c.text in
    let best = c.best_match-best in
    let some : 0 < length l.rest.now = omega (arith, eqb-false (length l.rest.now) 0 (sym c.is_empty.ensures ∙ c.text-test.true)) in
    stop_stuck (rule_set_of c.args.rules.now) c.args.text.now l.parts.items l.offset l.rest.now (stack_of l.conditions) l.invariant.2
    best.result.rule best.result.len some best.ensures.best c.if-best-eq0.true

pub text-preserved : goal.text-preserved
text-preserved c =
    let l = c.text in
    let best = c.best_match-best in
    let some : 0 < length l.rest.now = omega (arith, eqb-false (length l.rest.now) 0 (sym c.is_empty.ensures ∙ c.text-test.true)) in (
      search rules,
      best.ensures.same ∙ l.invariant.1,
      go_on (rule_set_of c.args.rules.now) c.args.text.now l.parts.items l.offset l.rest.now (stack_of l.conditions) l.invariant.2
          best.result.rule best.result.len some best.ensures.best (omega (arith, c.if-best-eq0.false))
          c.target.result (stack_of c.follow.new.self) c.target.ensures c.in_ok-follow.ensures
          c.push.new.self.items c.range_from-rest.result.now c.in_ok-push.ensures.items c.range_from-rest.ensures.value,
      omega (arith, c.range_from-rest.ensures.len, l.invariant.3),
    )

pub returns : goal.returns
returns c =
    let l = c.text in
    stop_end (rule_set_of c.args.rules.now) c.args.text.now l.parts.items l.offset l.rest.now (stack_of l.conditions) l.invariant.2
    (eqb-true (length l.rest.now) 0 (sym c.is_empty.ensures ∙ c.text-test.false))
