use Rattle.std.proofs.Common.{◌≡◌}
use Rattle.std.specs.Prelude.{true}
use Rattle.std.specs.declared.ops.Bound.TheVariants.{Unbounded}
use Rattle.vob.specs.Walk.{walk}
use Rattle.lrtable.proofs.Clearing.{emptied_begin, emptied_at, emptied_next}
use Rattle.lrtable.proofs.rule_rows.RuleRows.clear_all.Goals as goal

pub rules-init : goal.rules-init
rules-init c =
    let e : c.into_iter-rule-iterator.result ≡ walk true c.args.rules.now.bits Unbounded Unbounded = cc in
    (tt, tt, emptied_begin c.args.self.now c.args.rules.now.bits c.into_iter-rule-iterator.result c.requires e)

pub clear-requires : goal.clear-requires
clear-requires c = emptied_at c.args.self.now c.rules.self c.args.rules.now.bits c.in-Some.rule c.rules.rule-iterator c.next.new.self c.in-Some.ensures.steps c.rules.invariant.2

pub rules-preserved : goal.rules-preserved
rules-preserved c = (
  tt,
  tt,
  emptied_next c.args.self.now c.rules.self c.clear.new.self c.args.rules.now.bits c.in-Some.rule c.rules.rule-iterator c.next.new.self c.in-Some.ensures.steps c.clear.ensures c.rules.invariant.2,
)
