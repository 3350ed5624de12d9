use Rattle.std.proofs.Common.{◌<◌, map, sym, ◌∙◌, subst}
use Rattle.lrtable.specs.Fronts.{front_of}
use Rattle.lrtable.specs.Reaching.{IsReachedBy}
use Rattle.lrtable.proofs.Reaching.{reached_listed}
use Rattle.lrtable.proofs.left_corners.reached_by.Goals as goal

pub mark_reached-requires : goal.mark_reached-requires
mark_reached-requires c = record {
  rule = c.requires.rule;
  width = c.requires.reacher.passed;
  fit = λ A e m. (c.requires.fit A e m).rule;
  none_waits = c.requires.reacher.none_marked;
}

pub open_from-requires : goal.open_from-requires
open_from-requires c =
    let r = c.requires.reacher in
    record {
      tidy = r.tidy;
      rules = sym r.opened;
      rule = c.requires.rule;
      fit = λ A e m. let f = c.requires.fit A e m in record { rule = subst (λ n. e.rule < n) (sym r.opened) f.rule; first = f.first };
      width = r.looks;
      none_waits = r.none_waits;
    }

pub to_openers-requires : goal.to_openers-requires
to_openers-requires c = c.in_ok-mark_reached.ensures.width ∙ sym (c.in_ok-open_from.ensures.sizes.opened ∙ c.requires.reacher.opened)

pub returns-clause-reached : goal.returns-clause-reached
returns-clause-reached c =
    let o = c.in_ok-open_from.ensures in
    let s = c.open_from.new.self in
    subst (λ n. IsReachedBy c.args.openers.now n c.args.rule (map front_of c.in_ok-list.list.items)) o.sizes.tokens
    (reached_listed c.args.openers.now c.args.rule o.opened.0 s o.opened.1 o.opened.2 c.mark_reached.new.passed.bits (map front_of c.in_ok-list.list.items) (o.sizes.opened ∙ c.requires.reacher.opened) c.in_ok-mark_reached.ensures.passed c.in_ok-list.ensures)

pub returns-clause-reacher : goal.returns-clause-reacher
returns-clause-reacher c =
    let r = c.requires.reacher in
    let o = c.in_ok-open_from.ensures in
    record {
      tidy = o.tidy;
      tokens_are = o.sizes.tokens;
      opened = o.sizes.opened ∙ r.opened;
      passed = c.in_ok-mark_reached.ensures.width;
      looks = o.width;
      none_marked = c.in_ok-mark_reached.ensures.none_waits;
      none_waits = o.none_waits;
    }
