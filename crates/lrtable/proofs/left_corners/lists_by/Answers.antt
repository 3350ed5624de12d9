use Rattle.std.proofs.Common.{rules, ◌∷◌, [], length, map, sym, ap, ◌∙◌, subst, arith, length-append}
use Rattle.std.proofs.lemmas.List.{length-map, map_push}
use Rattle.std.specs.declared.alloc.Global.{Global}
use Rattle.std.specs.declared.vec.Vec.{Vec}
use Rattle.lrtable.specs.Fronts.{front_of}
use Rattle.lrtable.specs.Reachers.{HasReach}
use Rattle.lrtable.specs.Reaching.{MayBeReachedBy}
use Rattle.lrtable.specs.declared.openers.Opener.{Opener}
use Rattle.lrtable.proofs.Reaching.{lists_more}
use Rattle.lrtable.proofs.left_corners.lists_by.Goals as goal

pub rules-init : goal.rules-init
rules-init c = record {
  count = search rules;
  each = λ A lt. absurd (omega (arith, lt));
  reacher = c.requires.reacher;
}

pub reached_if_marked-requires : goal.reached_if_marked-requires
reached_if_marked-requires c =
    let i = c.rules.invariant in
    let test = c.rules-test.true in
    let len = c.len-rules.ensures in
    let t = sym i.reacher.tokens_are in
    record {
      rule = omega (arith, test, len);
      reacher = subst (λ n. HasReach (length c.args.openers.now) n c.rules.reacher) t i.reacher;
      fit = λ A e m. let f = c.requires.fit A e m in record { rule = f.rule; first = f.first ∙ t };
    }

pub rules-preserved : goal.rules-preserved
rules-preserved c =
    let i = c.rules.invariant in
    let r = c.in_ok-list.ensures in
    let v = c.in_ok-list.list in
    let pushed = c.in_ok-push.ensures.items in
    let n = length-append c.rules.reached.items (v ∷ []) in
    let e = ap length pushed in
    let count = i.count in
    let m = length-map c.rules.reached.items (λ (w : Vec Opener Global). map front_of w.items) in
    record {
      count = omega (arith, n, e, count);
      each = lists_more c.args.openers.now c.args.reacher.now.opening.tokens (map (λ (w : Vec Opener Global). map front_of w.items) c.rules.reached.items) (map (λ (w : Vec Opener Global). map front_of w.items) c.push.new.self.items) c.rules.rule (map front_of v.items)
          (omega (arith, m, count)) (ap (map (λ (w : Vec Opener Global). map front_of w.items)) pushed ∙ map_push (λ (w : Vec Opener Global). map front_of w.items) c.rules.reached.items v) i.each
          (subst (λ k. MayBeReachedBy c.args.openers.now k c.rules.rule (map front_of v.items)) i.reacher.tokens_are r.reached);
      reacher = subst (λ n. HasReach (length c.args.openers.now) n c.reached_if_marked.new.reacher) i.reacher.tokens_are r.reacher;
    }

pub returns : goal.returns
returns c =
    let m = length-map c.rules.reached.items (λ (w : Vec Opener Global). map front_of w.items) in
    let count = c.rules.invariant.count in
    λ A lt. c.rules.invariant.each A (omega (arith, m, count, lt))
