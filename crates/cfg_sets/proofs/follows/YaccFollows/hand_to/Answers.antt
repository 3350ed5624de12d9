use Rattle.std.proofs.Common.{inl, inr, refl, ap, subst, arith}
use Rattle.std.specs.List.{Contains}
use Rattle.vob.specs.Sets.{missing_in}
use Rattle.cfg_sets.proofs.FollowFills.{hands_rule}
use Rattle.cfg_sets.proofs.follows.YaccFollows.hand_to.Goals as goal

pub returns-then-not-add_row-clause-handed : goal.returns-then-not-add_row-clause-handed
returns-then-not-add_row-clause-handed g c =
    let number = g.S.IndexStorage.number in
    let w = c.args.work.now in
    let same = c.add_row.ensures.steps.still c.if-not-add_row.true in
    let rows = ap (λ s. missing_in s.rows) same in
    hands_rule (number c.args.from.0) (number c.args.to.0) c.args.self.now c.add_row.new.self w w c.add_row.ensures.added (inl same) (λ B h. h) refl (omega (arith, rows))

pub returns-clause-handed : goal.returns-clause-handed
returns-clause-handed g c =
    let number = g.S.IndexStorage.number in
    let put = c.in_ok-put.ensures in
    let longer = put.longer in
    let fewer = c.add_row.ensures.steps.fewer c.if-not-add_row.false in
    hands_rule (number c.args.from.0) (number c.args.to.0) c.args.self.now c.add_row.new.self c.args.work.now c.put.new.self c.add_row.ensures.added (inr (subst (Contains c.put.new.self.list) c.to_usize.ensures.value put.waits)) put.kept put.rules (omega (arith, longer, fewer))
