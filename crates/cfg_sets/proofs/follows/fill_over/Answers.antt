use Rattle.std.proofs.Common.{ap, ◌∙◌, subst}
use Rattle.cfg_sets.specs.Follows.{AreFollows}
use Rattle.cfg_sets.proofs.FollowSteps.{exact_follows}
use Rattle.cfg_sets.proofs.FollowFills.{hands_all, all_wait}
use Rattle.cfg_sets.proofs.follows.fill_over.Goals as goal

pub returns-in-Ok : goal.returns-in-Ok
returns-in-Ok g c =
    let same = c.in-Ok.ensures.same.0 ∙ c.start.ensures.grammar ∙ c.in_ok-filling.ensures.grammar in
    let t = c.fill.new.table in
    let G = t.grm.now.grammar in
    let sound = c.in-Ok.ensures.sound in
    subst (λ v. AreFollows v.grammar t.follows) same
    (exact_follows G t.firsts.now t.follows c.first_tables_are_exact.ensures c.follow_tables_are_exact.ensures sound.1 sound.0.sizes sound.0.sound sound.2 (hands_all G t.firsts.now t.follows c.in-Ok.ensures.closed))

pub fill-requires-clause-closed : goal.fill-requires-clause-closed
fill-requires-clause-closed g c =
    let G = c.args.grm.now.grammar in
    let t = c.start.new.self in
    all_wait G t.grm.now.grammar t.firsts.now t.follows c.in_ok-work.work.list c.to_usize.result c.stays_well_formed.ensures (ap (λ v. v.grammar) (c.start.ensures.grammar ∙ c.in_ok-filling.ensures.grammar)) (c.to_usize.ensures.value ∙ c.rules_len.ensures) c.in_ok-work.ensures.all
