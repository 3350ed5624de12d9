use Rattle.std.proofs.Common.{◌≡◌, length, [], get_or, sym, ap, ◌∙◌, subst}
use Rattle.std.specs.Prelude.{IsTrue, ◌↔◌}
use Rattle.vob.specs.Sets.{is_set}
use Rattle.cfg_sets.specs.Follows.{FollowSets}
use Rattle.cfg_sets.proofs.FirstSteps.{copied}
use Rattle.cfg_sets.proofs.follows.YaccFollows.copy_set.Goals as goal

pub returns-clause-width : goal.returns-clause-width
returns-clause-width g c =
    let width : length c.row.result.now.bits ≡ c.args.self.now.tokens = c.row.ensures.width ∙ ap (λ (s : FollowSets). s.tokens) c.self.view_is in
    (copied c.args.to.now.bits c.set_all.new.self.bits c.row.result.now.bits c.or.new.self.bits (c.requires.width ∙ sym width) c.set_all.ensures.bits c.or.ensures.bits).0 ∙ width

pub returns-clause-bits : goal.returns-clause-bits
returns-clause-bits g c = λ t.
    let n = c.to_usize.result in
    let width : length c.row.result.now.bits ≡ c.args.self.now.tokens = c.row.ensures.width ∙ ap (λ (s : FollowSets). s.tokens) c.self.view_is in
    let row : c.row.result.now.bits ≡ get_or c.args.self.now.rows (g.S.IndexStorage.number c.args.rule.0) [] = c.row.ensures.bits ∙ ap (λ (s : FollowSets). get_or s.rows n []) c.self.view_is ∙ ap (λ k. get_or c.args.self.now.rows k []) c.to_usize.ensures.value in
    let h = (copied c.args.to.now.bits c.set_all.new.self.bits c.row.result.now.bits c.or.new.self.bits (c.requires.width ∙ sym width) c.set_all.ensures.bits c.or.ensures.bits).1 t in
    subst (λ l. IsTrue (is_set c.or.new.self.bits t) ↔ IsTrue (is_set l t)) row h
