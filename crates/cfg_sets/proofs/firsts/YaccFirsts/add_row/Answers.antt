use Rattle.std.proofs.Common.{◌≡◌, ℕ, ◌↔◌, length, [], get_or, sym, ap, ◌∙◌, subst}
use Rattle.std.specs.Prelude.{IsTrue}
use Rattle.vob.specs.Sets.{is_set}
use Rattle.cfg_sets.specs.Firsts.{FirstSets, HasFirst}
use Rattle.cfg_sets.proofs.FirstSteps.{copied}
use Rattle.cfg_sets.proofs.FirstFills.{adds_row}
use Rattle.cfg_sets.proofs.firsts.YaccFirsts.add_row.Goals as goal

pub add_tokens-requires-clause-width : goal.add_tokens-requires-clause-width
add_tokens-requires-clause-width g c =
    let width : length c.row.result.now.bits ≡ c.args.self.now.tokens = c.row.ensures.width ∙ ap (λ (s : FirstSets). s.tokens) c.self.view_is in
    (copied c.args.row.now.bits c.set_all.new.self.bits c.row.result.now.bits c.or.new.self.bits (c.requires.width ∙ sym width) c.set_all.ensures.bits c.or.ensures.bits).0 ∙ width

pub returns-clause-width : goal.returns-clause-width
returns-clause-width g c =
    let width : length c.row.result.now.bits ≡ c.args.self.now.tokens = c.row.ensures.width ∙ ap (λ (s : FirstSets). s.tokens) c.self.view_is in
    (copied c.args.row.now.bits c.set_all.new.self.bits c.row.result.now.bits c.or.new.self.bits (c.requires.width ∙ sym width) c.set_all.ensures.bits c.or.ensures.bits).0 ∙ width

pub returns-clause-added : goal.returns-clause-added
returns-clause-added g c =
    let A = g.S.IndexStorage.number c.args.rule.0 in
    let n = c.to_usize.result in
    let width : length c.row.result.now.bits ≡ c.args.self.now.tokens = c.row.ensures.width ∙ ap (λ (s : FirstSets). s.tokens) c.self.view_is in
    let row : c.row.result.now.bits ≡ get_or c.args.self.now.rows A [] = c.row.ensures.bits ∙ ap (λ (s : FirstSets). get_or s.rows n []) c.self.view_is ∙ ap (λ k. get_or c.args.self.now.rows k []) c.to_usize.ensures.value in
    let copy = copied c.args.row.now.bits c.set_all.new.self.bits c.row.result.now.bits c.or.new.self.bits (c.requires.width ∙ sym width) c.set_all.ensures.bits c.or.ensures.bits in
    let tells : (t : ℕ) → IsTrue (is_set c.or.new.self.bits t) ↔ HasFirst c.args.self.now A t = λ t. subst (λ l. IsTrue (is_set c.or.new.self.bits t) ↔ IsTrue (is_set l t)) row (copy.1 t) in
    adds_row (g.S.IndexStorage.number c.args.head.0) (HasFirst c.args.self.now A) c.or.new.self.bits c.args.self.now c.add_tokens.new.self c.requires.head (c.add_tokens.ensures.width_was ∙ sym (copy.0 ∙ width)) tells c.add_tokens.ensures.tokens c.add_tokens.ensures.rows c.add_tokens.ensures.epsilons
