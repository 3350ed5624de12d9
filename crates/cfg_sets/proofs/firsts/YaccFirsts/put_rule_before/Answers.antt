use Rattle.std.proofs.Common.{◌≡◌, length, [], get_or, sym, ap, ◌∙◌}
use Rattle.vob.specs.Sets.{is_set}
use Rattle.cfg_sets.specs.Firsts.{FirstSets}
use Rattle.cfg_sets.proofs.FirstSteps.{rule_before_all, kept_width}
use Rattle.cfg_sets.proofs.firsts.YaccFirsts.put_rule_before.Goals as goal

pub returns-clause-width : goal.returns-clause-width
returns-clause-width g c =
    let width : length c.row.result.now.bits ≡ c.args.self.now.tokens = c.row.ensures.width ∙ ap (λ (s : FirstSets). s.tokens) c.self.view_is in
    kept_width c.get_unchecked.result c.args.tail.now.bits c.clear_unless.new.set.bits c.row.result.now.bits c.or.new.self.bits (c.requires.width ∙ sym width) c.clear_unless.ensures c.or.ensures.bits ∙ width

pub returns-clause-bits : goal.returns-clause-bits
returns-clause-bits g c =
    let A = g.S.IndexStorage.number c.args.ridx.0 in
    let n = c.to_usize-number.result in
    let width : length c.row.result.now.bits ≡ c.args.self.now.tokens = c.row.ensures.width ∙ ap (λ (s : FirstSets). s.tokens) c.self.view_is in
    let row : c.row.result.now.bits ≡ get_or c.args.self.now.rows A [] = c.row.ensures.bits ∙ ap (λ (s : FirstSets). get_or s.rows n []) c.self.view_is ∙ ap (λ k. get_or c.args.self.now.rows k []) c.to_usize-number.ensures.value in
    let keep : c.get_unchecked.result ≡ is_set c.args.self.now.epsilons A = c.get_unchecked.ensures ∙ ap (λ (s : FirstSets). is_set s.epsilons n) c.self.view_is ∙ ap (is_set c.args.self.now.epsilons) c.to_usize-number.ensures.value in
    rule_before_all c.args.self.now A c.get_unchecked.result c.args.tail.now.bits c.clear_unless.new.set.bits c.row.result.now.bits c.or.new.self.bits keep row (c.requires.width ∙ sym width) c.clear_unless.ensures c.or.ensures.bits
