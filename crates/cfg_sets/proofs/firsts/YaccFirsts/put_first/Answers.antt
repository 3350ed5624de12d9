use Rattle.std.proofs.Common.{◌≡◌, ◌||◌, length, [], get_or, sym, ap, ◌∙◌}
use Rattle.vob.proofs.Bits.{length-bitwise}
use Rattle.cfg_sets.specs.Firsts.{FirstSets}
use Rattle.cfg_sets.proofs.FirstSteps.{joined_first}
use Rattle.cfg_sets.proofs.firsts.YaccFirsts.put_first.Goals as goal

pub returns-in-Rule-clause-width : goal.returns-in-Rule-clause-width
returns-in-Rule-clause-width g c =
    let width : length c.row.result.now.bits ≡ c.args.self.now.tokens = c.row.ensures.width ∙ ap (λ (s : FirstSets). s.tokens) c.self.view_is in
    ap length c.or.ensures.bits ∙ length-bitwise (λ x y. x || y) c.args.begins.now.bits c.row.result.now.bits (c.requires.width ∙ sym width) ∙ c.requires.width

pub returns-in-Rule-clause-bits : goal.returns-in-Rule-clause-bits
returns-in-Rule-clause-bits g c =
    let A = g.S.IndexStorage.number c.in-Rule.rule.0 in
    let n = c.to_usize-number.result in
    let width : length c.row.result.now.bits ≡ c.args.self.now.tokens = c.row.ensures.width ∙ ap (λ (s : FirstSets). s.tokens) c.self.view_is in
    let row : c.row.result.now.bits ≡ get_or c.args.self.now.rows A [] = c.row.ensures.bits ∙ ap (λ (s : FirstSets). get_or s.rows n []) c.self.view_is ∙ ap (λ k. get_or c.args.self.now.rows k []) c.to_usize-number.ensures.value in
    rw c.in-Rule.is (joined_first c.args.self.now A c.args.begins.now.bits c.row.result.now.bits c.or.new.self.bits row (c.requires.width ∙ sym width) c.or.ensures.bits)
