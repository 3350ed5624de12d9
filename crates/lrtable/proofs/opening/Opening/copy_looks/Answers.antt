use Rattle.std.proofs.Common.{◌≡◌, length, [], get_or, sym, ap, ◌∙◌, subst}
use Rattle.std.specs.Prelude.{IsTrue, ◌↔◌}
use Rattle.vob.specs.Sets.{is_set}
use Rattle.lrtable.specs.Opening.{RuleSets}
use Rattle.vob.proofs.Bits.{copied}
use Rattle.lrtable.proofs.opening.Opening.copy_looks.Goals as goal

pub returns-clause-width : goal.returns-clause-width
returns-clause-width c =
    let width : length c.row.result.now.bits ≡ c.args.self.now.tokens = c.row.ensures.width ∙ ap (λ (s : RuleSets). s.tokens) c.self.view_is in
    (copied c.args.looks.now.bits c.set_all.new.self.bits c.row.result.now.bits c.or.new.self.bits (c.requires.width ∙ sym width) c.set_all.ensures.bits c.or.ensures.bits).0 ∙ width

pub returns-clause-bits : goal.returns-clause-bits
returns-clause-bits c = λ t.
    let width : length c.row.result.now.bits ≡ c.args.self.now.tokens = c.row.ensures.width ∙ ap (λ (s : RuleSets). s.tokens) c.self.view_is in
    let row : c.row.result.now.bits ≡ get_or c.args.self.now.rows c.args.rule [] = c.row.ensures.bits ∙ ap (λ (s : RuleSets). get_or s.rows c.args.rule []) c.self.view_is in
    let h = (copied c.args.looks.now.bits c.set_all.new.self.bits c.row.result.now.bits c.or.new.self.bits (c.requires.width ∙ sym width) c.set_all.ensures.bits c.or.ensures.bits).1 t in
    subst (λ l. IsTrue (is_set c.or.new.self.bits t) ↔ IsTrue (is_set l t)) row h
