use Rattle.std.proofs.Common.{◌≡◌, false, length, ap, ◌∙◌, subst}
use Rattle.std.proofs.lemmas.List.{length-replicate}
use Rattle.cfg_sentences.specs.CostTable.{cost_of}
use Rattle.cfg_sentences.specs.Greatest.{AreGaining, IsNarrowedBy}
use Rattle.cfg_sentences.proofs.NarrowSteps.{none_gain}
use Rattle.cfg_sentences.proofs.sentences.unbounded.rules_before.Goals as goal

pub closed_by_prods-requires-clause-sound : goal.closed_by_prods-requires-clause-sound
closed_by_prods-requires-clause-sound g c =
    let G = c.args.costly.now.grammar in
    let n : c.to_usize.result ≡ G.rules = c.to_usize.ensures.value ∙ c.rules_len.ensures in
    let bits = c.in_ok-new.new.bits in
    let made = c.in_ok-new.ensures.bits in
    (c.requires.old_width, ap length made ∙ length-replicate c.to_usize.result false ∙ n, none_gain G (cost_of c.args.costly.now.costs) c.args.old.now.bits c.to_usize.result bits made)

pub returns-clause-width : goal.returns-clause-width
returns-clause-width g c = c.in_ok-closed.ensures.sound.1 ∙ ap (λ v. v.grammar.rules) c.in_ok-closed.ensures.same.0

pub returns-clause-sound : goal.returns-clause-sound
returns-clause-sound g c =
    let t = c.in_ok-closed.closed in
    let h = c.in_ok-closed.ensures in
    let costly = t.costly.now in
    subst (λ v. AreGaining v.grammar (cost_of v.costs) c.args.old.now.bits t.new.bits) h.same.0
    (subst (λ v. AreGaining costly.grammar (cost_of costly.costs) v.bits t.new.bits) h.same.1 h.sound.2)

pub returns-clause-closed : goal.returns-clause-closed
returns-clause-closed g c = λ p lt.
    let t = c.in_ok-closed.closed in
    let h = c.in_ok-closed.ensures in
    let costly = t.costly.now in
    subst (λ v. IsNarrowedBy v.grammar (cost_of v.costs) v.table c.args.old.now.bits p t.new.bits) h.same.0
    (subst (λ v. IsNarrowedBy costly.grammar (cost_of costly.costs) costly.table v.bits p t.new.bits) h.same.1 (h.closed p lt))
