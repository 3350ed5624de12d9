use Rattle.std.proofs.Common.{◌≡◌, Bool, true, false, inl, inr, refl, sym, ◌∙◌}
use Rattle.std.proofs.lemmas.Bool.{cases_Bool}
use Rattle.vob.specs.Sets.{is_set}
use Rattle.cfg_sentences.proofs.sentences.unbounded.put_rule.Goals as goal

false_true : ◌≡◌ {A = Bool} false true → ⊥
false_true e = cc

pub returns-then-set-clause-told : goal.returns-then-set-clause-told
returns-then-set-clause-told c = (refl, c.set.ensures.changed.0 c.if-set.true)

pub returns-clause-told : goal.returns-clause-told
returns-clause-told c = elim (cases_Bool (is_set c.args.set.now.bits c.args.rule)) [ inl h ↦ h | inr h ↦ absurd (false_true (sym c.if-set.false ∙ c.set.ensures.changed.1 h)) ]
