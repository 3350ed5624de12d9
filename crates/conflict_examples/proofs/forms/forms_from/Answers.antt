use Rattle.std.proofs.Common.{◌≡◌, true, false, reverse, refl, sym}
use Rattle.std.proofs.lemmas.Result.{IfOk-weaker}
use Rattle.cfg_numbered.specs.Symbols.{syms_of}
use Rattle.conflict_examples.specs.Opening.{has_rule_first}
use Rattle.conflict_examples.proofs.StepLists.{forms_init, forms_more, forms_cut, forms_end}
use Rattle.conflict_examples.proofs.forms.forms_from.Goals as goal

pub steps-init : goal.steps-init
steps-init g c =
    let number = g.S.IndexStorage.number in
    let start = reverse (syms_of number c.args.form.items) in
    forms_init c.args.grm.now.grammar (λ p. number p.0) (λ f. syms_of number f.items) start c.args.steps.now c.new-forms.result.items c.new-forms.ensures.items start refl

pub steps-preserved : goal.steps-preserved
steps-preserved g c =
    let number = g.S.IndexStorage.number in
    let start = reverse (syms_of number c.args.form.items) in
    let form = reverse (syms_of number c.steps.form.items) in
    let is_rule : has_rule_first form ≡ true = sym (rw c.as_slice.ensures.value at c.if-not-begins_with_rule.ensures) in
    forms_more c.args.grm.now.grammar (λ p. number p.0) (λ f. syms_of number f.items) start c.args.steps.now c.steps.forms.items c.push.new.self.items c.in_ok-reverse_form.field-0 form (reverse (syms_of number c.put_first.new.form.items)) c.steps.k c.index-steps-k.result
    c.steps-test.true c.index-steps-k.is is_rule (rw c.as_slice-in-steps.ensures.value at c.in_ok-reverse_form.ensures) c.in_ok-push.ensures.items c.in_ok-put_first.ensures c.steps.invariant

pub returns-then-not-begins_with_rule : goal.returns-then-not-begins_with_rule
returns-then-not-begins_with_rule g c =
    let number = g.S.IndexStorage.number in
    let start = reverse (syms_of number c.args.form.items) in
    let form = reverse (syms_of number c.steps.form.items) in
    let none : has_rule_first form ≡ false = sym (rw c.as_slice.ensures.value at c.if-not-begins_with_rule.ensures) in
    IfOk-weaker c.with_form.result _ _ (λ v e. forms_cut c.args.grm.now.grammar (λ p. number p.0) (λ f. syms_of number f.items) start c.args.steps.now c.steps.forms.items v.items form c.steps.k none
    (rw c.as_slice-then-not-begins_with_rule.ensures.value at e) c.steps.invariant) c.with_form.ensures

pub returns : goal.returns
returns g c =
    let number = g.S.IndexStorage.number in
    let start = reverse (syms_of number c.args.form.items) in
    let form = reverse (syms_of number c.steps.form.items) in
    IfOk-weaker c.with_form-2.result _ _ (λ v e. forms_end c.args.grm.now.grammar (λ p. number p.0) (λ f. syms_of number f.items) start c.args.steps.now c.steps.forms.items v.items form c.steps.k c.steps-test.false
    (rw c.as_slice-2.ensures.value at e) c.steps.invariant) c.with_form-2.ensures
