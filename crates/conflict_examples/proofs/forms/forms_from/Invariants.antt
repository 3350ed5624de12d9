use Rattle.std.proofs.Common.{reverse}
use Rattle.cfg_numbered.specs.Symbols.{syms_of}
use Rattle.conflict_examples.proofs.StepLists.{FormsLeft}
use Rattle.conflict_examples.proofs.forms.forms_from.Given as goal

-- the forms so far and those that are left are all
abbrev pub invariant-steps : goal.invariant-steps
invariant-steps g l =
    let number = g.S.IndexStorage.number in
    FormsLeft l.grm.grammar (λ p. number p.0) (λ f. syms_of number f.items) (reverse (syms_of number l.fn.form.items)) l.steps l.forms.items (reverse (syms_of number l.form.items)) l.k
