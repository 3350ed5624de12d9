use Rattle.std.proofs.Common.{reverse, refl, sym, subst}
use Rattle.cfg_numbered.specs.Symbols.{sym_of, syms_of, numbers_of}
use Rattle.conflict_examples.specs.ExampleViews.{open_item}
use Rattle.conflict_examples.specs.Opening.{AreStepsTo}
use Rattle.conflict_examples.proofs.Shows.{kept_reduce}
use Rattle.conflict_examples.proofs.witness.reduce_by.Goals as goal

pub returns : goal.returns
returns g c =
    let number = g.S.IndexStorage.number in
    let G = c.args.grm.now.grammar in
    let spine = c.args.spine in
    let made = c.witness_of.result in
    let inner = rw c.as_slice.ensures.value at c.in-Some.ensures in
    let steps : AreStepsTo G (number c.args.token.0) (reverse (syms_of number spine.rest.items)) (numbers_of number made.action.steps.items) =
    subst (λ v. AreStepsTo G (number c.args.token.0) (reverse (syms_of number spine.rest.items)) (numbers_of number v.items)) (sym c.witness_of.ensures.steps) c.requires.steps in
    kept_reduce (open_item number) (sym_of number) G (number c.args.token.0) (c.in-Some.pidx, c.in-Some.dot) inner.outer spine.items.items made.action.spine.items spine.symbols.items made.symbols.items spine.rest.items (numbers_of number made.action.steps.items)
    inner.is c.requires.spine c.witness_of.ensures.spine c.witness_of.ensures.symbols (number c.args.production.0) (c.if-not-reduces.ensures.production refl) (c.if-not-reduces.ensures.other refl) (c.if-not-reduces.ensures.complete refl) steps
