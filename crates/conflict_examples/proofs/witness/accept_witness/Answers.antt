use Rattle.std.proofs.Common.{refl, ap, ◌∙◌}
use Rattle.cfg_theory.specs.Grammar.{end_token}
use Rattle.cfg_numbered.specs.Symbols.{sym_of, numbers_of}
use Rattle.conflict_examples.specs.ExampleViews.{open_item}
use Rattle.conflict_examples.specs.Opening.{IsOpen}
use Rattle.conflict_examples.proofs.Shows.{kept_accept}
use Rattle.conflict_examples.proofs.witness.accept_witness.Goals as goal

pub returns : goal.returns
returns g c =
    let number = g.S.IndexStorage.number in
    let spine = c.in-Some.spine in
    let was : IsOpen number c.args.grm.now.grammar spine = rw c.in-Some.is at c.in_ok-spine.ensures in
    let made = c.witness_of.result in
    let inner = rw c.as_slice-2.ensures.value at c.in-Some-innermost.ensures in
    let none = ap (λ v. numbers_of number v.items) c.witness_of.ensures.steps ∙ ap (numbers_of number) c.new.ensures.items in
    kept_accept (open_item number) (sym_of number) c.args.grm.now.grammar (end_token c.args.grm.now.grammar) (c.in-Some-innermost.pidx, c.in-Some-innermost.dot) inner.outer spine.items.items made.action.spine.items spine.symbols.items made.symbols.items spine.rest.items (numbers_of number made.action.steps.items)
    inner.is was c.witness_of.ensures.spine c.witness_of.ensures.symbols none (c.if-not-accepts.ensures.production refl) (c.if-not-accepts.ensures.complete refl) refl
