use Rattle.std.proofs.Common.{ℕ, List, sym, subst, subst₂, arith}
use Rattle.lrtable.specs.Pruning.{AreNumbered}
use Rattle.lrtable.proofs.Numbering.{numbered_none}
use Rattle.lrtable.proofs.pruning.number_all.Goals as goal

pub states-init : goal.states-init
states-init c = subst₂ (λ (k n : List ℕ). AreNumbered c.args.marked.now.bits 0 k n) (sym c.new-kept.ensures.items) (sym c.new-numbers.ensures.items) (numbered_none c.args.marked.now.bits)

pub returns : goal.returns
returns c =
    let done = c.states-test.false in
    let auto = c.states.auto.number-end in
    let len = c.len-number-end.ensures in
    subst (λ n. AreNumbered c.args.marked.now.bits n c.states.kept.items c.states.numbers.items) (omega (arith, done, auto, len)) c.states.invariant
