use Rattle.std.proofs.Common.{◌≡◌, ◌≢◌, Some, length, sym, ◌∙◌}
use Rattle.cfg_theory.specs.Grammar.{body_of}
use Rattle.lr_theory.specs.Itemset.{entry_at}
use Rattle.lrpar.proofs.Completed.{looks_tell}
use Rattle.lrpar.proofs.parserdata.complete.item_stands.Goals as goal

pub returns-in-Some : goal.returns-in-Some
returns-in-Some g c =
    let number = g.S.IndexStorage.number in
    let end : number c.args.dot.0 ≡ length (body_of c.args.machine.now.grm.now.grammar (number c.args.pidx.0)) = sym c.to_usize.ensures.value ∙ c.if-to_usize.false ∙ c.to_usize-2.ensures.value ∙ c.prod_len.ensures in
    let ne : number c.args.pidx.0 ≢ c.args.machine.now.grm.now.grammar.start = λ e. c.if-to_usize-2.false (c.to_usize-3.ensures.value ∙ e ∙ sym (c.to_usize-4.ensures.value ∙ c.start_prod.ensures.value)) in
    let at : entry_at c.args.items.now (number c.args.pidx.0) (number c.args.dot.0) ≡ Some c.in-Some.looks.now.bits = rw c.in-Some.is at (sym c.get.ensures) in
    looks_tell c.args.machine.now.grm.now.grammar c.args.machine.now.stable.now (number c.args.state.0) (number c.args.pidx.0) (number c.args.dot.0) c.args.items.now c.in-Some.looks.now.bits c.reduces_on.result at end ne (rw c.if-not-next_is_shifted.false at c.next_is_shifted.ensures) c.reduces_on.ensures
