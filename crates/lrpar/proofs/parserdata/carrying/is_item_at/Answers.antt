use Rattle.std.proofs.Common.{◌≡◌, ◌∙◌, arith}
use Rattle.std.proofs.lemmas.Bool.Decides.{nat_tests}
use Rattle.lrpar.proofs.ItemLists.{item_here}
use Rattle.lrpar.proofs.parserdata.carrying.is_item_at.Goals as goal

pub returns : goal.returns
returns g c = λ b.
    let number = g.S.IndexStorage.number in
    let prods : number c.args.pidx.0 ≡ number c.item_at-found.result.0.0 = omega arith in
    let read : c.to_usize-3.result ≡ c.to_usize-4.result = grind (arith, nat_tests) in
    let dots : number c.args.dot.0 ≡ number c.item_at-found.result.1.0 = omega (arith, read) in
    item_here c.args.items.now c.args.index (number c.args.pidx.0) (number c.args.dot.0) (omega arith) (λ e. prods ∙ c.item_at-found.ensures.production e) (λ e. dots ∙ c.item_at-found.ensures.dot e)
