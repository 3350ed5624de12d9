use Rattle.std.proofs.Common.{length, sym, ap, ◌∙◌, arith}
use Rattle.std.proofs.lemmas.List.{length-map}
use Rattle.cfg_read.specs.AstModels as views
use Rattle.cfgrammar.proofs.yacc.from_ast.start_prod.Goals as goal

pub index_of-requires : goal.index_of-requires
index_of-requires g c =
    let count = length-map c.prods.result.now views.production_of in
    let same = ap length c.prods.ensures in
    let low = c.requires in
    omega (arith, low, count, same)

pub returns : goal.returns
returns g c = c.index_of.ensures ∙ sym (length-map c.prods.result.now views.production_of) ∙ ap length c.prods.ensures
