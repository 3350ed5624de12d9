use Rattle.std.proofs.Common.{sym, ◌∙◌, arith}
use Rattle.cfg_numbered.specs.Symbols.{sym_of}
use Rattle.lrpar.proofs.NextSymbols.{no_body, past_end, tells_next}
use Rattle.lrpar.proofs.parserdata.items.is_next.Goals as goal

pub returns-then-not-has_prod : goal.returns-then-not-has_prod
returns-then-not-has_prod g c = λ h.
    let k = no_body c.args.grm.now.grammar (g.S.IndexStorage.number c.args.pidx.0) (g.S.IndexStorage.number c.args.dot.0) (sym_of g.S.IndexStorage.number c.args.symbol) h in
    cc (sym c.if-not-has_prod.true ∙ c.has_prod.ensures.1 k)

pub returns-then-at-symbols : goal.returns-then-at-symbols
returns-then-at-symbols g c =
    let number = g.S.IndexStorage.number in
    past_end number c.args.grm.now.grammar (number c.args.pidx.0) (number c.args.dot.0) (sym_of number c.args.symbol) c.prod-symbols.result.now c.prod-symbols.ensures (omega (arith, c.to_usize-at.ensures.value))

pub returns : goal.returns
returns g c =
    let number = g.S.IndexStorage.number in
    tells_next number c.args.grm.now.grammar (number c.args.pidx.0) (number c.args.dot.0) c.to_usize-at.result c.args.symbol c.index-symbols-at.result c.same_symbols.result c.prod-symbols.result.now c.prod-symbols.ensures c.to_usize-at.ensures.value (omega arith) c.index-symbols-at.is c.same_symbols.ensures
