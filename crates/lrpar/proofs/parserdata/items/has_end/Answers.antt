use Rattle.cfg_theory.specs.Grammar.{body_of}
use Rattle.std.proofs.Common.{length, sym, ◌∙◌}
use Rattle.lrpar.proofs.parserdata.items.has_end.Goals as goal

pub returns-then-not-has_prod : goal.returns-then-not-has_prod
returns-then-not-has_prod g c = λ h.
    let lt = c.requires (g.S.IndexStorage.number c.args.pidx.0) (length (body_of c.args.grm.now.grammar (g.S.IndexStorage.number c.args.pidx.0))) h in
    cc (sym c.if-not-has_prod.true ∙ c.has_prod.ensures.1 lt)
