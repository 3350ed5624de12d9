use Rattle.std.proofs.Common.{◌≤◌, length, sym, ap, ◌∙◌, subst, arith}
use Rattle.std.proofs.lemmas.List.{length-map}
use Rattle.cfg_theory.specs.Grammar.{body_of}
use Rattle.cfg_numbered.specs.Symbols.{sym_of}
use Rattle.cfg_numbered.proofs.Lookups.{body_in}
use Rattle.cfg_numbered.proofs.yacc.grammar.NumberedGrammar.prod_len.Goals as goal

pub index_of-requires : goal.index_of-requires
index_of-requires g c =
    let number = g.S.IndexStorage.number in
    let body = body_in number _ _ _ _ _ _ c.self.view_is c.to_usize.result (number c.args.pidx.0) c.index.result.now c.to_usize.ensures.value c.requires c.index.ensures in
    let fits = subst (λ v. length (body_of v.grammar (number c.args.pidx.0)) ≤ g.S.IndexStorage.MAX) c.self.view_is (c.self.invariant.0.fits.symbols (number c.args.pidx.0)) in
    let len = ap length body ∙ length-map c.index.result.now.symbols.items (sym_of number) in
    let slice = ap length c.as_slice-symbols.ensures.value in
    omega (arith, fits, len, slice)

pub returns : goal.returns
returns g c =
    let number = g.S.IndexStorage.number in
    let body = body_in number _ _ _ _ _ _ c.self.view_is c.to_usize.result (number c.args.pidx.0) c.index.result.now c.to_usize.ensures.value c.requires c.index.ensures in
    c.index_of.ensures ∙ ap length c.as_slice-symbols.ensures.value ∙ sym (ap length body ∙ length-map c.index.result.now.symbols.items (sym_of number))
