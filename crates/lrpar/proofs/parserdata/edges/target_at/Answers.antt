use Rattle.std.proofs.Common.{◌≡◌, length, Some, sym, ap, ◌∙◌, arith}
use Rattle.std.proofs.lemmas.List.{length-map}
use Rattle.std.proofs.lemmas.Option.{slice_get_past, some_pair_parts}
use Rattle.std.specs.Prelude.{slice_get}
use Rattle.cfg_theory.specs.Grammar.{Sym}
use Rattle.cfg_numbered.specs.Symbols.{sym_of}
use Rattle.state_table.specs.GraphViews.{edge_seen, edges_seen}
use Rattle.lrpar.proofs.Edging.{target_of, target_none}
use Rattle.lrpar.proofs.parserdata.edges.target_at.Goals as goal

pub returns-then-index-edges : goal.returns-then-index-edges
returns-then-index-edges g c =
    let number = g.S.IndexStorage.number in
    let es = edges_seen number c.args.edges.now in
    let same : length (edges_seen number c.args.edges.now) ≡ length c.args.edges.now = length-map c.args.edges.now (edge_seen number) in
    let past = slice_get_past es c.args.index (omega (arith, same)) in
    sym (target_none es (sym_of number c.args.symbol) c.args.index c.requires.order c.requires.passed c.requires.stops (λ q h. cc (sym h ∙ past)))

pub returns-then-not-same_symbols : goal.returns-then-not-same_symbols
returns-then-not-same_symbols g c =
    let number = g.S.IndexStorage.number in
    let es = edges_seen number c.args.edges.now in
    let X = sym_of number c.args.symbol in
    let ne = rw c.if-not-same_symbols.true at c.same_symbols.ensures in
    sym (target_none es X c.args.index c.requires.order c.requires.passed c.requires.stops (λ q h.
    let parts = some_pair_parts (sym_of number c.edge_at-found.result.0) X (number c.edge_at-found.result.1.0) q (sym c.edge_at-found.ensures ∙ h) in
    ne parts.0))

pub returns : goal.returns
returns g c =
    let number = g.S.IndexStorage.number in
    let es = edges_seen number c.args.edges.now in
    let X = sym_of number c.args.symbol in
    let is = rw c.if-not-same_symbols.false at c.same_symbols.ensures in
    let at : slice_get es c.args.index ≡ Some (X, number c.edge_at-found.result.1.0) = c.edge_at-found.ensures ∙ ap (λ (x : Sym). Some (x, number c.edge_at-found.result.1.0)) is in
    sym (target_of es c.args.index X (number c.edge_at-found.result.1.0) c.requires.order at)
