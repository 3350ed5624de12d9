use Rattle.std.proofs.Common.{get_or, sym, subst, below_more}
use Rattle.cfg_numbered.specs.Symbols.{sym_of}
use Rattle.lrtable.specs.States.{Edge}
use Rattle.state_table.specs.Graphs.{SymBefore}
use Rattle.lrtable.specs.StateViews.{edge_of_pair, edges_of}
use Rattle.std.proofs.lemmas.List.{get_or-map}
use Rattle.lrtable.proofs.states.edge_index.Goals as goal

pub each-preserved : goal.each-preserved
each-preserved g c =
    let number = g.S.IndexStorage.number in
    let X = sym_of number c.args.symbol in
    below_more (λ k. (d : Edge) → SymBefore (get_or (edges_of number c.args.edges.now) k d).symbol X) c.each.i c.each.invariant
    (λ d. subst (λ (e : Edge). SymBefore e.symbol X) (sym (get_or-map (edge_of_pair number) c.args.edges.now c.each.i c.index-edges-i.result d c.each-test.true)) (c.comes_before.ensures.0 c.if-not-comes_before.false))
