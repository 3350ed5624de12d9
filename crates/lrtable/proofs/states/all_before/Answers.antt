use Rattle.std.proofs.Common.{◌-◌, length, sym, subst, arith}
use Rattle.std.proofs.lemmas.List.{length-map, get_or-map}
use Rattle.cfg_numbered.specs.Symbols.{sym_of}
use Rattle.lrtable.specs.States.{Edge}
use Rattle.state_table.specs.Graphs.{SymBefore}
use Rattle.lrtable.specs.StateViews.{edge_of_pair, edges_of}
use Rattle.lrtable.proofs.EdgeOrder.{last_before}
use Rattle.lrtable.proofs.states.all_before.Goals as goal

pub returns : goal.returns
returns g c = λ h k lt d.
    let number = g.S.IndexStorage.number in
    let X = sym_of number c.args.symbol in
    let es = edges_of number c.args.edges.now in
    let n = length-map c.args.edges.now (edge_of_pair number) in
    let last = length c.args.edges.now - 1 in
    last_before es X last d c.requires (omega (arith, n, lt)) (subst (λ (e : Edge). SymBefore e.symbol X) (sym (get_or-map (edge_of_pair number) c.args.edges.now last c.index-edges-count.result d (omega (arith, n, lt)))) (c.comes_before.ensures.0 h)) k (omega (arith, n, lt)) d
