use Rattle.std.proofs.Common.{◌≡◌, true, false, ℕ, ◌<◌, ◌≤◌, List, length, get_or, refl, sym, subst, arith}
use Rattle.std.proofs.lemmas.List.{length-map}
use Rattle.cfg_numbered.specs.Symbols.{sym_of}
use Rattle.lr_theory.specs.Building.{same_symbol}
use Rattle.lrtable.specs.States.{Edge, IsPut}
use Rattle.state_table.specs.Graphs.{SymBefore}
use Rattle.lrtable.specs.StateViews.{EdgeTo, edge_of_pair, edges_of}
use Rattle.lrtable.proofs.EdgeOrder.{before_on, put_same, put_new}
use Rattle.lrtable.proofs.states.put_among.Goals as goal

pub returns-then-is_on : goal.returns-then-is_on
returns-then-is_on g c =
    let number = g.S.IndexStorage.number in
    let X = sym_of number c.args.edge.0 in
    let i = c.args.near in
    let xs = c.args.edges.now.items in
    let on = subst (λ (l : List (EdgeTo g.row.S.Denot)). (i < length l) × ((d : Edge) → same_symbol (get_or (edges_of number l) i d).symbol X ≡ true)) c.as_slice.ensures.value (c.is_on.ensures.here c.if-is_on.true) in
    let n = length-map xs (edge_of_pair number) in
    let lt = on.0 in
    put_same (edge_of_pair number) xs i c.args.edge X (number c.args.edge.1.0) refl refl (before_on (edges_of number xs) i X c.requires (omega (arith, n, lt)) on.1) on.0 on.1

pub returns-then-is_on-2 : goal.returns-then-is_on-2
returns-then-is_on-2 g c =
    let number = g.S.IndexStorage.number in
    let X = sym_of number c.args.edge.0 in
    let i = c.edge_index-index.result in
    let xs = c.args.edges.now.items in
    let before = subst (λ (l : List (EdgeTo g.row.S.Denot)). (j : ℕ) → j < i → (d : Edge) → SymBefore (get_or (edges_of number l) j d).symbol X) c.as_slice-2.ensures.value c.edge_index-index.ensures.before in
    let here = subst (λ (l : List (EdgeTo g.row.S.Denot)). (i < length l) × ((d : Edge) → same_symbol (get_or (edges_of number l) i d).symbol X ≡ true)) c.as_slice-3.ensures.value (c.is_on-2.ensures.here c.if-is_on-2.true) in
    put_same (edge_of_pair number) xs i c.args.edge X (number c.args.edge.1.0) refl refl before here.0 here.1

pub returns : goal.returns
returns g c =
    let number = g.S.IndexStorage.number in
    let X = sym_of number c.args.edge.0 in
    let i = c.edge_index-index.result in
    let xs = c.args.edges.now.items in
    let before = subst (λ (l : List (EdgeTo g.row.S.Denot)). (j : ℕ) → j < i → (d : Edge) → SymBefore (get_or (edges_of number l) j d).symbol X) c.as_slice-2.ensures.value c.edge_index-index.ensures.before in
    let le = subst (λ (l : List (EdgeTo g.row.S.Denot)). i ≤ length l) c.as_slice-2.ensures.value c.edge_index-index.ensures.within in
    let stop = subst (λ (l : List (EdgeTo g.row.S.Denot)). (d : Edge) → i < length l → SymBefore (get_or (edges_of number l) i d).symbol X → ⊥) c.as_slice-2.ensures.value c.edge_index-index.ensures.stop in
    let other = subst (λ (l : List (EdgeTo g.row.S.Denot)). (d : Edge) → i < length l → same_symbol (get_or (edges_of number l) i d).symbol X ≡ false) c.as_slice-3.ensures.value (c.is_on-2.ensures.other c.if-is_on-2.false) in
    subst (λ (l : List (EdgeTo g.row.S.Denot)). IsPut (edges_of number xs) X (number c.args.edge.1.0) (edges_of number l)) (sym c.in_ok-insert.ensures.items) (put_new (edge_of_pair number) xs i c.args.edge X (number c.args.edge.1.0) refl refl before le stop other)
