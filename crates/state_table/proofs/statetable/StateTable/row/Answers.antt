use Rattle.std.proofs.Common.{◌≡◌, ℕ, ◌<◌, List, [], length, get_or, sym, ap, ◌∙◌, subst, arith}
use Rattle.std.proofs.lemmas.List.{length-map, get_or-map}
use Rattle.std.specs.declared.alloc.Global.{Global}
use Rattle.std.specs.declared.vec.Vec.{Vec}
use Rattle.lr_theory.specs.Automaton.{Action}
use Rattle.state_table.specs.declared.cells.Action.{Action as TableAction}
use Rattle.state_table.specs.CellViews.{cells_of}
use Rattle.state_table.specs.SparseRows.{IsCellRow, full_cells}
use Rattle.state_table.specs.TableValues.{TableValue}
use Rattle.state_table.specs.TableViews.{action_rows_of}
use Rattle.state_table.proofs.FullRows.{cells_at}
use Rattle.state_table.proofs.statetable.StateTable.row.Goals as goal

pub returns-clause-cells : goal.returns-clause-cells
returns-clause-cells g c =
    let number = g.S.IndexStorage.number in
    let i = c.self.inside in
    let rows = i.actions.items in
    let s = number c.args.stidx.0 in
    let x = c.index.result.now in
    let v = ap (λ (t : TableValue). t.states) c.self.view_is in
    let n = length-map rows (λ (row : Vec (ℕ × TableAction g.row.S.Denot) Global). cells_of number row.items) in
    let m = c.self.invariant.0.actions in
    let r = c.requires in
    let below : s < number i.states = omega (arith, v, r) in
    let ls : s < length rows = omega (arith, n, m, below) in
    let at : x ≡ get_or rows s x = c.index.ensures ∙ ap (λ k. get_or rows k x) c.to_usize-2.ensures.value in
    subst (λ (k : ℕ). IsCellRow k (cells_of number c.as_slice.result.now)) (ap (λ (t : TableValue). t.tokens) c.self.view_is)
    (subst (λ (l : List (ℕ × TableAction g.row.S.Denot)). IsCellRow (number i.tokens) (cells_of number l)) (sym c.as_slice.ensures.value)
    (subst (IsCellRow (number i.tokens)) (cells_at number rows s x ls at) (c.self.invariant.0.rows s below)))

pub returns-clause-whole : goal.returns-clause-whole
returns-clause-whole g c =
    let number = g.S.IndexStorage.number in
    let i = c.self.inside in
    let rows = i.actions.items in
    let s = number c.args.stidx.0 in
    let x = c.index.result.now in
    let v = ap (λ (t : TableValue). t.states) c.self.view_is in
    let n = length-map rows (λ (row : Vec (ℕ × TableAction g.row.S.Denot) Global). cells_of number row.items) in
    let m = c.self.invariant.0.actions in
    let r = c.requires in
    let ls : s < length rows = omega (arith, n, m, v, r) in
    let within : s < length (action_rows_of number rows) = omega (arith, m, v, r) in
    let at : x ≡ get_or rows s x = c.index.ensures ∙ ap (λ k. get_or rows k x) c.to_usize-2.ensures.value in
    let whole = get_or-map (full_cells (number i.tokens)) (action_rows_of number rows) s [] [] within ∙ ap (λ (l : List (ℕ × Action)). full_cells (number i.tokens) l) (cells_at number rows s x ls at ∙ ap (λ (l : List (ℕ × TableAction g.row.S.Denot)). cells_of number l) (sym c.as_slice.ensures.value)) in
    subst (λ (t : TableValue). get_or t.actions s [] ≡ full_cells t.tokens (cells_of number c.as_slice.result.now)) c.self.view_is whole

pub returns-clause-tokens : goal.returns-clause-tokens
returns-clause-tokens g c =
    let w = ap (λ (t : TableValue). t.tokens) c.self.view_is in
    let a = c.to_usize.ensures.value in
    let b = c.to_usize.ensures.bound in
    omega (arith, w, a, b)
