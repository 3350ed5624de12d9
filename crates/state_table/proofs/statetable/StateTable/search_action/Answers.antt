use Rattle.std.proofs.Common.{◌≡◌, ℕ, ◌<◌, List, length, get_or, sym, ap, ◌∙◌, subst, arith, refl, Some, None}
use Rattle.std.proofs.lemmas.List.{length-map}
use Rattle.std.specs.declared.alloc.Global.{Global}
use Rattle.std.specs.declared.vec.Vec.{Vec}
use Rattle.state_table.specs.declared.cells.Action.{Action as TableAction}
use Rattle.lr_theory.specs.Automaton.{Action}
use Rattle.state_table.specs.Rows.{Rises, at_of}
use Rattle.state_table.specs.CellViews.{action_of, cells_of}
use Rattle.state_table.specs.TableValues.{TableValue, action_at}
use Rattle.state_table.specs.TableViews.{sparse_of}
use Rattle.state_table.proofs.FullRows.{rises_under, cells_at, cell_found}
use Rattle.state_table.proofs.statetable.StateTable.search_action.Goals as goal

pub look_up-requires : goal.look_up-requires
look_up-requires g c =
    let number = g.S.IndexStorage.number in
    let i = c.self.inside in
    let rows = i.actions.items in
    let s = number c.args.stidx.0 in
    let x = c.index.result.now in
    let v = ap (λ (t : TableValue). t.states) c.self.view_is in
    let n = length-map rows (λ (row : Vec (ℕ × TableAction g.row.S.Denot) Global). cells_of number row.items) in
    let m = c.self.invariant.0.actions in
    let r = c.requires.state in
    let below : s < number i.states = omega (arith, v, r) in
    let ls : s < length rows = omega (arith, n, m, below) in
    let at : x ≡ get_or rows s x = c.index.ensures ∙ ap (λ k. get_or rows k x) c.to_usize.ensures.value in
    let up = subst (λ (l : List (ℕ × Action)). Rises l) (cells_at number rows s x ls at) (c.self.invariant.0.rows s below).rises in
    subst (λ (l : List (ℕ × TableAction g.row.S.Denot)). Rises l) (sym c.as_slice-row.ensures.value) (rises_under (action_of number) x.items up)

pub returns-in-Some : goal.returns-in-Some
returns-in-Some g c =
    let number = g.S.IndexStorage.number in
    let i = c.self.inside in
    let rows = i.actions.items in
    let s = number c.args.stidx.0 in
    let t = number c.args.tidx.0 in
    let x = c.index.result.now in
    let T = sparse_of number i.states i.tokens i.rules i.prods i.start rows i.gotos.items i.conflicts in
    let v = ap (λ (t : TableValue). t.states) c.self.view_is in
    let w = ap (λ (t : TableValue). t.tokens) c.self.view_is in
    let n = length-map rows (λ (row : Vec (ℕ × TableAction g.row.S.Denot) Global). cells_of number row.items) in
    let m = c.self.invariant.0.actions in
    let r = c.requires.state in
    let q = c.requires.token in
    let ls : s < length rows = omega (arith, n, m, v, r) in
    let lt : t < number i.tokens = omega (arith, w, q) in
    let at : x ≡ get_or rows s x = c.index.ensures ∙ ap (λ k. get_or rows k x) c.to_usize.ensures.value in
    let found = c.in-Some.ensures ∙ (ap (λ k. at_of c.as_slice-row.result.now k) c.to_usize-2.ensures.value ∙ ap (λ (l : List (ℕ × TableAction g.row.S.Denot)). at_of l t) c.as_slice-row.ensures.value) in
    cell_found number T rows s t x (Some c.in-Some.action) refl ls lt at found ∙ ap (λ (v : TableValue). action_at v s t) c.self.view_is

pub returns-in-None : goal.returns-in-None
returns-in-None g c =
    let number = g.S.IndexStorage.number in
    let i = c.self.inside in
    let rows = i.actions.items in
    let s = number c.args.stidx.0 in
    let t = number c.args.tidx.0 in
    let x = c.index.result.now in
    let T = sparse_of number i.states i.tokens i.rules i.prods i.start rows i.gotos.items i.conflicts in
    let v = ap (λ (t : TableValue). t.states) c.self.view_is in
    let w = ap (λ (t : TableValue). t.tokens) c.self.view_is in
    let n = length-map rows (λ (row : Vec (ℕ × TableAction g.row.S.Denot) Global). cells_of number row.items) in
    let m = c.self.invariant.0.actions in
    let r = c.requires.state in
    let q = c.requires.token in
    let ls : s < length rows = omega (arith, n, m, v, r) in
    let lt : t < number i.tokens = omega (arith, w, q) in
    let at : x ≡ get_or rows s x = c.index.ensures ∙ ap (λ k. get_or rows k x) c.to_usize.ensures.value in
    let found = c.in-None.ensures ∙ (ap (λ k. at_of c.as_slice-row.result.now k) c.to_usize-2.ensures.value ∙ ap (λ (l : List (ℕ × TableAction g.row.S.Denot)). at_of l t) c.as_slice-row.ensures.value) in
    cell_found number T rows s t x None refl ls lt at found ∙ ap (λ (v : TableValue). action_at v s t) c.self.view_is
