use Rattle.std.proofs.Common.{◌≡◌, ℕ, ◌<◌, List, length, get_or, sym, ap, ◌∙◌, subst, arith, refl}
use Rattle.std.proofs.lemmas.List.{length-map}
use Rattle.std.specs.declared.alloc.Global.{Global}
use Rattle.std.specs.declared.vec.Vec.{Vec}
use Rattle.state_table.specs.declared.stidx.StIdx.{StIdx}
use Rattle.state_table.specs.Rows.{Rises, at_of}
use Rattle.state_table.specs.CellViews.{targets_of}
use Rattle.state_table.specs.TableValues.{TableValue, goto_at}
use Rattle.state_table.specs.TableViews.{sparse_of}
use Rattle.state_table.proofs.FullRows.{rises_under, targets_at, goto_found}
use Rattle.state_table.proofs.statetable.StateTable.search_goto.Goals as goal

pub look_up-requires : goal.look_up-requires
look_up-requires g c =
    let number = g.S.IndexStorage.number in
    let i = c.self.inside in
    let rows = i.gotos.items in
    let s = number c.args.stidx.0 in
    let x = c.index.result.now in
    let v = ap (λ (t : TableValue). t.states) c.self.view_is in
    let n = length-map rows (λ (row : Vec (ℕ × StIdx g.row.S.Denot) Global). targets_of number row.items) in
    let m = c.self.invariant.0.gotos in
    let r = c.requires.state in
    let below : s < number i.states = omega (arith, v, r) in
    let ls : s < length rows = omega (arith, n, m, below) in
    let at : x ≡ get_or rows s x = c.index.ensures ∙ ap (λ k. get_or rows k x) c.to_usize.ensures.value in
    let up = subst (λ (l : List (ℕ × ℕ)). Rises l) (targets_at number rows s x ls at) (c.self.invariant.0.targets s below).rises in
    subst (λ (l : List (ℕ × StIdx g.row.S.Denot)). Rises l) (sym c.as_slice-row.ensures.value) (rises_under (λ (q : StIdx g.row.S.Denot). number q.0) x.items up)

pub returns : goal.returns
returns g c =
    let number = g.S.IndexStorage.number in
    let i = c.self.inside in
    let rows = i.gotos.items in
    let s = number c.args.stidx.0 in
    let A = number c.args.ridx.0 in
    let x = c.index.result.now in
    let T = sparse_of number i.states i.tokens i.rules i.prods i.start i.actions.items rows i.conflicts in
    let v = ap (λ (t : TableValue). t.states) c.self.view_is in
    let w = ap (λ (t : TableValue). t.rules) c.self.view_is in
    let n = length-map rows (λ (row : Vec (ℕ × StIdx g.row.S.Denot) Global). targets_of number row.items) in
    let m = c.self.invariant.0.gotos in
    let r = c.requires.state in
    let q = c.requires.rule in
    let ls : s < length rows = omega (arith, n, m, v, r) in
    let lt : A < number i.rules = omega (arith, w, q) in
    let at : x ≡ get_or rows s x = c.index.ensures ∙ ap (λ k. get_or rows k x) c.to_usize.ensures.value in
    let found = c.look_up.ensures ∙ (ap (λ k. at_of c.as_slice-row.result.now k) c.to_usize-2.ensures.value ∙ ap (λ (l : List (ℕ × StIdx g.row.S.Denot)). at_of l A) c.as_slice-row.ensures.value) in
    goto_found number T rows s A x c.look_up.result refl ls lt at found ∙ ap (λ (v : TableValue). goto_at v s A) c.self.view_is
