use Rattle.std.proofs.Common.{◌≡◌, ℕ, ◌<◌, List, [], length, get_or, sym, ap, ◌∙◌, subst, arith}
use Rattle.std.proofs.lemmas.List.{length-map, get_or-map}
use Rattle.std.specs.declared.alloc.Global.{Global}
use Rattle.std.specs.declared.vec.Vec.{Vec}
use Rattle.state_table.specs.declared.stidx.StIdx.{StIdx}
use Rattle.state_table.specs.CellViews.{targets_of}
use Rattle.state_table.specs.SparseRows.{IsTargetRow, full_targets}
use Rattle.state_table.specs.TableValues.{TableValue}
use Rattle.state_table.specs.TableViews.{target_rows_of}
use Rattle.state_table.proofs.FullRows.{targets_at}
use Rattle.state_table.proofs.statetable.StateTable.state_gotos.Goals as goal

pub returns-clause-targets : goal.returns-clause-targets
returns-clause-targets g c =
    let number = g.S.IndexStorage.number in
    let i = c.self.inside in
    let rows = i.gotos.items in
    let s = number c.args.stidx.0 in
    let x = c.index.result.now in
    let v = ap (λ (t : TableValue). t.states) c.self.view_is in
    let n = length-map rows (λ (row : Vec (ℕ × StIdx g.row.S.Denot) Global). targets_of number row.items) in
    let m = c.self.invariant.0.gotos in
    let r = c.requires in
    let below : s < number i.states = omega (arith, v, r) in
    let ls : s < length rows = omega (arith, n, m, below) in
    let at : x ≡ get_or rows s x = c.index.ensures ∙ ap (λ k. get_or rows k x) c.to_usize.ensures.value in
    subst (λ (k : ℕ). IsTargetRow k (targets_of number c.as_slice.result.now)) (ap (λ (t : TableValue). t.rules) c.self.view_is)
    (subst (λ (l : List (ℕ × StIdx g.row.S.Denot)). IsTargetRow (number i.rules) (targets_of number l)) (sym c.as_slice.ensures.value)
    (subst (IsTargetRow (number i.rules)) (targets_at number rows s x ls at) (c.self.invariant.0.targets s below)))

pub returns-clause-whole : goal.returns-clause-whole
returns-clause-whole g c =
    let number = g.S.IndexStorage.number in
    let i = c.self.inside in
    let rows = i.gotos.items in
    let s = number c.args.stidx.0 in
    let x = c.index.result.now in
    let v = ap (λ (t : TableValue). t.states) c.self.view_is in
    let n = length-map rows (λ (row : Vec (ℕ × StIdx g.row.S.Denot) Global). targets_of number row.items) in
    let m = c.self.invariant.0.gotos in
    let r = c.requires in
    let ls : s < length rows = omega (arith, n, m, v, r) in
    let within : s < length (target_rows_of number rows) = omega (arith, m, v, r) in
    let at : x ≡ get_or rows s x = c.index.ensures ∙ ap (λ k. get_or rows k x) c.to_usize.ensures.value in
    let whole = get_or-map (full_targets (number i.rules)) (target_rows_of number rows) s [] [] within ∙ ap (λ (l : List (ℕ × ℕ)). full_targets (number i.rules) l) (targets_at number rows s x ls at ∙ ap (λ (l : List (ℕ × StIdx g.row.S.Denot)). targets_of number l) (sym c.as_slice.ensures.value)) in
    subst (λ (t : TableValue). get_or t.gotos s [] ≡ full_targets t.rules (targets_of number c.as_slice.result.now)) c.self.view_is whole
