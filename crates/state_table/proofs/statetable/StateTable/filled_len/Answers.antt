use Rattle.std.proofs.Common.{◌≡◌, ℕ, ◌+◌, ◌<◌, ◌^◌, List, length, get_or, sym, ap, ◌∙◌, subst, arith}
use Rattle.std.specs.Prelude.{count_by}
use Rattle.std.specs.List.{sum_by}
use Rattle.std.proofs.lemmas.List.{length-map}
use Rattle.std.specs.declared.alloc.Global.{Global}
use Rattle.std.specs.declared.vec.Vec.{Vec}
use Rattle.lr_theory.specs.Automaton.{Action}
use Rattle.state_table.specs.declared.stidx.StIdx.{StIdx}
use Rattle.state_table.specs.declared.cells.Action.{Action as TableAction}
use Rattle.state_table.specs.CellViews.{action_of, cells_of, targets_of}
use Rattle.state_table.specs.SparseRows.{full}
use Rattle.state_table.specs.TableValues.{is_filled, filled_count}
use Rattle.state_table.specs.TableViews.{sparse_of, action_rows_of, target_rows_of}
use Rattle.state_table.proofs.FilledCounts.{sum_same, cells_counted, targets_counted, sums_fit}
use Rattle.state_table.proofs.statetable.StateTable.filled_len.Goals as goal

cells_sum : {S : Type 0} (number : S → ℕ) (rows : List (Vec (ℕ × TableAction S) Global)) → sum_by (λ (l : List (ℕ × Action)). length l) (action_rows_of number rows) ≡ sum_by (λ (row : Vec (ℕ × TableAction S) Global). length row.items) rows
cells_sum {S} number rows =
    let f : ℕ × TableAction S → ℕ × Action = λ e. (e.0, action_of number e.1) in
    sum_same (λ (row : Vec (ℕ × TableAction S) Global). length row.items) (λ (l : List (ℕ × Action)). length l) (λ (row : Vec (ℕ × TableAction S) Global). cells_of number row.items) rows (λ i d w. length-map (get_or rows i d).items f)

targets_sum : {S : Type 0} (number : S → ℕ) (rows : List (Vec (ℕ × StIdx S) Global)) → sum_by (λ (l : List (ℕ × ℕ)). length l) (target_rows_of number rows) ≡ sum_by (λ (row : Vec (ℕ × StIdx S) Global). length row.items) rows
targets_sum {S} number rows =
    let f : ℕ × StIdx S → ℕ × ℕ = λ e. (e.0, number e.1.0) in
    sum_same (λ (row : Vec (ℕ × StIdx S) Global). length row.items) (λ (l : List (ℕ × ℕ)). length l) (λ (row : Vec (ℕ × StIdx S) Global). targets_of number row.items) rows (λ i d w. length-map (get_or rows i d).items f)

pub count_entries-cells-requires : goal.count_entries-cells-requires
count_entries-cells-requires g c =
    let number = g.S.IndexStorage.number in
    let i = c.self.inside in
    let T = sparse_of number i.states i.tokens i.rules i.prods i.start i.actions.items i.gotos.items i.conflicts in
    let fit = sums_fit T c.self.invariant.0 in
    let a = cells_sum number i.actions.items in
    let b = targets_sum number i.gotos.items in
    subst (λ (l : List (Vec (ℕ × TableAction g.row.S.Denot) Global)). sum_by (λ row. length row.items) l < 2 ^ 64) (sym c.as_slice.ensures.value) (omega (arith, fit, a, b))

pub count_entries-gotos-requires : goal.count_entries-gotos-requires
count_entries-gotos-requires g c =
    let number = g.S.IndexStorage.number in
    let i = c.self.inside in
    let T = sparse_of number i.states i.tokens i.rules i.prods i.start i.actions.items i.gotos.items i.conflicts in
    let fit = sums_fit T c.self.invariant.0 in
    let a = cells_sum number i.actions.items in
    let b = targets_sum number i.gotos.items in
    subst (λ (l : List (Vec (ℕ × StIdx g.row.S.Denot) Global)). sum_by (λ row. length row.items) l < 2 ^ 64) (sym c.as_slice-2.ensures.value) (omega (arith, fit, a, b))

pub overflow_add-result : goal.overflow_add-result
overflow_add-result g c =
    let number = g.S.IndexStorage.number in
    let i = c.self.inside in
    let T = sparse_of number i.states i.tokens i.rules i.prods i.start i.actions.items i.gotos.items i.conflicts in
    let fit = sums_fit T c.self.invariant.0 in
    let a = cells_sum number i.actions.items in
    let b = targets_sum number i.gotos.items in
    let x = c.count_entries-cells.ensures ∙ ap (λ (l : List (Vec (ℕ × TableAction g.row.S.Denot) Global)). sum_by (λ row. length row.items) l) c.as_slice.ensures.value in
    let y = c.count_entries-gotos.ensures ∙ ap (λ (l : List (Vec (ℕ × StIdx g.row.S.Denot) Global)). sum_by (λ row. length row.items) l) c.as_slice-2.ensures.value in
    omega (arith, fit, a, b, x, y)

pub returns : goal.returns
returns g c =
    let number = g.S.IndexStorage.number in
    let i = c.self.inside in
    let T = sparse_of number i.states i.tokens i.rules i.prods i.start i.actions.items i.gotos.items i.conflicts in
    let x = c.count_entries-cells.ensures ∙ (ap (λ (l : List (Vec (ℕ × TableAction g.row.S.Denot) Global)). sum_by (λ row. length row.items) l) c.as_slice.ensures.value ∙ (sym (cells_sum number i.actions.items) ∙ sym (cells_counted T c.self.invariant.0))) in
    let y = c.count_entries-gotos.ensures ∙ (ap (λ (l : List (Vec (ℕ × StIdx g.row.S.Denot) Global)). sum_by (λ row. length row.items) l) c.as_slice-2.ensures.value ∙ (sym (targets_sum number i.gotos.items) ∙ sym (targets_counted T c.self.invariant.0))) in
    ap (λ (k : ℕ). k + c.count_entries-gotos.result) x ∙ (ap (λ (k : ℕ). sum_by (λ (row : List Action). count_by is_filled row) (full T).actions + k) y ∙ ap filled_count c.self.view_is)
