-- The full rows of a table against the rows that it keeps.
use Rattle.std.proofs.Common.{◌≡◌, ℕ, ◌<◌, Bool, true, false, cond, nat_eq, List, [], ◌∷◌, length, get_or, map, Option, Some, None, refl, sym, ap, ◌∙◌, arith}
use Rattle.std.specs.Prelude.{option_map}
use Rattle.std.specs.declared.alloc.Global.{Global}
use Rattle.std.specs.declared.vec.Vec.{Vec}
use Rattle.std.proofs.lemmas.List.{get_or-map, length-map}
use Rattle.std.proofs.lemmas.List.FromFn.{get_or-map-range_with_len}
use Rattle.lr_theory.specs.Automaton.{Action}
use Rattle.state_table.specs.declared.stidx.StIdx.{StIdx}
use Rattle.state_table.specs.declared.cells.Action.{Action as TableAction}
use Rattle.state_table.specs.Rows.{Rises, at_of}
use Rattle.state_table.specs.CellViews.{action_of, state_of, cells_of, targets_of}
use Rattle.state_table.specs.SparseRows.{or_error, SparseTable, full, full_cells, full_targets}
use Rattle.state_table.specs.TableValues.{action_at, goto_at}
use Rattle.state_table.specs.TableViews.{action_rows_of, target_rows_of}

-- a row and that of other values
module _ {V W : Type 0} (h : V → W) where
  pub rises_under : (row : List (ℕ × V)) → Rises (map (λ (e : ℕ × V). (e.0, h e.1)) row) → Rises row
  rises_under row up = λ i j d ij w.
      let f : ℕ × V → ℕ × W = λ e. (e.0, h e.1) in
      let n = length-map row f in
      let w' : j < length (map f row) = omega (arith, n, w) in
      let v : i < length row = omega (arith, ij, w) in
      let u = up i j (f d) ij w' in
      let a = ap (λ (y : ℕ × W). y.0) (get_or-map f row i d (f d) v) in
      let b = ap (λ (y : ℕ × W). y.0) (get_or-map f row j d (f d) w) in
      omega (arith, u, a, b)

  by_cond : (b : Bool) (v : V) (o : Option V) (p : Option W) → p ≡ option_map h o → cond b (Some (h v)) p ≡ option_map h (cond b (Some v) o)
  by_cond true v o p e = refl
  by_cond false v o p e = e

  pub at_over : (row : List (ℕ × V)) (n : ℕ) → at_of (map (λ (e : ℕ × V). (e.0, h e.1)) row) n ≡ option_map h (at_of row n)
  at_over [] n = refl
  at_over (x ∷ row) n = by_cond (nat_eq x.0 n) x.1 (at_of row n) (at_of (map (λ (e : ℕ × V). (e.0, h e.1)) row) n) (at_over row n)

-- what stands in a table
pub cell_read : (T : SparseTable) (s t : ℕ) → s < length T.actions → t < T.tokens → action_at (full T) s t ≡ or_error (at_of (get_or T.actions s []) t)
cell_read T s t ls lt =
    let row = get_or T.actions s [] in
    ap (λ (r : List Action). get_or r t Action.error) (get_or-map (full_cells T.tokens) T.actions s [] [] ls)
    ∙ get_or-map-range_with_len (λ (u : ℕ). or_error (at_of row u)) 0 T.tokens t t Action.error lt (omega arith)

pub goto_read : (T : SparseTable) (s A : ℕ) → s < length T.gotos → A < T.rules → goto_at (full T) s A ≡ at_of (get_or T.gotos s []) A
goto_read T s A ls lt =
    let row = get_or T.gotos s [] in
    ap (λ (r : List (Option ℕ)). get_or r A None) (get_or-map (full_targets T.rules) T.gotos s [] [] ls)
    ∙ get_or-map-range_with_len (λ (B : ℕ). at_of row B) 0 T.rules A A None lt (omega arith)

module _ {S : Type 0} (number : S → ℕ) where
  pub cells_at : (rows : List (Vec (ℕ × TableAction S) Global)) (s : ℕ) (x : Vec (ℕ × TableAction S) Global) → s < length rows → x ≡ get_or rows s x → get_or (action_rows_of number rows) s [] ≡ cells_of number x.items
  cells_at rows s x lt at = get_or-map (λ (row : Vec (ℕ × TableAction S) Global). cells_of number row.items) rows s x [] lt ∙ ap (λ (row : Vec (ℕ × TableAction S) Global). cells_of number row.items) (sym at)

  pub targets_at : (rows : List (Vec (ℕ × StIdx S) Global)) (s : ℕ) (x : Vec (ℕ × StIdx S) Global) → s < length rows → x ≡ get_or rows s x → get_or (target_rows_of number rows) s [] ≡ targets_of number x.items
  targets_at rows s x lt at = get_or-map (λ (row : Vec (ℕ × StIdx S) Global). targets_of number row.items) rows s x [] lt ∙ ap (λ (row : Vec (ℕ × StIdx S) Global). targets_of number row.items) (sym at)

  -- the cell that a look-up finds
  pub cell_found : (T : SparseTable) (rows : List (Vec (ℕ × TableAction S) Global)) (s t : ℕ) (x : Vec (ℕ × TableAction S) Global) (o : Option (TableAction S)) →
      T.actions ≡ action_rows_of number rows → s < length rows → t < T.tokens → x ≡ get_or rows s x → o ≡ at_of x.items t → or_error (option_map (action_of number) o) ≡ action_at (full T) s t
  cell_found T rows s t x o e ls lt at eo =
      let n = length-map rows (λ (row : Vec (ℕ × TableAction S) Global). cells_of number row.items) in
      let m = ap (λ (l : List (List (ℕ × Action))). length l) e in
      let within : s < length T.actions = omega (arith, n, m, ls) in
      ap (λ (p : Option (TableAction S)). or_error (option_map (action_of number) p)) eo
      ∙ (ap or_error (sym (at_over (action_of number) x.items t))
      ∙ (ap (λ (l : List (ℕ × Action)). or_error (at_of l t)) (sym (ap (λ (l : List (List (ℕ × Action))). get_or l s []) e ∙ cells_at rows s x ls at)) ∙ sym (cell_read T s t within lt)))

  pub goto_found : (T : SparseTable) (rows : List (Vec (ℕ × StIdx S) Global)) (s A : ℕ) (x : Vec (ℕ × StIdx S) Global) (o : Option (StIdx S)) →
      T.gotos ≡ target_rows_of number rows → s < length rows → A < T.rules → x ≡ get_or rows s x → o ≡ at_of x.items A → state_of number o ≡ goto_at (full T) s A
  goto_found T rows s A x o e ls lt at eo =
      let n = length-map rows (λ (row : Vec (ℕ × StIdx S) Global). targets_of number row.items) in
      let m = ap (λ (l : List (List (ℕ × ℕ))). length l) e in
      let within : s < length T.gotos = omega (arith, n, m, ls) in
      let h : StIdx S → ℕ = λ q. number q.0 in
      ap (λ (p : Option (StIdx S)). option_map h p) eo
      ∙ (sym (at_over h x.items A)
      ∙ (ap (λ (l : List (ℕ × ℕ)). at_of l A) (sym (ap (λ (l : List (List (ℕ × ℕ))). get_or l s []) e ∙ targets_at rows s x ls at)) ∙ sym (goto_read T s A within lt)))
