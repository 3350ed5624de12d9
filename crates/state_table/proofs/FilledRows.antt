-- The filled cells of a row.
use Rattle.std.proofs.Common.{◌≡◌, ℕ, zero, suc, ◌<◌, List, [], ◌∷◌, ◌++◌, None, sym, ap, ◌∙◌, subst, arith, append-nil}
use Rattle.std.proofs.Math.Decide.{ℕ_discrete}
use Rattle.lr_theory.specs.Automaton.{Action}
use Rattle.state_table.specs.Rows.{Below, at_of}
use Rattle.state_table.specs.CellRows.{filled, filled_row}
use Rattle.state_table.specs.SparseRows.{or_error, IsCellRow}
use Rattle.state_table.proofs.RowEnds.{each_put, rises_put, at_none, at_new_other, at_new_here}

more_below : {V : Type 0} (row : List (ℕ × V)) (n : ℕ) → Below n row → Below (suc n) row
more_below row n h i d w = let a = h i d w in omega (arith, a)

-- one filled cell more
put_filled : (row : List (ℕ × Action)) (n : ℕ) (a : Action) → (a ≡ Action.error → ⊥) → IsCellRow n row → IsCellRow (suc n) (row ++ (n, a) ∷ [])
put_filled row n a ne is = record {
  rises = rises_put row (n, a) n is.rises is.below (omega arith);
  below = each_put row (n, a) (λ (y : ℕ × Action). y.0 < suc n) (more_below row n is.below) (omega arith);
  filled = λ i d w. each_put row (n, a) (λ (y : ℕ × Action). y.1 ≡ Action.error → ⊥) is.filled ne i d w;
}

put_cell : (row : List (ℕ × Action)) (n : ℕ) (a : Action) → IsCellRow n row → IsCellRow (suc n) (row ++ filled n a)
put_cell row n (Action.shift k) is = put_filled row n (Action.shift k) (λ e. cc) is
put_cell row n (Action.reduce p) is = put_filled row n (Action.reduce p) (λ e. cc) is
put_cell row n Action.accept is = put_filled row n Action.accept (λ e. cc) is
put_cell row n Action.error is = subst (IsCellRow (suc n)) (sym (append-nil row)) (record { rises = is.rises; below = more_below row n is.below; filled = is.filled })

pub is_cell_row : (cells : ℕ → Action) (n : ℕ) → IsCellRow n (filled_row cells n)
is_cell_row cells zero = record { rises = λ i j d ij w. absurd (omega (arith, w)); below = λ i d w. absurd (omega (arith, w)); filled = λ i d w. absurd (omega (arith, w)) }
is_cell_row cells (suc n) = put_cell (filled_row cells n) n (cells n) (is_cell_row cells n)

-- the cell that was put last, and the others
at_other : (row : List (ℕ × Action)) (n t : ℕ) (a : Action) → (n ≡ t → ⊥) → at_of (row ++ filled n a) t ≡ at_of row t
at_other row n t (Action.shift k) ne = at_new_other row (n, Action.shift k) t ne
at_other row n t (Action.reduce p) ne = at_new_other row (n, Action.reduce p) t ne
at_other row n t Action.accept ne = at_new_other row (n, Action.accept) t ne
at_other row n t Action.error ne = ap (λ l. at_of l t) (append-nil row)

at_last : (row : List (ℕ × Action)) (n : ℕ) (a : Action) → at_of row n ≡ None → or_error (at_of (row ++ filled n a) n) ≡ a
at_last row n (Action.shift k) h = ap or_error (at_new_here row (n, Action.shift k) h)
at_last row n (Action.reduce p) h = ap or_error (at_new_here row (n, Action.reduce p) h)
at_last row n Action.accept h = ap or_error (at_new_here row (n, Action.accept) h)
at_last row n Action.error h = ap (λ l. or_error (at_of l n)) (append-nil row) ∙ ap or_error h

-- a cell of the row
filled_by : (cells : ℕ → Action) (n t : ℕ) → t < suc n → (t < n → or_error (at_of (filled_row cells n) t) ≡ cells t) → Dec (n ≡ t) → or_error (at_of (filled_row cells n ++ filled n (cells n)) t) ≡ cells t
filled_by cells n t lt before (yes e) = subst (λ (k : ℕ). or_error (at_of (filled_row cells n ++ filled n (cells n)) k) ≡ cells k) e (at_last (filled_row cells n) n (cells n) (at_none (filled_row cells n) n n (is_cell_row cells n).below (omega arith)))
filled_by cells n t lt before (no ne) = ap or_error (at_other (filled_row cells n) n t (cells n) ne) ∙ before (omega (arith, lt, ne))

pub at_filled : (cells : ℕ → Action) (n t : ℕ) → t < n → or_error (at_of (filled_row cells n) t) ≡ cells t
at_filled cells zero t lt = absurd (omega (arith, lt))
at_filled cells (suc n) t lt = filled_by cells n t lt (λ l. at_filled cells n t l) (ℕ_discrete n t)
