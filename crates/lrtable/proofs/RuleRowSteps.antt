-- A row of the sets of rules is emptied.
use Rattle.std.proofs.Common.{◌≡◌, ℕ, ◌<◌, false, List, length, get_or, set, replicate, ap, ◌∙◌}
use Rattle.vob.specs.Packed.{Contents}
use Rattle.vob.specs.Sets.{AreRows, SetRows}
use Rattle.cfg_sets.proofs.TokenRows.{rows_of, row_width, rows_after}

module _ (items : List Contents) (width : ℕ) (v : SetRows) (is : record { width = width; rows = rows_of items } ≡ v) (inv : AreRows (length (rows_of items)) width (rows_of items)) (A : ℕ) (lt : A < length v.rows) (x : Contents) (at : x ≡ get_or items A x) (y : Contents) (made : y.bits ≡ replicate (length x.bits) false) where
  pub cleared_value : ◌≡◌ {A = SetRows} (record { width = width; rows = rows_of (set items A y) }) (record { width = v.width; rows = set v.rows A (replicate v.width false) })
  cleared_value = ap {B = SetRows} (λ k. record { width = k; rows = rows_of (set items A y) }) (ap (λ (w : SetRows). w.width) is) ∙ ap {B = SetRows} (λ l. record { width = v.width; rows = l })
      (rows_after items width v is inv A lt x at y ∙ ap (λ b. set v.rows A b) (made ∙ ap (λ n. replicate n false) (row_width items width v is inv A lt x at)))
