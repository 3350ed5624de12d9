-- Of two first places that don't fit each one would stand before the other.
use Rattle.std.proofs.Common.{◌≡◌, ◌<◌, ℕ, refl, sym, ap, subst, ◌⊎◌, inl, inr}
use Rattle.std.proofs.lemmas.Bool.{cases_order}
use Rattle.cfg_theory.specs.Grammar.{Grammar}
use Rattle.lr_theory.specs.Automaton.{Automaton}
use Rattle.state_table.specs.Tables.{CountsAgree, automaton_of}
use Rattle.lrpar.specs.Safety.{PairCell, counts, items, on_token, on_rule, CellBefore, IsLeastMisfit}
use Rattle.lrpar.specs.OneMisfit.{LeastMisfitsAreOne}

order : (c k : PairCell) → (c ≡ k) ⊎ (CellBefore c k ⊎ CellBefore k c)
order counts counts = inl refl
order counts items = inr (inl tt)
order counts (on_token u) = inr (inl tt)
order counts (on_rule B) = inr (inl tt)
order items counts = inr (inr tt)
order items items = inl refl
order items (on_token u) = inr (inl tt)
order items (on_rule B) = inr (inl tt)
order (on_token t) counts = inr (inr tt)
order (on_token t) items = inr (inr tt)
order (on_token t) (on_token u) = by (cases_order t u)
  where
    by : (t ≡ u) ⊎ ((t < u) ⊎ (u < t)) → (on_token t ≡ on_token u) ⊎ ((t < u) ⊎ (u < t))
    by (inl e) = inl (ap on_token e)
    by (inr lt) = inr lt
order (on_token t) (on_rule B) = inr (inl tt)
order (on_rule A) counts = inr (inr tt)
order (on_rule A) items = inr (inr tt)
order (on_rule A) (on_token u) = inr (inr tt)
order (on_rule A) (on_rule B) = by (cases_order A B)
  where
    by : (A ≡ B) ⊎ ((A < B) ⊎ (B < A)) → (on_rule A ≡ on_rule B) ⊎ ((A < B) ⊎ (B < A))
    by (inl e) = inl (ap on_rule e)
    by (inr lt) = inr lt

module _ (agree : Type 0) (G : Grammar) (a : Automaton) where
  one_cell : (s : ℕ) (c k : PairCell) → IsLeastMisfit agree G a s c → IsLeastMisfit agree G a s k → c ≡ k
  one_cell s c k one other = by (order c k)
    where
      by : (c ≡ k) ⊎ (CellBefore c k ⊎ CellBefore k c) → c ≡ k
      by (inl e) = e
      by (inr (inl before)) = absurd (one.misfit (other.cells_before c before))
      by (inr (inr before)) = absurd (other.misfit (one.cells_before k before))

  one_place : (s r : ℕ) (c k : PairCell) → IsLeastMisfit agree G a s c → IsLeastMisfit agree G a r k → (s ≡ r) × (c ≡ k)
  one_place s r c k one other = by (cases_order s r)
    where
      by : (s ≡ r) ⊎ ((s < r) ⊎ (r < s)) → (s ≡ r) × (c ≡ k)
      by (inl e) = (e, one_cell s c k one (subst (λ n. IsLeastMisfit agree G a n k) (sym e) other))
      by (inr (inl lt)) = absurd (one.misfit (other.states_before s c lt))
      by (inr (inr lt)) = absurd (other.misfit (one.states_before r k lt))

pub least_misfits_are_one : LeastMisfitsAreOne
least_misfits_are_one = record { one = λ G g t s r c k. one_place (CountsAgree G g t) G (automaton_of g t) s r c k }
