-- The cells of a row, one after another.
use Rattle.std.proofs.Common.{◌≡◌, ℕ, ◌+◌, ◌<◌, Bool, true, false, cond, List, ◌∷◌, length, get_or, drop, map, filter, sym, ap, ◌∙◌}
use Rattle.std.proofs.lemmas.List.{at_drop_more}
use Rattle.lr_theory.specs.Automaton.{Action}
use Rattle.state_table.specs.declared.cells.Action.{Action as TableAction}
use Rattle.state_table.specs.CellViews.{action_of, cells_of}
use Rattle.state_table.specs.TableValues.{keeps, kept_tokens}

module _ {S : Type 0} (number : S → ℕ) (shifts : Bool) (row : List (ℕ × TableAction S)) (i : ℕ) (x : ℕ × TableAction S) (lt : i < length row) (at : x ≡ get_or row i x) where
  abbrev left : List (ℕ × TableAction S) → List ℕ
  left ys = kept_tokens shifts (cells_of number ys)

  abbrev rest : List (ℕ × Action)
  rest = filter (λ (e : ℕ × Action). keeps shifts e.1) (cells_of number (drop (i + 1) row))

  at_hand : left (drop i row) ≡ map (λ (e : ℕ × Action). e.0) (cond (keeps shifts (action_of number x.1)) ((x.0, action_of number x.1) ∷ rest) rest)
  at_hand = at_drop_more left row i x lt ∙ ap (λ y. left (y ∷ drop (i + 1) row)) (sym at)

  pub skipped : keeps shifts (action_of number x.1) ≡ false → left (drop i row) ≡ left (drop (i + 1) row)
  skipped e = at_hand ∙ ap (λ b. map (λ (e : ℕ × Action). e.0) (cond b ((x.0, action_of number x.1) ∷ rest) rest)) e

  pub taken : keeps shifts (action_of number x.1) ≡ true → left (drop i row) ≡ x.0 ∷ left (drop (i + 1) row)
  taken e = at_hand ∙ ap (λ b. map (λ (e : ℕ × Action). e.0) (cond b ((x.0, action_of number x.1) ∷ rest) rest)) e
