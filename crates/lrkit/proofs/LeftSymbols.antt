-- What a step of a walk says of the list of all that is left at first.
use Rattle.std.proofs.Common.{◌≡◌, ℕ, ◌+◌, ◌<◌, ◌≤◌, Option, None, Some, List, length, drop, get_or, sym, subst}
use Rattle.std.specs.Prelude.{slice_get}
use Rattle.parse_trees.specs.Outlines.{SymbolVisit, StepsTo, visit_of}
use Rattle.parse_trees.specs.declared.outline.OutlineVisit.{OutlineVisit}
use Rattle.lrkit.specs.Output.{id}
use Rattle.lrkit.proofs.OutBut.{next_at, none_at}

module _ (rest : List SymbolVisit) (i : ℕ) (o : Option (OutlineVisit ℕ)) (Leaves : List SymbolVisit → Type 0) (steps : StepsTo id o (drop i rest) Leaves) where
  -- it returns the one at i
  pub next_symbol : (v : OutlineVisit ℕ) → o ≡ Some v → (i < length rest) × (slice_get rest i ≡ Some (visit_of id v)) × (get_or rest i (visit_of id v) ≡ visit_of id v) × Leaves (drop (i + 1) rest)
  next_symbol v is =
      let h : StepsTo id (Some v) (drop i rest) Leaves = subst (λ p. StepsTo id p (drop i rest) Leaves) is steps in
      let n = next_at rest i (visit_of id v) h.0 h.1 in
      (n.0, n.1, n.2, subst Leaves (sym n.3) h.2)

  -- or there is none
  pub no_symbol : o ≡ None → length rest ≤ i
  no_symbol is =
      let h : StepsTo id None (drop i rest) Leaves = subst (λ p. StepsTo id p (drop i rest) Leaves) is steps in
      none_at rest i h
