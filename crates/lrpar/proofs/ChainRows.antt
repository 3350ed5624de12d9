-- Chains by the cells that a table keeps.
use Rattle.std.proofs.Common.{◌≡◌, ℕ, suc, ◌+◌, ◌<◌, ◌≤◌, List, [], ◌∷◌, length, Option, Some, None, refl, sym, ap, ◌∙◌, subst, arith}
use Rattle.std.proofs.lemmas.List.{drop_all}
use Rattle.std.proofs.lemmas.Option.{slice_get_within}
use Rattle.cfg_base.specs.declared.symbol.PIdx.{PIdx}
use Rattle.cfg_theory.specs.Grammar.{Grammar, body_of}
use Rattle.lr_theory.specs.Automaton.{Action, shift, reduce, accept, error}
use Rattle.lr_theory.specs.Chains.{goto_from, reduce_by, reduction, Reductions}
use Rattle.state_table.specs.Graphs.{GraphValue}
use Rattle.state_table.specs.TableValues.{TableValue, action_at}
use Rattle.state_table.specs.Tables.{automaton_of}
use Rattle.lrpar.specs.Reducing.{IsLong, BeginsNone, chain_top, chain_depth, chain_stack, ShortAt, ShortIn}
use Rattle.lrpar.specs.Branching.{AreReducers}
use Rattle.lrpar.specs.declared.unit_chains.Short.{Short}
use Rattle.lrpar.specs.declared.unit_chains.Short.TheVariants as shorts

-- an action that begins no chain
module _ (G : Grammar) (x : GraphValue) (v : TableValue) (limit : ℕ) where
  no_reduction : (t top : ℕ) (ss rest : List ℕ) (k : Action) → ss ≡ top ∷ rest → action_at v top t ≡ k → BeginsNone G (length ss) k → reduction G (automaton_of x v) t ss ≡ None
  no_reduction t top ss rest (shift q) e at h = ap (reduction G (automaton_of x v) t) e ∙ ap (λ c. reduce_by G (automaton_of x v) c (top ∷ rest)) at
  no_reduction t top ss rest (reduce p) e at h =
      ap (reduction G (automaton_of x v) t) e ∙ (ap (λ c. reduce_by G (automaton_of x v) c (top ∷ rest)) at
      ∙ ap (goto_from G (automaton_of x v) p) (drop_all (length (body_of G p)) (top ∷ rest) (let l = ap (λ (y : List ℕ). length y) e in omega (arith, l, h))))
  no_reduction t top ss rest accept e at h = ap (reduction G (automaton_of x v) t) e ∙ ap (λ c. reduce_by G (automaton_of x v) c (top ∷ rest)) at
  no_reduction t top ss rest error e at h = ap (reduction G (automaton_of x v) t) e ∙ ap (λ c. reduce_by G (automaton_of x v) c (top ∷ rest)) at

  not_long : (p t : ℕ) (above : Option ℕ) → reduction G (automaton_of x v) t (chain_stack p above) ≡ None → IsLong G (automaton_of x v) limit p above t → ⊥
  not_long p t above none h =
      let n : limit + 1 ≡ suc limit = omega arith in
      let k = subst (λ m. Reductions G (automaton_of x v) t m (chain_stack p above)) n h in
      cc (sym none ∙ k.1)

  pub begins_none : (p t : ℕ) (above : Option ℕ) (k : Action) → action_at v (chain_top p above) t ≡ k → BeginsNone G (chain_depth above) k → IsLong G (automaton_of x v) limit p above t → ⊥
  begins_none p t None k at h = not_long p t None (no_reduction t p (p ∷ []) [] k refl at h)
  begins_none p t (Some q) k at h = not_long p t (Some q) (no_reduction t q (q ∷ p ∷ []) (p ∷ []) k refl at h)

  pub error_begins_none : (p t : ℕ) (above : Option ℕ) → action_at v (chain_top p above) t ≡ error → IsLong G (automaton_of x v) limit p above t → ⊥
  error_begins_none p t above e = begins_none p t above error e tt

-- what is told of the productions by which a state reduces is told of the state
module _ {S : Type 0} (number : S → ℕ) (G : Grammar) (ps : List (PIdx S)) (v : TableValue) (q : ℕ) (are : AreReducers number G v q ps) where
  pub short_told : (n : ℕ) (x : Short S) → length ps ≤ n → ShortIn number G ps n x → ShortAt number G v q x
  short_told n shorts.Nothing le h = λ t p at.
      let f = are.all t p at in
      let w = slice_get_within ps f.0 f.1 f.2 in
      subst (λ r. 1 < length (body_of G r)) f.3 (h f.0 f.1 (omega (arith, w, le)) f.2)
  short_told n (shorts.Unit j) le h = (
    h.0,
    h.1,
    λ t p at short.
        let f = are.all t p at in
        let w = slice_get_within ps f.0 f.1 f.2 in
        sym f.3 ∙ h.2 f.0 f.1 (omega (arith, w, le)) f.2 (subst (λ r. length (body_of G r) ≤ 1) (sym f.3) short),
  )
  short_told n shorts.Other le h = h
