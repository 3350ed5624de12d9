-- Stacks that reductions on whatever token lead to.
use Rattle.std.proofs.Common.{◌≡◌, ℕ, zero, suc, ◌<◌, ◌⊎◌, inl, inr, List, [], ◌∷◌, ◌++◌, length, drop, reverse, Option, Some, refl, sym, ap, ◌∙◌, subst, arith}
use Rattle.std.specs.Prelude.{slice_get}
use Rattle.std.specs.declared.alloc.Global.{Global}
use Rattle.std.specs.declared.vec.Vec.{Vec}
use Rattle.cfg_base.specs.declared.symbol.PIdx.{PIdx}
use Rattle.cfg_theory.specs.Grammar.{Grammar, body_of}
use Rattle.lr_theory.specs.Automaton.{Action, shift, reduce, accept, error, Automaton}
use Rattle.lr_theory.specs.Chains.{goto_from, reduce_by, reduction, Reductions}
use Rattle.state_table.specs.TableValues.{TableValue}
use Rattle.state_table.specs.declared.stidx.StIdx.{StIdx}
use Rattle.std.proofs.lemmas.List.{length-map}
use Rattle.std.proofs.lemmas.Option.{same_Some}
use Rattle.lrpar.specs.Reducing.{states_of, stack_of, chain_states, chain_stack}
use Rattle.lrpar.proofs.LongChain.{reversed_chain, are_chain, some_chain}
use Rattle.lrpar.proofs.CarriedItems.{before_end, at_end, split_end}
use Rattle.lrpar.specs.Branching.{Lists, Stacked, HoldsStates, AllHoldStates}

pub same_production : (p q : ℕ) → reduce p ≡ reduce q → p ≡ q
same_production p q e = cc

-- productions of a list
module _ {S : Type 0} (number : S → ℕ) where
  pub lists_none : (p : ℕ) → Lists number [] p → ⊥
  lists_none p h = let e = h.2 in cc

  pub lists_more : (ps : List (PIdx S)) (i : PIdx S) (p : ℕ) → Lists number ps p → Lists number (ps ++ i ∷ []) p
  lists_more ps i p h = (h.0, h.1, before_end ps i h.1 h.0 h.2, h.3)

  pub lists_last : (ps : List (PIdx S)) (i : PIdx S) → Lists number (ps ++ i ∷ []) (number i.0)
  lists_last ps i = (length ps, i, at_end ps i, refl)

  pub lists_split : (ps : List (PIdx S)) (i : PIdx S) (p : ℕ) → Lists number (ps ++ i ∷ []) p → Lists number ps p ⊎ (number i.0 ≡ p)
  lists_split ps i p h = elim (split_end ps i h.1 h.0 h.2) [
    | inl old ↦ inl (h.0, h.1, old, h.3)
    | inr new ↦ inr (ap (λ (j : PIdx S). number j.0) new ∙ h.3)
  ]

  -- stacks among others
  pub stacked_more : (xs : List (Vec (StIdx S) Global)) (x : Vec (StIdx S) Global) (ss : List ℕ) → Stacked number xs ss → Stacked number (xs ++ x ∷ []) ss
  stacked_more xs x ss h = (h.0, h.1, before_end xs x h.1 h.0 h.2, h.3)

  pub stacked_last : (xs : List (Vec (StIdx S) Global)) (x : Vec (StIdx S) Global) → Stacked number (xs ++ x ∷ []) (stack_of number x.items)
  stacked_last xs x = (length xs, x, at_end xs x, refl)

  pub stacked_split : (xs : List (Vec (StIdx S) Global)) (x : Vec (StIdx S) Global) (ss : List ℕ) → Stacked number (xs ++ x ∷ []) ss → Stacked number xs ss ⊎ (stack_of number x.items ≡ ss)
  stacked_split xs x ss h = elim (split_end xs x h.1 h.0 h.2) [
    | inl old ↦ inl (h.0, h.1, old, h.3)
    | inr new ↦ inr (ap (λ (y : Vec (StIdx S) Global). stack_of number y.items) new ∙ h.3)
  ]

  pub hold_more : (v : TableValue) (xs : List (Vec (StIdx S) Global)) (x : Vec (StIdx S) Global) → AllHoldStates number v xs → HoldsStates number v x.items → AllHoldStates number v (xs ++ x ∷ [])
  hold_more v xs x all one k y e = elim (split_end xs x y k e) [
    | inl old ↦ all k y old
    | inr new ↦ subst (λ (z : Vec (StIdx S) Global). HoldsStates number v z.items) new one
  ]

  pub hold_fewer : (v : TableValue) (xs : List (Vec (StIdx S) Global)) (x : Vec (StIdx S) Global) → AllHoldStates number v (xs ++ x ∷ []) → AllHoldStates number v xs
  hold_fewer v xs x all k y e = all k y (before_end xs x y k e)

  pub hold_last : (v : TableValue) (xs : List (Vec (StIdx S) Global)) (x : Vec (StIdx S) Global) → AllHoldStates number v (xs ++ x ∷ []) → HoldsStates number v x.items
  hold_last v xs x all = all (length xs) x (at_end xs x)

module _ (G : Grammar) (a : Automaton) (t : ℕ) where
  pub one_fewer : (k : ℕ) (ss : List ℕ) → Reductions G a t (suc k) ss → Reductions G a t k ss
  one_fewer zero ss h = tt
  one_fewer (suc k) ss h = (h.0, h.1, one_fewer k h.0 h.2)

  by_action : (c : Action) (ss next : List ℕ) → reduce_by G a c ss ≡ Some next → (p : ℕ) × (c ≡ reduce p) × (goto_from G a p (drop (length (body_of G p)) ss) ≡ Some next)
  by_action (shift q) ss next e = cc
  by_action (reduce p) ss next e = (p, refl, e)
  by_action accept ss next e = cc
  by_action error ss next e = cc

  -- a reduction is by a production by which the top reduces
  pub by_production : (top : ℕ) (rest next : List ℕ) → reduction G a t (top ∷ rest) ≡ Some next → (p : ℕ) × (a.action top t ≡ reduce p) × (goto_from G a p (drop (length (body_of G p)) (top ∷ rest)) ≡ Some next)
  by_production top rest next e = by_action (a.action top t) (top ∷ rest) next e

-- some one of the stacks has so many reductions more to come
abbrev pub SomeGoesOn : {S : Type 0} → (S → ℕ) → Grammar → Automaton → ℕ → List (Vec (StIdx S) Global) → ℕ → Type 0
SomeGoesOn number G a t stacks k = (ss : List ℕ) × Stacked number stacks ss × Reductions G a t k ss

module _ {S : Type 0} (number : S → ℕ) (G : Grammar) (a : Automaton) (t : ℕ) where
  pub none_goes_on : (stacks : List (Vec (StIdx S) Global)) (k : ℕ) → stacks ≡ [] → SomeGoesOn number G a t stacks k → ⊥
  none_goes_on stacks k e h = let s = h.1 in cc (sym s.2 ∙ ap (λ (l : List (Vec (StIdx S) Global)). slice_get l s.0) e)

  -- after what may follow the last of them was put on the others
  pub goes_on : (xs news : List (Vec (StIdx S) Global)) (x : Vec (StIdx S) Global) (k : ℕ) → ((ss : List ℕ) → Stacked number xs ss → Stacked number news ss) →
      ((ss : List ℕ) → reduction G a t (stack_of number x.items) ≡ Some ss → Stacked number news ss) → SomeGoesOn number G a t (xs ++ x ∷ []) (suc k) → SomeGoesOn number G a t news k
  goes_on xs news x k kept put h = elim (stacked_split number xs x h.0 h.1) [
    | inl old ↦ (h.0, kept h.0 old, one_fewer G a t k h.0 h.2)
    | inr last ↦
        let r = subst (λ (ss : List ℕ). Reductions G a t (suc k) ss) (sym last) h.2 in
        (r.0, put r.0 r.1, r.2)
  ]

-- the stack that a chain begins with
module _ {S : Type 0} (number : S → ℕ) (p : ℕ) (above : Option ℕ) (x : Vec (StIdx S) Global) (first_is : states_of number x.items ≡ chain_states p above) where
  pub first_holds : (v : TableValue) → p < v.states → ((q : ℕ) → above ≡ Some q → q < v.states) → AllHoldStates number v (x ∷ [])
  first_holds v lt inside zero y e =
      let one : HoldsStates number v x.items = record {
        states = rw first_is (are_chain v p above lt inside);
        some = (
            let l : length (states_of number x.items) ≡ length x.items = length-map x.items (λ q. number q.0) in
            let m : length (states_of number x.items) ≡ length (chain_states p above) = ap (λ (y : List ℕ). length y) first_is in
            let n : 0 < length (chain_states p above) = some_chain p above in
            omega (arith, l, m, n)
            );
      } in
      subst (λ (z : Vec (StIdx S) Global). HoldsStates number v z.items) (same_Some x y e) one
  first_holds v lt inside (suc k) y e = cc

  pub first_goes_on : (G : Grammar) (a : Automaton) (t k : ℕ) → Reductions G a t k (chain_stack p above) → SomeGoesOn number G a t (x ∷ []) k
  first_goes_on G a t k h = (chain_stack p above, (0, x, refl, ap reverse first_is ∙ reversed_chain p above), h)
