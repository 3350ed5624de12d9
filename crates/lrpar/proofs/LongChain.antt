-- Chains of reductions, one more at a time.
use Rattle.std.proofs.Common.{◌≡◌, ℕ, zero, suc, ◌+◌, ◌-◌, ◌<◌, ◌≤◌, List, length, reverse, Option, Some, None, refl, sym, ◌∙◌, subst, arith}
use Rattle.std.specs.Prelude.{slice_get}
use Rattle.cfg_theory.specs.Grammar.{Grammar}
use Rattle.lr_theory.specs.Automaton.{Automaton}
use Rattle.lr_theory.specs.Chains.{reduction, Reductions}
use Rattle.state_table.specs.TableValues.{TableValue}
use Rattle.lrpar.specs.Reducing.{AreStates, chain_stack, chain_states}

pub reversed_chain : (p : ℕ) (above : Option ℕ) → reverse (chain_states p above) ≡ chain_stack p above
reversed_chain p None = refl
reversed_chain p (Some q) = refl

pub are_chain : (v : TableValue) (p : ℕ) (above : Option ℕ) → p < v.states → ((q : ℕ) → above ≡ Some q → q < v.states) → AreStates v (chain_states p above)
are_chain v p above lt h = record { each = by above h }
  where
    by : (o : Option ℕ) → ((q : ℕ) → o ≡ Some q → q < v.states) → (k r : ℕ) → slice_get (chain_states p o) k ≡ Some r → r < v.states
    by None h zero r e = let same : p ≡ r = cc in omega (arith, same, lt)
    by None h (suc k) r e = cc
    by (Some q) h zero r e = let same : p ≡ r = cc in omega (arith, same, lt)
    by (Some q) h (suc zero) r e = h r e
    by (Some q) h (suc (suc k)) r e = cc

pub some_chain : (p : ℕ) (above : Option ℕ) → 0 < length (chain_states p above)
some_chain p None = omega arith
some_chain p (Some q) = omega arith

module _ (G : Grammar) (a : Automaton) (t : ℕ) where
  some_list : (x y : List ℕ) → Some x ≡ Some y → x ≡ y
  some_list x y e = cc

  -- i reductions lead from one stack to the other
  pub record LeadsOn (i : ℕ) (from to : List ℕ) : Type 0 where
    pub on : (k : ℕ) → Reductions G a t (i + k) from → Reductions G a t k to
    pub back : (k : ℕ) → Reductions G a t k to → Reductions G a t (i + k) from

  pub leads_none : (ss : List ℕ) → LeadsOn 0 ss ss
  leads_none ss = record {
    on = λ k h. let e : 0 + k ≡ k = omega arith in subst (λ n. Reductions G a t n ss) e h;
    back = λ k h. let e : k ≡ 0 + k = omega arith in subst (λ n. Reductions G a t n ss) e h;
  }

  pub leads_more : (i : ℕ) (from to next : List ℕ) → LeadsOn i from to → reduction G a t to ≡ Some next → LeadsOn (i + 1) from next
  leads_more i from to next h e = record {
    on = λ k r.
        let n : i + 1 + k ≡ i + suc k = omega arith in
        let x = h.on (suc k) (subst (λ m. Reductions G a t m from) n r) in
        subst (Reductions G a t k) (some_list x.0 next (sym x.1 ∙ e)) x.2;
    back = λ k r.
        let n : i + suc k ≡ i + 1 + k = omega arith in
        subst (λ m. Reductions G a t m from) n (h.back (suc k) (next, e, r));
  }

  -- no more come
  pub leads_end : (i limit : ℕ) (from to : List ℕ) → LeadsOn i from to → i < limit + 1 → reduction G a t to ≡ None → Reductions G a t (limit + 1) from → ⊥
  leads_end i limit from to h lt e r =
      let n : limit + 1 ≡ i + suc (limit - i) = omega arith in
      let x = h.on (suc (limit - i)) (subst (λ m. Reductions G a t m from) n r) in
      cc (sym x.1 ∙ e)

  pub leads_all : (i n : ℕ) (from to : List ℕ) → LeadsOn i from to → n ≤ i → i ≤ n → Reductions G a t n from
  leads_all i n from to h le ge = let e : i + 0 ≡ n = omega arith in subst (λ m. Reductions G a t m from) e (h.back 0 tt)
