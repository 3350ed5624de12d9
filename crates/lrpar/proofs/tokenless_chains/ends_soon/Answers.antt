use Rattle.std.proofs.Common.{◌≡◌, ℕ, ◌+◌, ◌-◌, suc, List, [], ◌∷◌, ◌++◌, Some, sym, ap, ◌∙◌, subst, arith}
use Rattle.std.proofs.lemmas.List.{nil_from_length}
use Rattle.std.specs.declared.alloc.Global.{Global}
use Rattle.std.specs.declared.vec.Vec.{Vec}
use Rattle.lr_theory.specs.Chains.{reduction, Reductions}
use Rattle.state_table.specs.CellViews.{state_of}
use Rattle.state_table.specs.Tables.{automaton_of}
use Rattle.state_table.specs.declared.stidx.StIdx.{StIdx}
use Rattle.lrpar.specs.Reducing.{stack_of, chain_stack}
use Rattle.lrpar.specs.Branching.{Stacked, AllHoldStates}
use Rattle.lrpar.proofs.StacksAhead.{SomeGoesOn, none_goes_on, goes_on, first_goes_on, first_holds, hold_fewer, hold_last}
use Rattle.lrpar.proofs.tokenless_chains.ends_soon.Goals as goal

pub stacks-init : goal.stacks-init
stacks-init g c =
    let number = g.S.IndexStorage.number in
    let p = number c.args.state.0 in
    let above = state_of number c.args.above in
    let first = c.in_ok-first_stack.field-0 in
    let start = chain_stack p above in
    let items : c.push.new.self.items ≡ first ∷ [] = c.in_ok-push.ensures.items ∙ ap (λ (l : List (Vec (StIdx g.row.S.Denot) Global)). l ++ first ∷ []) c.clear.ensures.items in
    record {
      stacks = subst (λ (l : List (Vec (StIdx g.row.S.Denot) Global)). AllHoldStates number c.args.chains.now.stable.now l) (sym items) (first_holds number p above first c.in_ok-first_stack.ensures c.args.chains.now.stable.now c.requires.state c.requires.above);
      on = λ x t k h.
          let G = c.args.chains.now.grm.now.grammar in
          let a = automaton_of x c.args.chains.now.stable.now in
          let e : 0 + k ≡ k = omega arith in
          subst (λ (l : List (Vec (StIdx g.row.S.Denot) Global)). SomeGoesOn number G a t l k) (sym items) (first_goes_on number p above first c.in_ok-first_stack.ensures G a t k (subst (λ n. Reductions G a t n start) e h));
    }

pub returns-in_default : goal.returns-in_default
returns-in_default g c = λ _ x t h.
    let number = g.S.IndexStorage.number in
    let G = c.args.chains.now.grm.now.grammar in
    let a = automaton_of x c.args.chains.now.stable.now in
    let i = c.stacks.counter in
    let start = chain_stack (number c.args.state.0) (state_of number c.args.above) in
    let e : c.args.chains.now.limit + 1 ≡ i + suc (c.args.chains.now.limit - i) = omega arith in
    let none : c.stacks.stacks.items ≡ [] = nil_from_length c.stacks.stacks.items (omega (arith, c.pop.ensures.len, rw c.in_default.is at c.pop.ensures.cases)) in
    none_goes_on number G a t c.stacks.stacks.items (suc (c.args.chains.now.limit - i)) none (c.stacks.invariant.on x t (suc (c.args.chains.now.limit - i)) (subst (λ n. Reductions G a t n start) e h))

pub stacks-preserved : goal.stacks-preserved
stacks-preserved g c =
    let number = g.S.IndexStorage.number in
    let G = c.args.chains.now.grm.now.grammar in
    let v = c.args.chains.now.stable.now in
    let i = c.stacks.counter in
    let start = chain_stack (number c.args.state.0) (state_of number c.args.above) in
    let popped : c.stacks.stacks.items ≡ c.pop.new.self.items ++ c.in-Some.stack ∷ [] = rw c.in-Some.is at c.pop.ensures.items in
    record {
      stacks = c.in_ok-take_stack.ensures.stacks;
      on = λ x t k h.
          let a = automaton_of x v in
          let e : i + 1 + k ≡ i + suc k = omega arith in
          let here = c.stacks.invariant.on x t (suc k) (subst (λ n. Reductions G a t n start) e h) in
          goes_on number G a t c.pop.new.self.items c.take_stack.new.stacks.items c.in-Some.stack k c.in_ok-take_stack.ensures.kept
          (subst (λ (l : List (StIdx g.row.S.Denot)). (ss : List ℕ) → reduction G a t (stack_of number l) ≡ Some ss → Stacked number c.take_stack.new.stacks.items ss) c.as_slice.ensures.value (c.in_ok-take_stack.ensures.put x t))
          (subst (λ (xs : List (Vec (StIdx g.row.S.Denot) Global)). SomeGoesOn number G a t xs (suc k)) popped here);
    }

pub take_stack-requires-clause-states : goal.take_stack-requires-clause-states
take_stack-requires-clause-states g c =
    let number = g.S.IndexStorage.number in
    let popped : c.stacks.stacks.items ≡ c.pop.new.self.items ++ c.in-Some.stack ∷ [] = rw c.in-Some.is at c.pop.ensures.items in
    rw c.as_slice.ensures.value (hold_last number c.args.chains.now.stable.now c.pop.new.self.items c.in-Some.stack (subst (λ (xs : List (Vec (StIdx g.row.S.Denot) Global)). AllHoldStates number c.args.chains.now.stable.now xs) popped c.stacks.invariant.stacks))

pub take_stack-requires-clause-stacks : goal.take_stack-requires-clause-stacks
take_stack-requires-clause-stacks g c =
    let number = g.S.IndexStorage.number in
    let popped : c.stacks.stacks.items ≡ c.pop.new.self.items ++ c.in-Some.stack ∷ [] = rw c.in-Some.is at c.pop.ensures.items in
    hold_fewer number c.args.chains.now.stable.now c.pop.new.self.items c.in-Some.stack (subst (λ (xs : List (Vec (StIdx g.row.S.Denot) Global)). AllHoldStates number c.args.chains.now.stable.now xs) popped c.stacks.invariant.stacks)
