use Rattle.std.proofs.Common.{◌≡◌, ℕ, [], ◌∷◌, ◌++◌, length, drop, inl, inr, Some, refl, sym, ap, ◌∙◌, subst, arith}
use Rattle.std.proofs.lemmas.Bool.{cases_lt}
use Rattle.std.proofs.lemmas.Option.{same_Some, slice_get_within}
use Rattle.std.specs.Prelude.{slice_get}
use Rattle.cfg_base.specs.declared.symbol.PIdx.{PIdx}
use Rattle.cfg_theory.specs.Grammar.{body_of}
use Rattle.lr_theory.specs.Chains.{goto_from}
use Rattle.state_table.specs.Tables.{automaton_of}
use Rattle.lrpar.specs.Reducing.{stack_of}
use Rattle.lrpar.specs.Branching.{Stacked}
use Rattle.lrpar.proofs.StacksAhead.{stacked_more, stacked_last, hold_more}
use Rattle.lrpar.proofs.tokenless_chains.follow.Goals as goal

pub stack_after-requires-clause-production : goal.stack_after-requires-clause-production
stack_after-requires-clause-production g c = c.requires.list _ (c.prods.index, c.prod_of_list-pidx.result, c.prod_of_list-pidx.ensures, refl)

pub prods-preserved-in_default : goal.prods-preserved-in_default
prods-preserved-in_default g c =
    let number = g.S.IndexStorage.number in
    let G = c.args.chains.now.grm.now.grammar in
    record {
      stacks = c.prods.invariant.stacks;
      kept = c.prods.invariant.kept;
      put = λ x k i ss lt at e. elim (cases_lt k c.prods.index) [
        | inl less ↦ c.prods.invariant.put x k i ss less at e
        | inr ge ↦
            let s : k ≡ c.prods.index = omega (arith, lt, ge) in
            let same : i ≡ c.prod_of_list-pidx.result = same_Some i c.prod_of_list-pidx.result (sym at ∙ ap (slice_get c.args.list.now) s ∙ c.prod_of_list-pidx.ensures) in
            let none = rw c.in_default.is at (c.in_ok-next.ensures.value x) in
            let to = subst (λ (j : PIdx g.row.S.Denot). goto_from G (automaton_of x c.args.chains.now.stable.now) (number j.0) (drop (length (body_of G (number j.0))) (stack_of number c.args.stack.now)) ≡ Some ss) same e in
            cc (none ∙ to)
      ];
    }

pub prods-preserved : goal.prods-preserved
prods-preserved g c =
    let number = g.S.IndexStorage.number in
    let G = c.args.chains.now.grm.now.grammar in
    let v = c.args.chains.now.stable.now in
    let items = c.in_ok-push.ensures.items in
    let old = c.prods.stacks.items in
    let next = c.in-Some.next in
    record {
      stacks = rw items (hold_more number v old next c.prods.invariant.stacks (rw c.in-Some.is at c.in_ok-next.ensures.states));
      kept = λ ss h. rw items (stacked_more number old next ss (c.prods.invariant.kept ss h));
      put = λ x k i ss lt at e. elim (cases_lt k c.prods.index) [
        | inl less ↦ rw items (stacked_more number old next ss (c.prods.invariant.put x k i ss less at e))
        | inr ge ↦
            let s : k ≡ c.prods.index = omega (arith, lt, ge) in
            let same : i ≡ c.prod_of_list-pidx.result = same_Some i c.prod_of_list-pidx.result (sym at ∙ ap (slice_get c.args.list.now) s ∙ c.prod_of_list-pidx.ensures) in
            let some = rw c.in-Some.is at (c.in_ok-next.ensures.value x) in
            let to = subst (λ (j : PIdx g.row.S.Denot). goto_from G (automaton_of x v) (number j.0) (drop (length (body_of G (number j.0))) (stack_of number c.args.stack.now)) ≡ Some ss) same e in
            let is : stack_of number next.items ≡ ss = same_Some (stack_of number next.items) ss (some ∙ to) in
            rw items (subst (Stacked number (old ++ next ∷ [])) is (stacked_last number old next))
      ];
    }

pub returns-clause-put : goal.returns-clause-put
returns-clause-put g c = λ x p ss h e.
    let number = g.S.IndexStorage.number in
    let G = c.args.chains.now.grm.now.grammar in
    let w = slice_get_within c.args.list.now h.0 h.1 h.2 in
    c.prods.invariant.put x h.0 h.1 ss (omega (arith, w)) h.2 (subst (λ (q : ℕ). goto_from G (automaton_of x c.args.chains.now.stable.now) q (drop (length (body_of G q)) (stack_of number c.args.stack.now)) ≡ Some ss) (sym h.3) e)
