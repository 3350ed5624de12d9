use Rattle.std.proofs.Common.{◌≡◌, List, [], ◌∷◌, ◌++◌, inl, inr, sym, ap, ◌∙◌, subst}
use Rattle.cfg_base.specs.declared.symbol.PIdx.{PIdx}
use Rattle.lr_theory.specs.Automaton.{reduce}
use Rattle.state_table.specs.CellViews.{action_of}
use Rattle.lrpar.specs.Branching.{Lists}
use Rattle.lrpar.proofs.StacksAhead.{same_production, lists_more, lists_last, lists_split}
use Rattle.lrpar.proofs.reducers.put_reducer.Goals as goal

pub returns-then-is_listed-clause-put : goal.returns-then-is_listed-clause-put
returns-then-is_listed-clause-put g c = λ p e.
    let number = g.S.IndexStorage.number in
    let same : number c.in-Reduce.pidx.0 ≡ p = same_production (number c.in-Reduce.pidx.0) p (sym (ap (action_of number) c.in-Reduce.is) ∙ e) in
    subst (Lists number c.args.list.now.items) same (subst (λ (l : List (PIdx g.row.S.Denot)). Lists number l (number c.in-Reduce.pidx.0)) c.as_slice.ensures.value (c.is_listed.ensures c.if-is_listed.true))

pub returns-clause-kept : goal.returns-clause-kept
returns-clause-kept g c = λ p h. rw c.in_ok-push.ensures.items (lists_more g.S.IndexStorage.number c.args.list.now.items c.in-Reduce.pidx p h)

pub returns-clause-put : goal.returns-clause-put
returns-clause-put g c = λ p e.
    let number = g.S.IndexStorage.number in
    let same : number c.in-Reduce.pidx.0 ≡ p = same_production (number c.in-Reduce.pidx.0) p (sym (ap (action_of number) c.in-Reduce.is) ∙ e) in
    rw c.in_ok-push.ensures.items (subst (Lists number (c.args.list.now.items ++ c.in-Reduce.pidx ∷ [])) same (lists_last number c.args.list.now.items c.in-Reduce.pidx))

pub returns-clause-within : goal.returns-clause-within
returns-clause-within g c = λ n old new p h.
    let number = g.S.IndexStorage.number in
    elim (lists_split number c.args.list.now.items c.in-Reduce.pidx p (rw c.in_ok-push.ensures.items at h)) [
      | inl there ↦ old p there
      | inr same ↦ new p (ap (action_of number) c.in-Reduce.is ∙ ap reduce same)
    ]
