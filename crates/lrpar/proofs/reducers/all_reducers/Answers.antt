use Rattle.std.proofs.Common.{◌≡◌, ◌+◌, ℕ, Some, length, sym, ap, ◌∙◌, subst, ⊎_elim}
use Rattle.std.specs.Prelude.{slice_get}
use Rattle.std.specs.declared.alloc.Global.{Global}
use Rattle.std.specs.declared.vec.Vec.{Vec}
use Rattle.cfg_base.specs.declared.symbol.PIdx.{PIdx}
use Rattle.lrpar.specs.Branching.{AreReducers}
use Rattle.lrpar.proofs.Quiet.{appended_at, appended_length}
use Rattle.lrpar.proofs.reducers.all_reducers.Goals as goal

pub states-preserved : goal.states-preserved
states-preserved g c =
    let number = g.S.IndexStorage.number in
    let G = c.args.chains.now.grm.now.grammar in
    let v = c.args.chains.now.stable.now in
    let items = c.in_ok-push.ensures.items in
    let count = c.states.invariant.count in
    let fits : (k : ℕ) (x : Vec (PIdx g.row.S.Denot) Global) → slice_get c.push.new.self.items k ≡ Some x → AreReducers number G v k x.items =
    λ k x e. ⊎_elim
    (λ old. c.states.invariant.each k x old)
    (λ new. subst (λ j. AreReducers number G v j x.items) (c.index_below.ensures ∙ sym (new.0 ∙ count)) (subst (λ (z : Vec (PIdx g.row.S.Denot) Global). AreReducers number G v (number c.index_below.result) z.items) new.1 c.in_ok-reducers_of.ensures))
    (appended_at c.states.all.items c.in_ok-reducers_of.field-0 x k (ap (λ l. slice_get l k) (sym items) ∙ e)) in
    record { count = ap length items ∙ appended_length c.states.all.items c.in_ok-reducers_of.field-0 ∙ ap (λ n. n + 1) count; each = fits }
