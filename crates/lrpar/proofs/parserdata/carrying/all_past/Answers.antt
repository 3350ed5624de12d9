use Rattle.std.proofs.Common.{◌≡◌, ◌+◌, ℕ, Some, length, sym, ap, ◌∙◌, subst, ⊎_elim}
use Rattle.std.specs.Prelude.{slice_get}
use Rattle.std.specs.declared.alloc.Global.{Global}
use Rattle.std.specs.declared.vec.Vec.{Vec}
use Rattle.lrpar.specs.Fitting.{ArePast, closed_at}
use Rattle.lrpar.specs.declared.parserdata.fitting.PastItem.{PastItem}
use Rattle.lrpar.proofs.Quiet.{appended_at, appended_length}
use Rattle.lrpar.proofs.parserdata.carrying.all_past.Goals as goal

pub states-preserved : goal.states-preserved
states-preserved g c =
    let number = g.S.IndexStorage.number in
    let items = c.in_ok-push.ensures.items in
    let count = c.states.invariant.count in
    let here : ArePast number (closed_at c.args.sgraph.now (number c.index_below.result)) c.in_ok-past_items.field-0.items = rw (← c.closed_state.ensures) c.in_ok-past_items.ensures in
    let fits : (k : ℕ) (x : Vec (PastItem g.row.S.Denot) Global) → slice_get c.push.new.self.items k ≡ Some x → ArePast number (closed_at c.args.sgraph.now k) x.items =
    λ k x e. ⊎_elim
    (λ old. c.states.invariant.each k x old)
    (λ new. subst (λ j. ArePast number (closed_at c.args.sgraph.now j) x.items) (c.index_below.ensures ∙ sym (new.0 ∙ count)) (subst (λ (v : Vec (PastItem g.row.S.Denot) Global). ArePast number (closed_at c.args.sgraph.now (number c.index_below.result)) v.items) new.1 here))
    (appended_at c.states.all.items c.in_ok-past_items.field-0 x k (ap (λ l. slice_get l k) (sym items) ∙ e)) in
    record { count = ap length items ∙ appended_length c.states.all.items c.in_ok-past_items.field-0 ∙ ap (λ n. n + 1) count; each = fits }
