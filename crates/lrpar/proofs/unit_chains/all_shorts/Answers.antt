use Rattle.std.proofs.Common.{◌≡◌, ◌+◌, ℕ, Some, length, sym, ap, ◌∙◌, subst, arith, ⊎_elim}
use Rattle.std.specs.Prelude.{slice_get}
use Rattle.lrpar.specs.Reducing.{ShortAt}
use Rattle.lrpar.specs.declared.unit_chains.Short.{Short}
use Rattle.lrpar.proofs.Quiet.{appended_at, appended_length}
use Rattle.lrpar.proofs.unit_chains.all_shorts.Goals as goal

pub short_of-requires : goal.short_of-requires
short_of-requires g c = c.reducers_at-list.ensures.within

pub states-preserved : goal.states-preserved
states-preserved g c =
    let number = g.S.IndexStorage.number in
    let G = c.args.chains.now.grm.now.grammar in
    let v = c.args.chains.now.stable.now in
    let items = c.in_ok-push.ensures.items in
    let count = c.states.invariant.count in
    let here : ShortAt number G v (number c.index_below.result) c.short_of.result = c.short_of.ensures v (number c.index_below.result) c.reducers_at-list.ensures in
    let fits : (k : ℕ) (x : Short g.row.S.Denot) → slice_get c.push.new.self.items k ≡ Some x → ShortAt number G v k x =
    λ k x e. ⊎_elim
    (λ old. c.states.invariant.each k x old)
    (λ new. subst (λ j. ShortAt number G v j x) (c.index_below.ensures ∙ sym (new.0 ∙ count)) (subst (ShortAt number G v (number c.index_below.result)) new.1 here))
    (appended_at c.states.shorts.items c.short_of.result x k (ap (λ l. slice_get l k) (sym items) ∙ e)) in
    record { count = ap length items ∙ appended_length c.states.shorts.items c.short_of.result ∙ ap (λ n. n + 1) count; each = fits }

pub returns : goal.returns
returns g c =
    let same : c.states.number ≡ c.args.chains.now.stable.now.states = omega (arith, c.states-test.false, c.states.auto.number-end, c.to_usize-number-end.ensures.value, c.states_len-states.ensures.value) in
    record { count = c.states.invariant.count ∙ same; each = c.states.invariant.each }
