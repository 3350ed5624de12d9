-- What the steps of a building keep of its builder.
use Rattle.std.proofs.Common.{◌≡◌, ℕ, ◌<◌, ◌≤◌, false, List, length, refl, sym, ap, ◌∙◌, subst, arith, length-set}
use Rattle.std.proofs.lemmas.List.{length-map}
use Rattle.lrtable.specs.Builders.{IsBuilder, GoesOn, states_in, lists_in}
use Rattle.lrtable.specs.States.{StateValue, KeepsItems, AreBuckets, state_at}
use Rattle.lrtable.specs.StateViews.{lists_of, value_of}
use Rattle.lrtable.specs.Stepping.{set_off}
use Rattle.lrtable.specs.declared.states.Builder.{Builder}
use Rattle.lrtable.proofs.Buckets.{buckets_kept}
use Rattle.lrtable.proofs.Stepping.{off_buckets}

module _ {S : Type 0} (number : S → ℕ) where
  pub goes_none : (b : Builder S) → GoesOn number b b
  goes_none b = record { from = refl; more = omega arith; less = omega arith; quiet = λ h. h }

  pub goes_then : (a b c : Builder S) → GoesOn number a b → GoesOn number b c → GoesOn number a c
  goes_then a b c h k = record {
    from = k.from ∙ h.from;
    more = (let x = h.more in let y = k.more in omega (arith, x, y));
    less = (let x = h.less in let y = k.less in omega (arith, x, y));
    quiet = λ q. k.quiet (h.quiet q);
  }

  -- the states are as many, with the same items
  pub builder_kept : (limit : ℕ) (old new : Builder S) → IsBuilder number limit old → KeepsItems (states_in number old) (states_in number new) → new.from ≡ old.from → new.cursor ≤ old.cursor → new.begins.items ≡ old.begins.items → IsBuilder number limit new
  builder_kept limit old new h k f c e =
      let n = length-map old.states.items (value_of number) in
      let m = length-map new.states.items (value_of number) in
      let count = k.count in
      let from = h.from in
      let cursor = h.cursor in
      let few = h.few in
      record {
        from = omega (arith, n, m, count, f, from);
        cursor = omega (arith, n, m, count, c, cursor);
        buckets = subst (λ l. AreBuckets (states_in number new) (lists_of l)) (sym e) (buckets_kept (states_in number old) (states_in number new) (lists_in old) k h.buckets);
        few = omega (arith, n, m, count, few);
      }

  -- a state is taken
  pub builder_taken : (limit : ℕ) (old new : Builder S) (s : ℕ) → IsBuilder number limit old → s < length old.states.items → states_in number new ≡ set_off (states_in number old) s → new.from ≡ s → new.cursor ≡ s → new.begins.items ≡ old.begins.items → IsBuilder number limit new
  builder_taken limit old new s h lt is f c e =
      let states = states_in number old in
      let n = length-map old.states.items (value_of number) in
      let m = length-map new.states.items (value_of number) in
      let z = ap length is in
      let k = length-set states s (record { core = (state_at states s).core; edges = (state_at states s).edges; todo = false }) in
      let few = h.few in
      record {
        from = omega (arith, n, m, z, k, f, lt);
        cursor = omega (arith, n, m, z, k, c, lt);
        buckets = subst (λ (l : List StateValue). AreBuckets l (lists_in new)) (sym is) (subst (λ l. AreBuckets (set_off states s) (lists_of l)) (sym e) (off_buckets states s (lists_in old) (omega (arith, n, lt)) h.buckets));
        few = omega (arith, n, m, z, k, few);
      }
