use Rattle.std.proofs.Common.{◌≡◌, ◌<◌, ◌∙◌, Bool, List, length, map, refl, sym, ap, subst, arith, rules}
use Rattle.std.specs.Prelude.{IsErrOf}
use Rattle.std.proofs.lemmas.List.{length-map}
use Rattle.lr_theory.specs.Itemset.{HasItem, HasLook, Closure, ClosureLook}
use Rattle.lrtable.specs.Gaining.{AreMarked}
use Rattle.lrtable.specs.Handling.{AreHandled}
use Rattle.state_table.specs.ItemRows.{map_of, FitsCore}
use Rattle.lrtable.specs.LookRows.{LookRows}
use Rattle.state_table.specs.Meeting.{rows_in}
use Rattle.lrtable.specs.MovedItems.{IsKernel, set_of_moved}
use Rattle.lrtable.specs.States.{StateValue, no_state, AreStates, AreQuiet}
use Rattle.lrtable.proofs.Quiet.{quiet_off}
use Rattle.lrtable.specs.StateViews.{value_of}
use Rattle.state_table.specs.CoreViews.{core_of_set}
use Rattle.lrtable.specs.Stepping.{AreGotos}
use Rattle.lrtable.proofs.Builders.{builder_taken}
use Rattle.lrtable.proofs.Copies.{first_copies}
use Rattle.state_table.proofs.CoreSteps.{map_at}
use Rattle.lrtable.proofs.Stepping.{reached_fits, reached_kernel, off_states, all_fit, next_taken, gotos_of, none_handled, step_reached, step_less}
use Rattle.lrtable.specs.declared.states.BuildError.TheVariants as faults
use Rattle.lrtable.proofs.pager.step_anew.Goals as goal

pub gotos-requires : goal.gotos-requires
gotos-requires g c =
    let number = g.S.IndexStorage.number in
    let G = c.args.grm.now.grammar in
    let states = map (value_of number) c.args.builder.now.states.items in
    let n = length-map c.args.builder.now.states.items (value_of number) in
    let low = c.requires.due.within in
    let lt : c.args.number < length states = omega (arith, n, low) in
    let good = c.start_prod.ensures.well_formed in
    let at = map_at (value_of number) c.args.builder.now.states.items c.args.number c.index.result.now no_state low c.index.ensures in
    record {
      ready = c.requires.buffers.ready;
      fits = subst (λ (v : StateValue). FitsCore G v.core) at (reached_fits G states good c.requires.builder.reached c.args.number lt);
      kernel = subst (λ (v : StateValue). IsKernel G (HasItem (map_of v.core))) at (reached_kernel G states good c.requires.builder.reached c.args.number lt);
      wide = c.requires.buffers.wide;
      empty = c.requires.buffers.empty;
    }

pub place_all-requires : goal.place_all-requires
place_all-requires g c =
    let number = g.S.IndexStorage.number in
    let G = c.args.grm.now.grammar in
    let states = map (value_of number) c.args.builder.now.states.items in
    let n = length-map c.args.builder.now.states.items (value_of number) in
    let low = c.requires.due.within in
    let h = c.requires.builder.reached in
    let opening = c.gotos.new.closer.opening in
    let taken = c.index.result.now.core in
    let rows : c.new-rows.result ≡ record { own = rows_in taken.looks.items; opening = opening } = c.new-rows.ensures ∙ ap (λ (l : List (List Bool)). record { own = l; opening = opening }) (first_copies c.copy_looks.new.own.items c.deref.result.now c.as_slice.result.now c.len-count.result c.deref.ensures.value (c.len-count.ensures ∙ (c.index.result.now.core.looks.ok.0 ∙ sym (ap length c.as_slice.ensures.value))) c.in_ok-copy_looks.ensures.copied ∙ ap rows_in c.as_slice.ensures.value) in
    let core = map_of (core_of_set number taken) in
    let made = subst (λ (r : LookRows). AreGotos G (Closure G (HasItem core)) (ClosureLook G (HasItem core) (HasLook core)) (map (set_of_moved number r) c.gotos.new.sets.items)) (sym rows) c.in_ok-gotos.ensures.gotos in
    record {
      count = sym (length-map c.gotos.new.sets.items (set_of_moved number c.new-rows.result)) ∙ made.count;
      wide = c.in_ok-gotos.ensures.wide;
      marked = subst (λ (r : LookRows). AreMarked c.gotos.new.marks.bits (map (set_of_moved number r) c.gotos.new.sets.items)) (sym rows) c.in_ok-gotos.ensures.marked;
      tokens = c.start_prod.ensures.well_formed.end_token;
      builder = builder_taken number g.S.IndexStorage.MAX c.args.builder.now _ c.args.number c.requires.builder.builder low c.in_ok-take.ensures refl refl refl;
      states = subst (λ (l : List StateValue). AreStates G.tokens l) (sym c.in_ok-take.ensures) (off_states states h.building c.args.number h.matches (omega (arith, n, low)) G.tokens h.cores);
      sets = all_fit G (Closure G (HasItem core)) (ClosureLook G (HasItem core) (HasLook core)) (map (set_of_moved number c.new-rows.result) c.gotos.new.sets.items) made;
    }

pub returns-clause-buffers : goal.returns-clause-buffers
returns-clause-buffers g c = record {
  ready = c.in_ok-gotos.ensures.ready;
  hints = c.requires.buffers.hints;
  empty = c.in_ok-place_all.ensures.emptied;
  wide = c.in_ok-gotos.ensures.wide;
}

pub returns-in_err-place_all-clause-many : goal.returns-in_err-place_all-clause-many
returns-in_err-place_all-clause-many g c = λ e.
    let err : IsErrOf c.place_all.result faults.TooManyStates = search rules in
    let number = g.S.IndexStorage.number in
    let G = c.args.grm.now.grammar in
    let states = map (value_of number) c.args.builder.now.states.items in
    let n = length-map c.args.builder.now.states.items (value_of number) in
    let low = c.requires.due.within in
    let h = c.requires.builder.reached in
    let at = map_at (value_of number) c.args.builder.now.states.items c.args.number c.index.result.now no_state low c.index.ensures in
    let opening = c.gotos.new.closer.opening in
    let taken = c.index.result.now.core in
    let rows : c.new-rows.result ≡ record { own = rows_in taken.looks.items; opening = opening } = c.new-rows.ensures ∙ ap (λ (l : List (List Bool)). record { own = l; opening = opening }) (first_copies c.copy_looks.new.own.items c.deref.result.now c.as_slice.result.now c.len-count.result c.deref.ensures.value (c.len-count.ensures ∙ (c.index.result.now.core.looks.ok.0 ∙ sym (ap length c.as_slice.ensures.value))) c.in_ok-copy_looks.ensures.copied ∙ ap rows_in c.as_slice.ensures.value) in
    let sets = map (set_of_moved number c.new-rows.result) c.gotos.new.sets.items in
    let made = subst (λ (r : LookRows). AreGotos G (Closure G (HasItem (map_of (core_of_set number taken)))) (ClosureLook G (HasItem (map_of (core_of_set number taken))) (HasLook (map_of (core_of_set number taken)))) (map (set_of_moved number r) c.gotos.new.sets.items)) (sym rows) c.in_ok-gotos.ensures.gotos in
    let gotos = gotos_of G states h.building c.args.number sets h.matches (subst (λ (v : StateValue). AreGotos G (Closure G (HasItem (map_of v.core))) (ClosureLook G (HasItem (map_of v.core)) (HasLook (map_of v.core))) sets) (sym at) made) in
    let begun = subst (λ (l : List StateValue). AreHandled G h.building c.args.number 0 l) (sym c.in_ok-take.ensures) (none_handled states h.building c.args.number h.matches (omega (arith, n, low)) G h.cores) in
    c.place_all.ensures.many err h.building (next_taken G states h c.args.number c.requires.due.todo c.requires.due.lowest) gotos begun

pub returns-clause-step : goal.returns-clause-step
returns-clause-step g c =
    let number = g.S.IndexStorage.number in
    let G = c.args.grm.now.grammar in
    let states = map (value_of number) c.args.builder.now.states.items in
    let n = length-map c.args.builder.now.states.items (value_of number) in
    let low = c.requires.due.within in
    let h = c.requires.builder.reached in
    let at = map_at (value_of number) c.args.builder.now.states.items c.args.number c.index.result.now no_state low c.index.ensures in
    let opening = c.gotos.new.closer.opening in
    let taken = c.index.result.now.core in
    let rows : c.new-rows.result ≡ record { own = rows_in taken.looks.items; opening = opening } = c.new-rows.ensures ∙ ap (λ (l : List (List Bool)). record { own = l; opening = opening }) (first_copies c.copy_looks.new.own.items c.deref.result.now c.as_slice.result.now c.len-count.result c.deref.ensures.value (c.len-count.ensures ∙ (c.index.result.now.core.looks.ok.0 ∙ sym (ap length c.as_slice.ensures.value))) c.in_ok-copy_looks.ensures.copied ∙ ap rows_in c.as_slice.ensures.value) in
    let sets = map (set_of_moved number c.new-rows.result) c.gotos.new.sets.items in
    let made = subst (λ (r : LookRows). AreGotos G (Closure G (HasItem (map_of (core_of_set number taken)))) (ClosureLook G (HasItem (map_of (core_of_set number taken))) (HasLook (map_of (core_of_set number taken)))) (map (set_of_moved number r) c.gotos.new.sets.items)) (sym rows) c.in_ok-gotos.ensures.gotos in
    let gotos = gotos_of G states h.building c.args.number sets h.matches (subst (λ (v : StateValue). AreGotos G (Closure G (HasItem (map_of v.core))) (ClosureLook G (HasItem (map_of v.core)) (HasLook (map_of v.core))) sets) (sym at) made) in
    let begun = subst (λ (l : List StateValue). AreHandled G h.building c.args.number 0 l) (sym c.in_ok-take.ensures) (none_handled states h.building c.args.number h.matches (omega (arith, n, low)) G h.cores) in
    let done = c.in_ok-place_all.ensures.handled h.building gotos begun in
    let new = map (value_of number) c.place_all.new.builder.states.items in
    let m = length-map c.place_all.new.builder.states.items (value_of number) in
    let few = c.in_ok-place_all.ensures.builder.few in
    record {
      under_way = record {
        builder = c.in_ok-place_all.ensures.builder;
        reached = step_reached G states new c.args.number h (omega (arith, n, low)) c.requires.due.todo c.requires.due.lowest done;
        quiet = c.in_ok-place_all.ensures.goes.quiet (subst (λ (l : List StateValue). AreQuiet l c.args.number) (sym c.in_ok-take.ensures) (quiet_off states c.args.number c.args.number c.requires.due.lowest (omega arith)));
      };
      less = step_less G g.S.IndexStorage.MAX states new c.args.number h c.start_prod.ensures.well_formed c.requires.due.todo c.requires.due.lowest done (omega (arith, m, few));
    }
