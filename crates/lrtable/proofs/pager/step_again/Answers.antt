use Rattle.std.proofs.Common.{◌≡◌, ◌<◌, Bool, List, length, map, refl, sym, ap, ap₂, ◌∙◌, subst, arith, rules}
use Rattle.std.proofs.lemmas.List.{length-map}
use Rattle.lr_theory.specs.Itemset.{HasItem}
use Rattle.lrtable.specs.Handling.{AreHandled}
use Rattle.state_table.specs.ItemRows.{Item, Core, map_of, FitsCore}
use Rattle.lrtable.specs.LookRows.{LookRows}
use Rattle.state_table.specs.Meeting.{rows_in}
use Rattle.lrtable.specs.MovedItems.{IsKernel}
use Rattle.lrtable.specs.States.{StateValue, no_state, state_at, AreStates, AreQuiet}
use Rattle.lrtable.specs.StateViews.{value_of, edge_of_pair, edges_of}
use Rattle.state_table.specs.CoreViews.{core_of_set}
use Rattle.lrtable.specs.Opening.{RuleSets}
use Rattle.lrtable.specs.Stepping.{IsClosureOf, IsSized}
use Rattle.lrtable.specs.Revisits.{core_noted}
use Rattle.lrtable.proofs.Builders.{builder_taken}
use Rattle.lrtable.proofs.Copies.{first_copies}
use Rattle.state_table.proofs.CoreSteps.{map_at}
use Rattle.lrtable.proofs.Quiet.{quiet_off}
use Rattle.lrtable.proofs.Stepping.{reached_fits, reached_kernel, off_states, next_taken, none_handled, step_reached, step_less}
use Rattle.lrtable.proofs.Revisits.{again_leads, again_whole, again_ascends, again_core}
use Rattle.lrtable.proofs.pager.step_again.Goals as goal

pub close-requires-clause-fits : goal.close-requires-clause-fits
close-requires-clause-fits g c =
    let number = g.S.IndexStorage.number in
    let G = c.args.grm.now.grammar in
    let states = map (value_of number) c.args.builder.now.states.items in
    let n = length-map c.args.builder.now.states.items (value_of number) in
    let low = c.requires.due.within in
    let at = map_at (value_of number) c.args.builder.now.states.items c.args.number c.index-state.result.now no_state low c.index-state.ensures in
    subst (λ (v : StateValue). FitsCore G v.core) at (reached_fits G states c.start_prod.ensures.well_formed c.requires.builder.reached c.args.number (omega (arith, n, low)))

pub note-requires : goal.note-requires
note-requires g c =
    let number = g.S.IndexStorage.number in
    let G = c.args.grm.now.grammar in
    let states = map (value_of number) c.args.builder.now.states.items in
    let n = length-map c.args.builder.now.states.items (value_of number) in
    let low = c.requires.due.within in
    let at = map_at (value_of number) c.args.builder.now.states.items c.args.number c.index-state.result.now no_state low c.index-state.ensures in
    let fits = subst (λ (v : StateValue). FitsCore G v.core) at (reached_fits G states c.start_prod.ensures.well_formed c.requires.builder.reached c.args.number (omega (arith, n, low))) in
    λ k d lt. let h = c.requires.buffers.hints in let p = fits.productions k d lt in omega (arith, h, p)

pub retake_all-requires : goal.retake_all-requires
retake_all-requires g c =
    let number = g.S.IndexStorage.number in
    let G = c.args.grm.now.grammar in
    let states = map (value_of number) c.args.builder.now.states.items in
    let n = length-map c.args.builder.now.states.items (value_of number) in
    let low = c.requires.due.within in
    let lt : c.args.number < length states = omega (arith, n, low) in
    let good = c.start_prod.ensures.well_formed in
    let h = c.requires.builder.reached in
    let at = map_at (value_of number) c.args.builder.now.states.items c.args.number c.index-state.result.now no_state low c.index-state.ensures in
    let own = core_noted number c.note.new.self c.new-rows.result in
    let es = edges_of number c.note.new.self.edges.items in
    let rows = ap (λ (r : LookRows). r.own) c.new-rows.ensures ∙ (first_copies c.copy_looks.new.own.items c.deref.result.now c.as_slice.result.now c.len-count.result c.deref.ensures.value (c.len-count.ensures ∙ (c.index-state.result.now.core.looks.ok.0 ∙ sym (ap length c.as_slice.ensures.value))) c.in_ok-copy_looks.ensures.copied ∙ ap rows_in c.as_slice.ensures.value) in
    let noted : own ≡ core_of_set number c.index-state.result.now.core = ap₂ (λ (i : List Item) (r : List (List Bool)). record { items = i; rows = r }) c.in_ok-note.ensures.items rows in
    let same : own ≡ (state_at states c.args.number).core = noted ∙ sym (ap (λ (v : StateValue). v.core) at) in
    let alike = c.in_ok-note.ensures.edges ∙ sym (ap (λ (v : StateValue). v.edges) at) in
    let all = subst (λ (l : List StateValue). AreStates G.tokens l) (sym c.in_ok-take.ensures) (off_states states h.building c.args.number h.matches lt G.tokens h.cores) in
    let long = length-map c.note.new.self.edges.items (edge_of_pair number) in
    let fronts = c.args.buffers.now.closer.openers.now in
    let opening = sym (ap (λ (r : LookRows). r.opening) c.new-rows.ensures) in
    record {
      noted = record {
        fits = subst (λ (x : Core). FitsCore G x) (sym same) (reached_fits G states good h c.args.number lt);
        kernel = subst (λ (x : Core). IsKernel G (HasItem (map_of x))) (sym same) (reached_kernel G states good h c.args.number lt);
        hints = c.in_ok-note.ensures.hints ∙ c.requires.buffers.hints;
        sizes = subst (IsSized G) opening c.in_ok-close.ensures.ready.sizes;
        closed = (
          fronts,
          c.requires.buffers.ready.openers,
          subst (λ (s : RuleSets). IsClosureOf G fronts own s) opening (subst (λ (x : Core). IsClosureOf G fronts x c.close.new.self.opening) (sym noted) c.in_ok-close.ensures.closed),
        );
      };
      builder = builder_taken number g.S.IndexStorage.MAX c.args.builder.now _ c.args.number c.requires.builder.builder low c.in_ok-take.ensures refl refl refl;
      states = all;
      leads = λ j d l. again_leads G good states h c.args.number lt c.requires.edges own es same alike (map (value_of number) c.take.new.states.items) c.in_ok-take.ensures all j d (omega (arith, l, long));
      ascends = again_ascends G good states h c.args.number lt c.requires.edges own es same alike;
      whole = again_whole G good states h c.args.number lt c.requires.edges own es same alike;
    }

pub returns-clause-buffers : goal.returns-clause-buffers
returns-clause-buffers g c = record {
  ready = c.in_ok-close.ensures.ready;
  hints = c.in_ok-note.ensures.hints ∙ c.requires.buffers.hints;
  empty = c.requires.buffers.empty;
  wide = c.requires.buffers.wide;
}

pub returns-in_err-retake_all-clause-many : goal.returns-in_err-retake_all-clause-many
returns-in_err-retake_all-clause-many g c = λ e.
    let number = g.S.IndexStorage.number in
    let G = c.args.grm.now.grammar in
    let states = map (value_of number) c.args.builder.now.states.items in
    let n = length-map c.args.builder.now.states.items (value_of number) in
    let low = c.requires.due.within in
    let lt : c.args.number < length states = omega (arith, n, low) in
    let good = c.start_prod.ensures.well_formed in
    let h = c.requires.builder.reached in
    let at = map_at (value_of number) c.args.builder.now.states.items c.args.number c.index-state.result.now no_state low c.index-state.ensures in
    let own = core_noted number c.note.new.self c.new-rows.result in
    let es = edges_of number c.note.new.self.edges.items in
    let rows = ap (λ (r : LookRows). r.own) c.new-rows.ensures ∙ (first_copies c.copy_looks.new.own.items c.deref.result.now c.as_slice.result.now c.len-count.result c.deref.ensures.value (c.len-count.ensures ∙ (c.index-state.result.now.core.looks.ok.0 ∙ sym (ap length c.as_slice.ensures.value))) c.in_ok-copy_looks.ensures.copied ∙ ap rows_in c.as_slice.ensures.value) in
    let noted : own ≡ core_of_set number c.index-state.result.now.core = ap₂ (λ (i : List Item) (r : List (List Bool)). record { items = i; rows = r }) c.in_ok-note.ensures.items rows in
    let same : own ≡ (state_at states c.args.number).core = noted ∙ sym (ap (λ (v : StateValue). v.core) at) in
    let alike = c.in_ok-note.ensures.edges ∙ sym (ap (λ (v : StateValue). v.edges) at) in
    let begun = subst (λ (l : List StateValue). AreHandled G h.building c.args.number 0 l) (sym c.in_ok-take.ensures) (none_handled states h.building c.args.number h.matches lt G h.cores) in
    c.retake_all.ensures.many (search rules) h.building (next_taken G states h c.args.number c.requires.due.todo c.requires.due.lowest) (again_core G good states h c.args.number lt c.requires.edges own es same alike) begun

pub returns-clause-step : goal.returns-clause-step
returns-clause-step g c =
    let number = g.S.IndexStorage.number in
    let G = c.args.grm.now.grammar in
    let states = map (value_of number) c.args.builder.now.states.items in
    let n = length-map c.args.builder.now.states.items (value_of number) in
    let low = c.requires.due.within in
    let lt : c.args.number < length states = omega (arith, n, low) in
    let good = c.start_prod.ensures.well_formed in
    let h = c.requires.builder.reached in
    let at = map_at (value_of number) c.args.builder.now.states.items c.args.number c.index-state.result.now no_state low c.index-state.ensures in
    let own = core_noted number c.note.new.self c.new-rows.result in
    let es = edges_of number c.note.new.self.edges.items in
    let rows = ap (λ (r : LookRows). r.own) c.new-rows.ensures ∙ (first_copies c.copy_looks.new.own.items c.deref.result.now c.as_slice.result.now c.len-count.result c.deref.ensures.value (c.len-count.ensures ∙ (c.index-state.result.now.core.looks.ok.0 ∙ sym (ap length c.as_slice.ensures.value))) c.in_ok-copy_looks.ensures.copied ∙ ap rows_in c.as_slice.ensures.value) in
    let noted : own ≡ core_of_set number c.index-state.result.now.core = ap₂ (λ (i : List Item) (r : List (List Bool)). record { items = i; rows = r }) c.in_ok-note.ensures.items rows in
    let same : own ≡ (state_at states c.args.number).core = noted ∙ sym (ap (λ (v : StateValue). v.core) at) in
    let alike = c.in_ok-note.ensures.edges ∙ sym (ap (λ (v : StateValue). v.edges) at) in
    let begun = subst (λ (l : List StateValue). AreHandled G h.building c.args.number 0 l) (sym c.in_ok-take.ensures) (none_handled states h.building c.args.number h.matches lt G h.cores) in
    let done = c.in_ok-retake_all.ensures.handled h.building (again_core G good states h c.args.number lt c.requires.edges own es same alike) begun in
    let new = map (value_of number) c.retake_all.new.builder.states.items in
    let m = length-map c.retake_all.new.builder.states.items (value_of number) in
    let few = c.in_ok-retake_all.ensures.builder.few in
    record {
      under_way = record {
        builder = c.in_ok-retake_all.ensures.builder;
        reached = step_reached G states new c.args.number h lt c.requires.due.todo c.requires.due.lowest done;
        quiet = c.in_ok-retake_all.ensures.goes.quiet (subst (λ (l : List StateValue). AreQuiet l c.args.number) (sym c.in_ok-take.ensures) (quiet_off states c.args.number c.args.number c.requires.due.lowest (omega arith)));
      };
      less = step_less G g.S.IndexStorage.MAX states new c.args.number h good c.requires.due.todo c.requires.due.lowest done (omega (arith, m, few));
    }
