use Rattle.std.proofs.Common.{◌≡◌, ◌<◌, ℕ, List, length, map, refl, sym, ap, ◌∙◌, subst, subst₂, arith, rules}
use Rattle.std.proofs.lemmas.List.{length-map}
use Rattle.cfg_numbered.specs.Symbols.{sym_of}
use Rattle.lrtable.specs.Handling.{rank}
use Rattle.state_table.specs.ItemRows.{Item}
use Rattle.lrtable.specs.MovedItems.{moved_item, core_of_moved}
use Rattle.lrtable.specs.States.{Edge, StateValue, AreBuckets, no_state, state_at}
use Rattle.state_table.specs.CoreViews.{items_of}
use Rattle.lrtable.specs.StateViews.{lists_of, value_of}
use Rattle.lrtable.specs.Revisits.{core_noted, AreMoved, AreHeld, LeadsOn}
use Rattle.lrtable.specs.declared.states.State.{State}
use Rattle.state_table.proofs.CoreSteps.{map_at}
use Rattle.lrtable.proofs.Builders.{goes_none}
use Rattle.lrtable.proofs.Gathered.{IsGathered, gathered_set}
use Rattle.lrtable.proofs.Stepping.{rank_placed, rank_refused}
use Rattle.lrtable.proofs.Revisits.{all_moved, set_is_goto, edge_kept}
use Rattle.lrtable.proofs.revisiting.retake_edge.Goals as goal

pub stays-requires-clause-moved : goal.stays-requires-clause-moved
stays-requires-clause-moved g c =
    let number = g.S.IndexStorage.number in
    let G = c.args.grm.now.grammar in
    let own = core_noted number c.args.was.now c.args.rows.now in
    let states = map (value_of number) c.args.builder.now.states.items in
    let e : Edge = record { symbol = sym_of number c.args.edge.0; target = c.to_usize-target.result } in
    let leads : LeadsOn G own states c.args.builder.now.from e = subst (λ t. LeadsOn G own states c.args.builder.now.from (record { symbol = sym_of number c.args.edge.0; target = t })) (sym c.to_usize-target.ensures.value) c.requires.leads in
    let led = (state_at states e.target).core in
    subst (λ (l : List (State g.row.S.Denot)). AreMoved G own (state_at (map (value_of number) l) e.target).core.items) (sym c.as_slice.ensures.value)
    (all_moved G own e.symbol led (c.requires.states.cores e.target leads.target) leads.items)

pub stays-requires-clause-buckets : goal.stays-requires-clause-buckets
stays-requires-clause-buckets g c =
    let number = g.S.IndexStorage.number in
    subst₂ (λ (s : List (State g.row.S.Denot)) l. AreBuckets (map (value_of number) s) (lists_of l)) (sym c.as_slice.ensures.value) (sym c.as_slice-2.ensures.value) c.requires.builder.buckets

pub returns-then-stays-clause-handled : goal.returns-then-stays-clause-handled
returns-then-stays-clause-handled g c = λ before core h.
    let number = g.S.IndexStorage.number in
    let G = c.args.grm.now.grammar in
    let own = core_noted number c.args.was.now c.args.rows.now in
    let states = map (value_of number) c.args.builder.now.states.items in
    let n = length-map c.args.builder.now.states.items (value_of number) in
    let low = c.requires.builder.from in
    let e : Edge = record { symbol = sym_of number c.args.edge.0; target = c.to_usize-target.result } in
    let leads : LeadsOn G own states c.args.builder.now.from e = subst (λ t. LeadsOn G own states c.args.builder.now.from (record { symbol = sym_of number c.args.edge.0; target = t })) (sym c.to_usize-target.ensures.value) c.requires.leads in
    let held = subst (λ (l : List (State g.row.S.Denot)). AreHeld G own (state_at (map (value_of number) l) e.target).core.items (length (state_at (map (value_of number) l) e.target).core.items) (state_at (map (value_of number) l) e.target).core.rows) c.as_slice.ensures.value (c.stays.ensures.held c.if-stays.true) in
    let alone = subst (λ (l : List (State g.row.S.Denot)). (j : ℕ) → j < e.target → (state_at (map (value_of number) l) j).core.items ≡ (state_at (map (value_of number) l) e.target).core.items → ⊥) c.as_slice.ensures.value (c.stays.ensures.alone c.if-stays.true) in
    edge_kept G before c.args.builder.now.from own core states c.requires.states (omega (arith, n, low)) e leads held alone h

pub goto_of_items-requires-clause-moved : goal.goto_of_items-requires-clause-moved
goto_of_items-requires-clause-moved g c =
    let number = g.S.IndexStorage.number in
    let G = c.args.grm.now.grammar in
    let own = core_noted number c.args.was.now c.args.rows.now in
    let states = map (value_of number) c.args.builder.now.states.items in
    let n = length-map c.args.builder.now.states.items (value_of number) in
    let e : Edge = record { symbol = sym_of number c.args.edge.0; target = c.to_usize-target.result } in
    let leads : LeadsOn G own states c.args.builder.now.from e = subst (λ t. LeadsOn G own states c.args.builder.now.from (record { symbol = sym_of number c.args.edge.0; target = t })) (sym c.to_usize-target.ensures.value) c.requires.leads in
    let led = (state_at states e.target).core in
    let good = c.requires.states.cores e.target leads.target in
    let at = map_at (value_of number) c.args.builder.now.states.items e.target c.index.result.now no_state (let t = leads.target in omega (arith, t, n)) c.index.ensures in
    let led_items = ap (items_of number) c.as_slice-items.ensures.value ∙ sym (ap (λ (v : StateValue). v.core.items) at) in
    subst (AreMoved G own) (sym led_items) (all_moved G own e.symbol led good leads.items)

pub returns-then-stays-clause-goes : goal.returns-then-stays-clause-goes
returns-then-stays-clause-goes g c = goes_none g.S.IndexStorage.number c.args.builder.now

pub place-requires : goal.place-requires
place-requires g c =
    let number = g.S.IndexStorage.number in
    let G = c.args.grm.now.grammar in
    let own = core_noted number c.args.was.now c.args.rows.now in
    let states = map (value_of number) c.args.builder.now.states.items in
    let n = length-map c.args.builder.now.states.items (value_of number) in
    let e : Edge = record { symbol = sym_of number c.args.edge.0; target = c.to_usize-target.result } in
    let leads : LeadsOn G own states c.args.builder.now.from e = subst (λ t. LeadsOn G own states c.args.builder.now.from (record { symbol = sym_of number c.args.edge.0; target = t })) (sym c.to_usize-target.ensures.value) c.requires.leads in
    let led = (state_at states e.target).core in
    let good = c.requires.states.cores e.target leads.target in
    let given = core_of_moved number c.args.rows.now c.as_slice-3.result.now in
    let made : IsGathered G own led given = gathered_set number G own c.args.rows.now c.args.builder.now.states.items e.target c.index.result.now c.as_slice-items.result.now c.in_ok-set.set.items c.as_slice-3.result.now (let t = leads.target in omega (arith, t, n)) c.index.ensures
    c.as_slice-items.ensures.value c.in_ok-set.ensures.items c.in_ok-set.ensures.rows c.as_slice-3.ensures.value good in
    let some = leads.some in
    let count = ap (λ (i : List Item). length i) made.same in
    let k = length-map c.as_slice-3.result.now (moved_item number) in
    record {
      builder = c.requires.builder;
      states = (G.tokens, c.requires.states, made.core, c.start_prod.ensures.well_formed.end_token);
      some = omega (arith, count, k, some);
    }

pub returns-in_err-place-clause-many : goal.returns-in_err-place-clause-many
returns-in_err-place-clause-many g c = λ err before next core h.
    let number = g.S.IndexStorage.number in
    let G = c.args.grm.now.grammar in
    let own = core_noted number c.args.was.now c.args.rows.now in
    let states = map (value_of number) c.args.builder.now.states.items in
    let n = length-map c.args.builder.now.states.items (value_of number) in
    let e : Edge = record { symbol = sym_of number c.args.edge.0; target = c.to_usize-target.result } in
    let leads : LeadsOn G own states c.args.builder.now.from e = subst (λ t. LeadsOn G own states c.args.builder.now.from (record { symbol = sym_of number c.args.edge.0; target = t })) (sym c.to_usize-target.ensures.value) c.requires.leads in
    let led = (state_at states e.target).core in
    let good = c.requires.states.cores e.target leads.target in
    let given = core_of_moved number c.args.rows.now c.as_slice-3.result.now in
    let made : IsGathered G own led given = gathered_set number G own c.args.rows.now c.args.builder.now.states.items e.target c.index.result.now c.as_slice-items.result.now c.in_ok-set.set.items c.as_slice-3.result.now (let t = leads.target in omega (arith, t, n)) c.index.ensures
    c.as_slice-items.ensures.value c.in_ok-set.ensures.items c.in_ok-set.ensures.rows c.as_slice-3.ensures.value good in
    let low = c.requires.builder.from in
    let lt : c.args.builder.now.from < length states = omega (arith, n, low) in
    let some = subst (λ (l : List Item). 0 < length l) (sym made.same) leads.some in
    let is = set_is_goto G before c.args.builder.now.from own core states c.requires.states lt e leads given made.same made.behind in
    let full = c.place.ensures.full (search rules) in
    let most = full.1 in
    rank_refused G before c.args.builder.now.from (rank G e.symbol) e.symbol leads.range refl given is states h g.S.IndexStorage.MAX next made.core some full.0 (omega (arith, n, most))

pub returns-clause-states : goal.returns-clause-states
returns-clause-states g c =
    let number = g.S.IndexStorage.number in
    let G = c.args.grm.now.grammar in
    let own = core_noted number c.args.was.now c.args.rows.now in
    let states = map (value_of number) c.args.builder.now.states.items in
    let n = length-map c.args.builder.now.states.items (value_of number) in
    let e : Edge = record { symbol = sym_of number c.args.edge.0; target = c.to_usize-target.result } in
    let leads : LeadsOn G own states c.args.builder.now.from e = subst (λ t. LeadsOn G own states c.args.builder.now.from (record { symbol = sym_of number c.args.edge.0; target = t })) (sym c.to_usize-target.ensures.value) c.requires.leads in
    let led = (state_at states e.target).core in
    let good = c.requires.states.cores e.target leads.target in
    let given = core_of_moved number c.args.rows.now c.as_slice-3.result.now in
    let made : IsGathered G own led given = gathered_set number G own c.args.rows.now c.args.builder.now.states.items e.target c.index.result.now c.as_slice-items.result.now c.in_ok-set.set.items c.as_slice-3.result.now (let t = leads.target in omega (arith, t, n)) c.index.ensures
    c.as_slice-items.ensures.value c.in_ok-set.ensures.items c.in_ok-set.ensures.rows c.as_slice-3.ensures.value good in
    c.in_ok-place.ensures.placed.states_stay G.tokens c.requires.states made.core

pub returns-clause-items : goal.returns-clause-items
returns-clause-items g c = λ k lt. c.in_ok-place.ensures.placed.items k (let n = length-map c.args.builder.now.states.items (value_of g.S.IndexStorage.number) in omega (arith, lt, n))

pub returns-clause-handled : goal.returns-clause-handled
returns-clause-handled g c = λ before core h.
    let number = g.S.IndexStorage.number in
    let G = c.args.grm.now.grammar in
    let own = core_noted number c.args.was.now c.args.rows.now in
    let states = map (value_of number) c.args.builder.now.states.items in
    let n = length-map c.args.builder.now.states.items (value_of number) in
    let e : Edge = record { symbol = sym_of number c.args.edge.0; target = c.to_usize-target.result } in
    let leads : LeadsOn G own states c.args.builder.now.from e = subst (λ t. LeadsOn G own states c.args.builder.now.from (record { symbol = sym_of number c.args.edge.0; target = t })) (sym c.to_usize-target.ensures.value) c.requires.leads in
    let led = (state_at states e.target).core in
    let good = c.requires.states.cores e.target leads.target in
    let given = core_of_moved number c.args.rows.now c.as_slice-3.result.now in
    let made : IsGathered G own led given = gathered_set number G own c.args.rows.now c.args.builder.now.states.items e.target c.index.result.now c.as_slice-items.result.now c.in_ok-set.set.items c.as_slice-3.result.now (let t = leads.target in omega (arith, t, n)) c.index.ensures
    c.as_slice-items.ensures.value c.in_ok-set.ensures.items c.in_ok-set.ensures.rows c.as_slice-3.ensures.value good in
    let low = c.requires.builder.from in
    let lt : c.args.builder.now.from < length states = omega (arith, n, low) in
    let some = subst (λ (l : List Item). 0 < length l) (sym made.same) leads.some in
    let is = set_is_goto G before c.args.builder.now.from own core states c.requires.states lt e leads given made.same made.behind in
    rank_placed G before c.args.builder.now.from (rank G e.symbol) e.symbol leads.range refl given is states h (map (value_of number) c.place.new.builder.states.items) made.core some c.in_ok-place.ensures.placed
