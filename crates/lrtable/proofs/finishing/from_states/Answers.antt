use Rattle.std.proofs.Common.{ℕ, ◌<◌, ◌≤◌, List, [], length, get_or, map, refl, sym, ap, ◌∙◌, subst, arith}
use Rattle.std.proofs.lemmas.List.{length-map}
use Rattle.lr_theory.specs.Itemset.{FitsGrammar}
use Rattle.lrtable.specs.FinalStates.{AreClosures, edge_pairs_of}
use Rattle.state_table.specs.Graphs.{GraphValue, IsGraphOf}
use Rattle.state_table.specs.GraphViews.{closures_seen, graph_seen}
use Rattle.state_table.specs.ItemRows.{map_of, FitsCore}
use Rattle.lrtable.specs.States.{StateValue, state_at}
use Rattle.lrtable.specs.StateViews.{value_of}
use Rattle.lrtable.specs.declared.states.State.{State}
use Rattle.lrtable.proofs.FinalStates.{final_fits, final_graph, final_value}
use Rattle.lrtable.proofs.finishing.from_states.Goals as goal

pub take_parts-requires : goal.take_parts-requires
take_parts-requires g c =
    let n = length-map c.args.states.now.items (value_of g.S.IndexStorage.number) in
    (c.args.grm.now.grammar.tokens, λ s lt. (c.requires.ready.cores s (omega (arith, lt, n))).good)

pub closed_sets-requires-clause-fit : goal.closed_sets-requires-clause-fit
closed_sets-requires-clause-fit g c =
    let number = g.S.IndexStorage.number in
    let n = length-map c.args.states.now.items (value_of number) in
    subst (λ (l : List (State g.row.S.Denot)). (s : ℕ) → s < length l → FitsCore c.args.grm.now.grammar (state_at (map (value_of number) l) s).core) (sym c.as_slice.ensures.value) (λ s lt. c.requires.ready.cores s (omega (arith, lt, n)))

pub closed_sets-requires-clause-dots : goal.closed_sets-requires-clause-dots
closed_sets-requires-clause-dots g c =
    let number = g.S.IndexStorage.number in
    let n = length-map c.args.states.now.items (value_of number) in
    subst (λ (l : List (State g.row.S.Denot)). (s : ℕ) → s < length l → FitsGrammar c.args.grm.now.grammar (map_of (state_at (map (value_of number) l) s).core)) (sym c.as_slice.ensures.value)
    (λ s lt. final_fits c.args.grm.now.grammar c.start_prod.ensures.well_formed (map (value_of number) c.args.states.now.items) c.requires.ready s (omega (arith, lt, n)))

pub of_lists-requires : goal.of_lists-requires
of_lists-requires g c =
    let number = g.S.IndexStorage.number in
    let n = length-map c.args.states.now.items (value_of number) in
    let few = c.requires.few in
    final_value c.args.grm.now.grammar c.start_prod.ensures.well_formed g.S.IndexStorage.MAX (map (value_of number) c.args.states.now.items) (graph_seen number c.in_ok-cores.cores.items c.in_ok-closed.closed.items c.in_ok-cores.edges.items) (omega (arith, n, few)) c.requires.ready c.in_ok-cores.ensures.cores refl c.in_ok-cores.ensures.edges
    (subst (λ l. AreClosures c.args.grm.now.grammar l (closures_seen l c.in_ok-closed.closed.items)) (sym c.in_ok-cores.ensures.cores) (subst (λ (l : List (State g.row.S.Denot)). AreClosures c.args.grm.now.grammar (map (λ (s : StateValue). map_of s.core) (map (value_of number) l)) (closures_seen (map (λ (s : StateValue). map_of s.core) (map (value_of number) l)) c.in_ok-closed.closed.items)) c.as_slice.ensures.value c.in_ok-closed.ensures))

pub returns-clause-graph : goal.returns-clause-graph
returns-clause-graph g c =
    let number = g.S.IndexStorage.number in
    let G = c.args.grm.now.grammar in
    subst (IsGraphOf G) (sym c.of_lists.ensures)
    (final_graph G c.start_prod.ensures.well_formed (map (value_of number) c.args.states.now.items) (graph_seen number c.in_ok-cores.cores.items c.in_ok-closed.closed.items c.in_ok-cores.edges.items) c.requires.ready c.in_ok-cores.ensures.cores refl c.in_ok-cores.ensures.edges
    (subst (λ l. AreClosures G l (closures_seen l c.in_ok-closed.closed.items)) (sym c.in_ok-cores.ensures.cores) (subst (λ (l : List (State g.row.S.Denot)). AreClosures c.args.grm.now.grammar (map (λ (s : StateValue). map_of s.core) (map (value_of number) l)) (closures_seen (map (λ (s : StateValue). map_of s.core) (map (value_of number) l)) c.in_ok-closed.closed.items)) c.as_slice.ensures.value c.in_ok-closed.ensures)))

pub returns-clause-edges : goal.returns-clause-edges
returns-clause-edges g c =
    let number = g.S.IndexStorage.number in
    ap (λ (v : GraphValue). v.edges) c.of_lists.ensures ∙ c.in_ok-cores.ensures.edges
