use Rattle.std.proofs.Common.{ℕ, sym, ap, ◌∙◌, subst}
use Rattle.lr_theory.specs.Itemset.{FitsGrammar}
use Rattle.state_table.specs.CellRows.{PartsValue, FitsParts, IsContested}
use Rattle.state_table.specs.GraphParts.{parts_in, rule_edges, targets_in}
use Rattle.state_table.specs.GraphViews.{edges_seen}
use Rattle.state_table.proofs.GraphParts.{fits_parts}
use Rattle.state_table.proofs.GraphSteps.{closed_fits, parts_are}
use Rattle.state_table.proofs.GraphTables.{told_of_contested}
use Rattle.state_table.proofs.graph_rows.add_row.Goals as goal

pub fill_parts-requires-clause-fits : goal.fill_parts-requires-clause-fits
fill_parts-requires-clause-fits g c =
    let G = c.args.grm.now.grammar in
    subst (FitsGrammar G) (sym (c.shared_sets-shared.ensures.value ∙ c.closed_state.ensures)) (closed_fits G c.args.sg.now c.requires.graph (g.S.IndexStorage.number c.args.stidx.0) c.requires.state)

pub add_state-requires : goal.add_state-requires
add_state-requires g c =
    let number = g.S.IndexStorage.number in
    let G = c.args.grm.now.grammar in
    let s = number c.args.stidx.0 in
    let f = c.in_ok-fill_parts.ensures in
    subst (FitsParts G) (sym (parts_are number G c.args.sg.now s c.shared_sets-shared.result.now c.as_slice-sets.result.now c.fill_parts.new.parts (edges_seen number c.edges-edges.result.now) (c.shared_sets-shared.ensures.value ∙ c.closed_state.ensures) c.as_slice-sets.ensures.value c.edges-edges.ensures f.reductions f.shifts f.accepts))
    (fits_parts G c.args.sg.now c.requires.graph s)

pub returns-in_ok-add_state-in-None-clause-rows : goal.returns-in_ok-add_state-in-None-clause-rows
returns-in_ok-add_state-in-None-clause-rows g c =
    let number = g.S.IndexStorage.number in
    let G = c.args.grm.now.grammar in
    let s = number c.args.stidx.0 in
    let f = c.in_ok-fill_parts.ensures in
    let e = parts_are number G c.args.sg.now s c.shared_sets-shared.result.now c.as_slice-sets.result.now c.fill_parts.new.parts (edges_seen number c.edges-edges.result.now) (c.shared_sets-shared.ensures.value ∙ c.closed_state.ensures) c.as_slice-sets.ensures.value c.edges-edges.ensures f.reductions f.shifts f.accepts in
    c.in_ok-add_state-in-None.ensures (parts_in G c.args.sg.now) (targets_in c.args.sg.now) (sym e) (sym (c.in_ok-gotos-in-None.ensures ∙ ap rule_edges c.edges-edges.ensures))

pub returns-in_ok-add_state-in-None-clause-quiet : goal.returns-in_ok-add_state-in-None-clause-quiet
returns-in_ok-add_state-in-None-clause-quiet g c =
    let number = g.S.IndexStorage.number in
    let G = c.args.grm.now.grammar in
    let s = number c.args.stidx.0 in
    let f = c.in_ok-fill_parts.ensures in
    let e = parts_are number G c.args.sg.now s c.shared_sets-shared.result.now c.as_slice-sets.result.now c.fill_parts.new.parts (edges_seen number c.edges-edges.result.now) (c.shared_sets-shared.ensures.value ∙ c.closed_state.ensures) c.as_slice-sets.ensures.value c.edges-edges.ensures f.reductions f.shifts f.accepts in
    subst (λ (x : PartsValue). (p : ℕ) → IsContested G x p → ⊥) e c.in-None.ensures

pub returns-in-Some-clause-refused : goal.returns-in-Some-clause-refused
returns-in-Some-clause-refused g c =
    let number = g.S.IndexStorage.number in
    let G = c.args.grm.now.grammar in
    let s = number c.args.stidx.0 in
    let f = c.in_ok-fill_parts.ensures in
    let e = parts_are number G c.args.sg.now s c.shared_sets-shared.result.now c.as_slice-sets.result.now c.fill_parts.new.parts (edges_seen number c.edges-edges.result.now) (c.shared_sets-shared.ensures.value ∙ c.closed_state.ensures) c.as_slice-sets.ensures.value c.edges-edges.ensures f.reductions f.shifts f.accepts in
    told_of_contested G c.args.sg.now c.requires.graph c.start_prod.ensures.well_formed s (number c.in-Some.pidx.0) c.requires.state (subst (λ (x : PartsValue). IsContested G x (number c.in-Some.pidx.0)) e c.in-Some.ensures)
