use Rattle.std.proofs.Common.{length, map, refl, sym, ap, ◌∙◌, subst}
use Rattle.std.specs.String.{string_bytes}
use Rattle.lr_theory.specs.Itemset.{FitsGrammar}
use Rattle.state_table.specs.GraphTexts.{number_front, sets_of}
use Rattle.state_table.specs.GraphViews.{edges_seen}
use Rattle.state_table.proofs.GraphTexts.{edges_in_range, shown_fits, state_put}
use Rattle.state_table.proofs.graph_texts.push_state.Goals as goal

pub lines_of-requires-clause-fits : goal.lines_of-requires-clause-fits
lines_of-requires-clause-fits g c =
    let G = c.args.shown.now.grm.now.grammar in
    subst (FitsGrammar G) (sym c.shown_set-set.ensures) (shown_fits G c.start_prod-start.ensures.well_formed c.args.shown.now.graph.now c.requires.graph (g.S.IndexStorage.number c.args.stidx.0) c.requires.state c.args.shown.now.core_states)

pub lines_of-requires-clause-symbols : goal.lines_of-requires-clause-symbols
lines_of-requires-clause-symbols g c =
    let number = g.S.IndexStorage.number in
    edges_in_range c.args.shown.now.grm.now.grammar c.start_prod-start.ensures.well_formed c.args.shown.now.graph.now c.requires.graph (number c.args.stidx.0) c.requires.state (edges_seen number c.edges-edges.result.now) c.edges-edges.ensures

pub returns : goal.returns
returns g c =
    let number = g.S.IndexStorage.number in
    state_put c.args.shown.now.grm.now c.args.shown.now.graph.now (sets_of c.args.shown.now.core_states c.args.shown.now.graph.now) (number c.args.stidx.0) c.to_usize-count.result (length c.args.shown.now.gap.now) c.shown_set-set.result.now (edges_seen number c.edges-edges.result.now) c.as_str.result.now c.args.shown.now.gap.now
    (string_bytes c.args.text.now) (string_bytes c.push_lines.new.text) (map string_bytes c.as_slice.result.now)
    (c.to_usize-count.ensures.value ∙ c.all_states_len-states.ensures.value) c.shown_set-set.ensures c.edges-edges.ensures c.requires.gap refl
    (c.as_str.ensures.value ∙ c.in_ok-front.ensures ∙ ap (number_front (length c.args.shown.now.gap.now)) c.to_usize-number.ensures.value)
    (ap (map string_bytes) c.as_slice.ensures.value ∙ c.in_ok-lines.ensures) c.in_ok-push_lines.ensures
