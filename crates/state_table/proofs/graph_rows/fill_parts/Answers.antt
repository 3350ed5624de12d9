use Rattle.std.proofs.Common.{◌<◌, length, sym, ap, ◌∙◌, subst}
use Rattle.std.specs.Prelude.{All}
use Rattle.table_theory.specs.Cells.{accepts_in}
use Rattle.state_table.specs.GraphParts.{complete_items}
use Rattle.state_table.specs.Meeting.{rows_in}
use Rattle.state_table.specs.Sharing.{entries_in}
use Rattle.state_table.proofs.GraphSteps.{entries_are, productions_fit}
use Rattle.state_table.proofs.graph_rows.fill_parts.Goals as goal

pub fill_complete-requires : goal.fill_complete-requires
fill_complete-requires g c =
    let number = g.S.IndexStorage.number in
    let G = c.args.grm.now.grammar in
    subst (λ l. All (λ e. number e.item.pidx.0 < length G.productions) l) (sym c.as_slice-entries.ensures.value) (productions_fit number c.args.shared.now G c.requires.shared c.requires.fits)

pub returns-clause-reductions : goal.returns-clause-reductions
returns-clause-reductions g c =
    let number = g.S.IndexStorage.number in
    let G = c.args.grm.now.grammar in
    let s = c.args.shared.now in
    let rows = rows_in s.sets.items in
    c.in_ok-fill_complete.ensures.reductions rows ∙ (ap (λ l. complete_items G (entries_in number rows l)) c.as_slice-entries.ensures.value ∙ ap (complete_items G) (sym (entries_are number rows s.entries.items)))

pub returns-clause-accepts : goal.returns-clause-accepts
returns-clause-accepts g c =
    let number = g.S.IndexStorage.number in
    let G = c.args.grm.now.grammar in
    let s = c.args.shared.now in
    let rows = rows_in s.sets.items in
    c.in_ok-fill_complete.ensures.accepts rows ∙ (ap (λ l. accepts_in G (entries_in number rows l)) c.as_slice-entries.ensures.value ∙ ap (accepts_in G) (sym (entries_are number rows s.entries.items)))
