use Rattle.std.proofs.Common.{refl, ap, ◌∙◌, ◌||◌, drop, ◌+◌, arith}
use Rattle.table_theory.specs.Cells.{accepts_in}
use Rattle.state_table.specs.CellViews.{reductions_of}
use Rattle.state_table.specs.GraphParts.{complete_items}
use Rattle.state_table.specs.Sharing.{entry_in, entries_in}
use Rattle.state_table.proofs.GraphSteps.{complete_append, end_step, ended, one_more}
use Rattle.state_table.proofs.graph_rows.fill_complete.Goals as goal

pub entries-init : goal.entries-init
entries-init g c = record {
  reductions = λ rows. ap (λ l. reductions_of g.S.IndexStorage.number rows l) c.clear.ensures.items;
  accepts = λ rows. refl;
}

pub entries-preserved : goal.entries-preserved
entries-preserved g c =
    let number = g.S.IndexStorage.number in
    let G = c.args.grm.now.grammar in
    let es = c.args.entries.now in
    let i = c.entries.i in
    let x = c.index-entries-i.result in
    let lt = c.entries-test.true in
    let at = c.index-entries-i.is in
    record {
      reductions = λ rows. one_more (entry_in number rows) (complete_items G) (complete_append G) es i x (reductions_of number rows c.entries.reductions.items) (reductions_of number rows c.keep_complete.new.reductions.items) lt at (c.entries.invariant.reductions rows) (c.in_ok-keep_complete.ensures.reductions rows);
      accepts = λ rows. ap (λ b. b || accepts_in G (entries_in number rows (drop (i + 1) es))) (c.in_ok-keep_complete.ensures.accepts rows) ∙ end_step number G rows es i x lt at c.entries.accepts (accepts_in G (entries_in number rows es)) (c.entries.invariant.accepts rows);
    }

pub returns-clause-accepts : goal.returns-clause-accepts
returns-clause-accepts g c = λ rows. ended g.S.IndexStorage.number c.args.grm.now.grammar rows c.args.entries.now c.entries.i (let done = c.entries-test.false in omega (arith, done)) c.entries.accepts (accepts_in c.args.grm.now.grammar (entries_in g.S.IndexStorage.number rows c.args.entries.now)) (c.entries.invariant.accepts rows)
