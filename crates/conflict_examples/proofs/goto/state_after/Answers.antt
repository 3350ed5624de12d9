use Rattle.std.proofs.Common.{sym, ap, ◌∙◌}
use Rattle.std.specs.Prelude.{option_map}
use Rattle.lr_theory.specs.Graph.{Leads}
use Rattle.state_table.specs.Graphs.{graph_of}
use Rattle.cfg_numbered.specs.Symbols.{sym_of}
use Rattle.conflict_examples.proofs.SymbolLists.{leads_more, leads_all}
use Rattle.conflict_examples.proofs.goto.state_after.Goals as goal

pub symbols-init : goal.symbols-init
symbols-init g c = Leads.none c.start_state-state.ensures.value

pub symbols-preserved : goal.symbols-preserved
symbols-preserved g c =
    let number = g.S.IndexStorage.number in
    leads_more (sym_of number) (graph_of c.args.graph.now) c.args.symbols.now c.symbols.k c.index-symbols-k.result (number c.symbols.state.0) (number c.in-Some.next.0) c.symbols-test.true c.index-symbols-k.is (sym c.edge.ensures ∙ ap (option_map (λ s. number s.0)) c.in-Some.is) c.symbols.invariant

pub returns : goal.returns
returns g c =
    let number = g.S.IndexStorage.number in
    leads_all (sym_of number) (graph_of c.args.graph.now) c.args.symbols.now c.symbols.k (number c.symbols.state.0) c.symbols-test.false c.symbols.invariant
