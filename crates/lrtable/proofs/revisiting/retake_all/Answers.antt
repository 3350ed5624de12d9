use Rattle.std.proofs.Common.{◌≡◌, ◌+◌, false, get_or, map, sym, ap, ◌∙◌, subst, arith, rules}
use Rattle.cfg_theory.specs.Grammar.{Sym}
use Rattle.std.proofs.lemmas.List.{length-map}
use Rattle.lr_theory.specs.Building.{Building, same_symbol}
use Rattle.lr_theory.specs.Graph.{core_of}
use Rattle.state_table.specs.ItemRows.{map_of}
use Rattle.lrtable.specs.Handling.{rank, AreHandled, TooManyStand}
use Rattle.lrtable.specs.States.{Edge, edge_of}
use Rattle.lrtable.specs.StateViews.{edge_of_pair, edges_of, value_of}
use Rattle.lrtable.specs.Stepping.{IsNextTaken}
use Rattle.lrtable.specs.Revisits.{core_noted, LeadsOn}
use Rattle.state_table.proofs.CoreSteps.{map_at}
use Rattle.lrtable.proofs.Builders.{goes_none, goes_then}
use Rattle.lrtable.proofs.Revisits.{no_edge, through_none, through_here, through_next, through_all}
use Rattle.lrtable.proofs.revisiting.retake_all.Goals as goal

pub edges-init : goal.edges-init
edges-init g c =
    let number = g.S.IndexStorage.number in
    let G = c.args.grm.now.grammar in
    let n = length-map c.args.was.now.edges.items (edge_of_pair number) in (
      0,
      record {
        through = through_none G (core_noted number c.args.was.now c.args.rows.now) c.args.builder.now.from (edges_of number c.args.was.now.edges.items) (map (value_of number) c.args.builder.now.states.items) c.requires.ascends c.requires.whole c.requires.states
            (λ j d lt. c.requires.leads j d (omega (arith, lt, n)));
        builder = c.requires.builder;
        goes = goes_none number c.args.builder.now;
      },
    )

pub retake_edge-requires : goal.retake_edge-requires
retake_edge-requires g c =
    let number = g.S.IndexStorage.number in
    let G = c.args.grm.now.grammar in
    let own = core_noted number c.args.was.now c.args.rows.now in
    let states = map (value_of number) c.edges.builder.states.items in
    let v = c.edges.invariant.1 in
    let n = length-map c.args.was.now.edges.items (edge_of_pair number) in
    let test = c.edges-test.true in
    record {
      noted = c.requires.noted;
      builder = record { from = v.builder.from; cursor = v.builder.cursor; buckets = v.builder.buckets; few = v.builder.few };
      states = v.through.states;
      leads = subst (λ s. LeadsOn G own states s (edge_of_pair number c.index-edge.result.now)) (sym v.goes.from)
          (subst (λ (x : Edge). LeadsOn G own states c.args.builder.now.from x) (map_at (edge_of_pair number) c.args.was.now.edges.items c.edges.near c.index-edge.result.now no_edge (omega (arith, test)) c.index-edge.ensures)
          (v.through.leads c.edges.near no_edge (omega arith) (omega (arith, test, n))));
    }

pub edges-preserved : goal.edges-preserved
edges-preserved g c =
    let number = g.S.IndexStorage.number in
    let G = c.args.grm.now.grammar in
    let own = core_noted number c.args.was.now c.args.rows.now in
    let es = edges_of number c.args.was.now.edges.items in
    let n = c.edges.invariant.0 in
    let v = c.edges.invariant.1 in
    let e = c.in_ok-retake_edge.ensures in
    let from = c.args.builder.now.from in
    let f = v.goes.from in
    let states = map (value_of number) c.edges.builder.states.items in
    let new = map (value_of number) c.retake_edge.new.builder.states.items in
    let taken = edge_of_pair number c.index-edge.result.now in
    let long = length-map c.args.was.now.edges.items (edge_of_pair number) in
    let a = length-map c.edges.builder.states.items (value_of number) in
    let b = length-map c.retake_edge.new.builder.states.items (value_of number) in
    let test = c.edges-test.true in
    let at : (d : Edge) → get_or es c.edges.near d ≡ taken = λ d. map_at (edge_of_pair number) c.args.was.now.edges.items c.edges.near c.index-edge.result.now d (omega (arith, test)) c.index-edge.ensures in
    let stay : (Y : Sym) → same_symbol Y taken.symbol ≡ false → edge_of new from Y ≡ edge_of states from Y = subst (λ s. (Y : Sym) → same_symbol Y taken.symbol ≡ false → edge_of new s Y ≡ edge_of states s Y) f e.edges in
    let handled : (before : Building) → core_of before.graph from ≡ map_of own → AreHandled G before from (rank G taken.symbol) states → AreHandled G before from (rank G taken.symbol + 1) new =
    subst (λ s. (before : Building) → core_of before.graph s ≡ map_of own → AreHandled G before s (rank G taken.symbol) states → AreHandled G before s (rank G taken.symbol + 1) new) f e.handled in
    let goes = e.goes in
    let more = goes.more in (
      rank G (get_or es c.edges.near no_edge).symbol + 1,
      record {
        through = through_next G own from es (map (value_of number) c.args.builder.now.states.items) c.requires.ascends c.requires.whole c.edges.near n states v.through (omega (arith, test, long)) no_edge
            new e.states (omega (arith, a, b, more)) (λ k lt. e.items k (omega (arith, lt, a)))
            (λ Y d ne. stay Y (ap (λ (x : Edge). same_symbol Y x.symbol) (sym (at d)) ∙ ne))
            (λ before d core h. subst (λ (x : Edge). AreHandled G before from (rank G x.symbol + 1) new) (sym (at d))
            (handled before core (subst (λ (x : Edge). AreHandled G before from (rank G x.symbol) states) (at d) h)));
        builder = e.builder;
        goes = goes_then number c.args.builder.now c.edges.builder c.retake_edge.new.builder v.goes (record { from = goes.from; more = goes.more; less = goes.less; quiet = goes.quiet });
      },
    )

pub returns-in_err-retake_edge-clause-many : goal.returns-in_err-retake_edge-clause-many
returns-in_err-retake_edge-clause-many g c = λ e before next core h.
    let number = g.S.IndexStorage.number in
    let G = c.args.grm.now.grammar in
    let own = core_noted number c.args.was.now c.args.rows.now in
    let es = edges_of number c.args.was.now.edges.items in
    let n = c.edges.invariant.0 in
    let v = c.edges.invariant.1 in
    let from = c.args.builder.now.from in
    let states = map (value_of number) c.edges.builder.states.items in
    let taken = edge_of_pair number c.index-edge.result.now in
    let long = length-map c.args.was.now.edges.items (edge_of_pair number) in
    let test = c.edges-test.true in
    let at = map_at (edge_of_pair number) c.args.was.now.edges.items c.edges.near c.index-edge.result.now no_edge (omega (arith, test)) c.index-edge.ensures in
    let many : (b : Building) → IsNextTaken G b from → core_of b.graph from ≡ map_of own → AreHandled G b from (rank G taken.symbol) states → TooManyStand G g.S.IndexStorage.MAX =
    subst (λ s. (b : Building) → IsNextTaken G b s → core_of b.graph s ≡ map_of own → AreHandled G b s (rank G taken.symbol) states → TooManyStand G g.S.IndexStorage.MAX) v.goes.from (c.retake_edge.ensures.many (search rules)) in
    many before next core
    (subst (λ (x : Edge). AreHandled G before from (rank G x.symbol) states) at
    (through_here G own from es (map (value_of number) c.args.builder.now.states.items) c.requires.ascends c.requires.whole c.edges.near n states v.through (omega (arith, test, long)) no_edge before core h))

pub returns-clause-handled : goal.returns-clause-handled
returns-clause-handled g c = λ before core h.
    let number = g.S.IndexStorage.number in
    let G = c.args.grm.now.grammar in
    let own = core_noted number c.args.was.now c.args.rows.now in
    let es = edges_of number c.args.was.now.edges.items in
    let n = c.edges.invariant.0 in
    let v = c.edges.invariant.1 in
    let long = length-map c.args.was.now.edges.items (edge_of_pair number) in
    let done = c.edges-test.false in
    through_all G own c.args.builder.now.from es (map (value_of number) c.args.builder.now.states.items) c.requires.ascends c.requires.whole c.edges.near n (map (value_of number) c.edges.builder.states.items) v.through (omega (arith, done, long)) before core h
