use Rattle.std.proofs.Common.{ℕ, ◌+◌, ◌*◌, ◌<◌, ◌^◌, List, length, sym, ◌∙◌, subst, arith}
use Rattle.std.specs.declared.alloc.Global.{Global}
use Rattle.std.specs.declared.vec.Vec.{Vec}
use Rattle.std.proofs.lemmas.List.{length-map}
use Rattle.lr_theory.specs.Automaton.{Action}
use Rattle.lr_theory.specs.Sizes.{cell_count}
use Rattle.state_table.specs.declared.stidx.StIdx.{StIdx}
use Rattle.state_table.specs.declared.cells.Action.{Action as TableAction}
use Rattle.state_table.specs.CellViews.{cells_of, targets_of, precedences_of}
use Rattle.state_table.specs.GraphParts.{parts_in, targets_in}
use Rattle.state_table.specs.Graphs.{graph_of}
use Rattle.state_table.specs.TableRows.{AreRowsOf, IsTableBy, rows_of}
use Rattle.state_table.proofs.CanonicalTables.{conflicts_in_range}
use Rattle.state_table.proofs.GraphParts.{target_row}
use Rattle.state_table.proofs.GraphSteps.{no_room}
use Rattle.state_table.proofs.GraphTables.{none_told, table_of}
use Rattle.state_table.proofs.TableSteps.{actions_length, gotos_length, rows_are_cells, rows_are_targets}
use Rattle.state_table.proofs.statetable.StateTable.new.Goals as goal

pub returns-then-not-has_room-clause-refused : goal.returns-then-not-has_room-clause-refused
returns-then-not-has_room-clause-refused g c =
    let G = c.args.grm.now.grammar in
    (none_told G c.args.sg.now c.requires c.start_prod.ensures.well_formed c.in_ok-rows.ensures.quiet, no_room c.has_room.result (cell_count G (graph_of c.args.sg.now)) (2 ^ 64) c.has_room.ensures c.if-not-has_room.true)

pub of_rows-requires-clause-actions : goal.of_rows-requires-clause-actions
of_rows-requires-clause-actions g c =
    let number = g.S.IndexStorage.number in
    let G = c.args.grm.now.grammar in
    let v = c.args.sg.now in
    let r = c.in_ok-rows.rows in
    let h : Vec (ℕ × TableAction g.row.S.Denot) Global → List (ℕ × Action) = λ row. cells_of number row.items in
    sym (length-map r.actions.items h) ∙ (actions_length G (precedences_of c.args.grm.now) (parts_in G v) (targets_in v) (length v.cores) (rows_of number r) c.in_ok-rows.ensures.rows ∙ sym c.all_states_len.ensures.value)

pub of_rows-requires-clause-gotos : goal.of_rows-requires-clause-gotos
of_rows-requires-clause-gotos g c =
    let number = g.S.IndexStorage.number in
    let G = c.args.grm.now.grammar in
    let v = c.args.sg.now in
    let r = c.in_ok-rows.rows in
    let k : Vec (ℕ × StIdx g.row.S.Denot) Global → List (ℕ × ℕ) = λ row. targets_of number row.items in
    sym (length-map r.gotos.items k) ∙ (gotos_length G (precedences_of c.args.grm.now) (parts_in G v) (targets_in v) (length v.cores) (rows_of number r) c.in_ok-rows.ensures.rows ∙ sym c.all_states_len.ensures.value)

pub of_rows-requires-clause-cells : goal.of_rows-requires-clause-cells
of_rows-requires-clause-cells g c = λ s lt.
    let number = g.S.IndexStorage.number in
    let G = c.args.grm.now.grammar in
    let v = c.args.sg.now in
    let n = c.all_states_len.ensures.value in
    rows_are_cells G (precedences_of c.args.grm.now) (parts_in G v) (targets_in v) (length v.cores) (rows_of number c.in_ok-rows.rows) c.in_ok-rows.ensures.rows s (omega (arith, lt, n))

pub of_rows-requires-clause-targets : goal.of_rows-requires-clause-targets
of_rows-requires-clause-targets g c = λ s lt.
    let number = g.S.IndexStorage.number in
    let G = c.args.grm.now.grammar in
    let v = c.args.sg.now in
    let n = c.all_states_len.ensures.value in
    rows_are_targets G (precedences_of c.args.grm.now) (parts_in G v) (targets_in v) (length v.cores) (rows_of number c.in_ok-rows.rows) c.in_ok-rows.ensures.rows (λ k l. target_row G v c.requires c.start_prod.ensures.well_formed k) s (omega (arith, lt, n))

pub of_rows-requires-clause-room : goal.of_rows-requires-clause-room
of_rows-requires-clause-room g c =
    let G = c.args.grm.now.grammar in
    let room : cell_count G (graph_of c.args.sg.now) < 2 ^ 64 = c.has_room.ensures.0 c.if-not-has_room.false in
    subst (λ (n : ℕ). n * (G.tokens + G.rules) < 2 ^ 64) (sym c.all_states_len.ensures.value) room

pub returns-clause-table : goal.returns-clause-table
returns-clause-table g c =
    let number = g.S.IndexStorage.number in
    let G = c.args.grm.now.grammar in
    let v = c.args.sg.now in
    let precedences = precedences_of c.args.grm.now in
    let e = c.of_rows.ensures in
    let n = c.all_states_len.ensures.value in
    let are = subst (λ (k : ℕ). AreRowsOf G precedences (parts_in G v) (targets_in v) k (rows_of number c.in_ok-rows.rows)) (sym n) c.in_ok-rows.ensures.rows in
    let by = subst (λ (k : ℕ). IsTableBy G precedences (parts_in G v) (targets_in v) k c.of_rows.result) n (e.table (parts_in G v) (targets_in v) are) in
    table_of c.args.grm.now v c.of_rows.result c.start_prod.ensures.well_formed c.requires by
    (record { states = e.states ∙ n; tokens = e.tokens; rules = e.rules; productions = e.productions; start = e.start ∙ c.start_state.ensures.value })
    e.rows c.in_ok-rows.ensures.quiet (c.has_room.ensures.0 c.if-not-has_room.false)

pub returns-clause-listed : goal.returns-clause-listed
returns-clause-listed g c =
    let number = g.S.IndexStorage.number in
    let G = c.args.grm.now.grammar in
    let v = c.args.sg.now in
    let precedences = precedences_of c.args.grm.now in
    let e = c.of_rows.ensures in
    let n = c.all_states_len.ensures.value in
    let are = subst (λ (k : ℕ). AreRowsOf G precedences (parts_in G v) (targets_in v) k (rows_of number c.in_ok-rows.rows)) (sym n) c.in_ok-rows.ensures.rows in
    let by = subst (λ (k : ℕ). IsTableBy G precedences (parts_in G v) (targets_in v) k c.of_rows.result) n (e.table (parts_in G v) (targets_in v) are) in
    conflicts_in_range c.args.grm.now v c.of_rows.result c.start_prod.ensures.well_formed
    (table_of c.args.grm.now v c.of_rows.result c.start_prod.ensures.well_formed c.requires by
    (record { states = e.states ∙ n; tokens = e.tokens; rules = e.rules; productions = e.productions; start = e.start ∙ c.start_state.ensures.value })
    e.rows c.in_ok-rows.ensures.quiet (c.has_room.ensures.0 c.if-not-has_room.false))
