use Rattle.std.proofs.Common.{ℕ, List, map, ap, ◌∙◌}
use Rattle.std.specs.declared.alloc.Global.{Global}
use Rattle.std.specs.declared.vec.Vec.{Vec}
use Rattle.std.proofs.lemmas.List.{map_push}
use Rattle.lr_theory.specs.Automaton.{Action}
use Rattle.state_table.specs.declared.stidx.StIdx.{StIdx}
use Rattle.state_table.specs.declared.cells.Action.{Action as TableAction}
use Rattle.state_table.specs.CellViews.{cells_of, pairs_of, parts_of, precedences_of, shifts_of, targets_of}
use Rattle.state_table.specs.Meeting.{rows_in}
use Rattle.state_table.specs.TableRows.{RowsValue, rows_of}
use Rattle.state_table.specs.TableViews.{action_rows_of, target_rows_of}
use Rattle.state_table.proofs.TableSteps.{state_added}
use Rattle.state_table.proofs.table_rows.TableRows.add_state.Goals as goal

pub returns : goal.returns
returns g c = λ all targets eP eT was.
    let number = g.S.IndexStorage.number in
    let h : Vec (ℕ × TableAction g.row.S.Denot) Global → List (ℕ × Action) = λ row. cells_of number row.items in
    let k : Vec (ℕ × StIdx g.row.S.Denot) Global → List (ℕ × ℕ) = λ row. targets_of number row.items in
    let new : RowsValue = record { actions = action_rows_of number c.push.new.self.items; gotos = target_rows_of number c.push-2.new.self.items; pairs = pairs_of number c.state_row.new.pairs.items; shifts = shifts_of number c.state_row.new.shifts.items } in
    let e = c.in_ok-row.ensures in
    state_added c.args.source.now.grm.now.grammar (precedences_of c.args.source.now.grm.now) all targets (number c.args.source.now.stidx.0) (rows_of number c.args.self.now) new
    (parts_of number (rows_in c.args.source.now.sets.now) c.args.source.now.parts.now) (targets_of number c.args.gotos.items) (cells_of number c.in_ok-row.row.items) eP eT e.row
    (ap (λ l. map h l) c.in_ok-push.ensures.items ∙ map_push h c.args.self.now.actions.items c.in_ok-row.row)
    (ap (λ l. map k l) c.in_ok-push-2.ensures.items ∙ map_push k c.args.self.now.gotos.items c.args.gotos)
    e.pairs e.shifts was
