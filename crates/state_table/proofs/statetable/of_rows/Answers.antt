use Rattle.std.proofs.Common.{ℕ, ◌+◌, ◌*◌, ◌<◌, ◌^◌, List, [], get_or, refl, sym, ◌∙◌, subst}
use Rattle.std.specs.declared.alloc.Global.{Global}
use Rattle.std.specs.declared.vec.Vec.{Vec}
use Rattle.std.proofs.lemmas.List.{length-map}
use Rattle.lr_theory.specs.Automaton.{Action}
use Rattle.state_table.specs.declared.stidx.StIdx.{StIdx}
use Rattle.state_table.specs.declared.cells.Action.{Action as TableAction}
use Rattle.state_table.specs.CellViews.{cells_of, targets_of, precedences_of}
use Rattle.state_table.specs.SparseRows.{IsCellRow, IsTargetRow}
use Rattle.state_table.specs.SpreadRows.{AreSpread}
use Rattle.state_table.specs.TableRows.{rows_of}
use Rattle.state_table.specs.TableViews.{sparse_of}
use Rattle.state_table.proofs.SpreadSteps.{spread_none}
use Rattle.state_table.proofs.TableSteps.{full_rows, table_by}
use Rattle.state_table.proofs.statetable.of_rows.Goals as goal

pub invariant_of-result : goal.invariant_of-result
invariant_of-result g c =
    let number = g.S.IndexStorage.number in
    let rows = rows_of number c.args.rows in
    let h : Vec (ℕ × TableAction g.row.S.Denot) Global → List (ℕ × Action) = λ row. cells_of number row.items in
    let k : Vec (ℕ × StIdx g.row.S.Denot) Global → List (ℕ × ℕ) = λ row. targets_of number row.items in
    let n = number c.args.states.0 in (
      record {
        start = c.requires.start;
        actions = length-map c.args.rows.actions.items h ∙ c.requires.actions;
        gotos = length-map c.args.rows.gotos.items k ∙ c.requires.gotos;
        rows = λ s lt. subst (λ (m : ℕ). IsCellRow m (get_or rows.actions s [])) (sym c.tokens_len.ensures) (c.requires.cells s lt);
        targets = λ s lt. subst (λ (m : ℕ). IsTargetRow m (get_or rows.gotos s [])) (sym c.rules_len.ensures) (c.requires.targets s lt);
        room = subst (λ (m : ℕ). n * (m + number c.rules_len.result.0) < 2 ^ 64) (sym c.tokens_len.ensures) (subst (λ (m : ℕ). n * (c.args.grm.now.grammar.tokens + m) < 2 ^ 64) (sym c.rules_len.ensures) c.requires.room);
      },
      subst (λ l. AreSpread c.args.rows.actions.items l) (sym c.new.ensures.items) (spread_none c.args.rows.actions.items),
      subst (λ l. AreSpread c.args.rows.gotos.items l) (sym c.new-2.ensures.items) (spread_none c.args.rows.gotos.items),
    )

pub returns-clause-table : goal.returns-clause-table
returns-clause-table g c = λ parts gotos are.
    let number = g.S.IndexStorage.number in
    let r = c.args.rows in
    let T = sparse_of number c.args.states.0 c.tokens_len.result.0 c.rules_len.result.0 c.prods_len.result.0 c.args.start r.actions.items r.gotos.items c.list_conflicts.result in
    table_by c.args.grm.now.grammar (precedences_of c.args.grm.now) parts gotos (number c.args.states.0) (rows_of number r) are T refl refl c.tokens_len.ensures c.rules_len.ensures c.list_conflicts.ensures

pub returns-clause-rows : goal.returns-clause-rows
returns-clause-rows g c =
    let number = g.S.IndexStorage.number in
    let r = c.args.rows in
    let h : Vec (ℕ × TableAction g.row.S.Denot) Global → List (ℕ × Action) = λ row. cells_of number row.items in
    let k : Vec (ℕ × StIdx g.row.S.Denot) Global → List (ℕ × ℕ) = λ row. targets_of number row.items in
    let T = sparse_of number c.args.states.0 c.tokens_len.result.0 c.rules_len.result.0 c.prods_len.result.0 c.args.start r.actions.items r.gotos.items c.list_conflicts.result in
    full_rows T (length-map r.actions.items h ∙ c.requires.actions) (length-map r.gotos.items k ∙ c.requires.gotos)
