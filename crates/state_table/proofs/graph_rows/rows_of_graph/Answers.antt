use Rattle.std.proofs.Common.{◌≡◌, ℕ, ◌+◌, ◌<◌, length, sym, ap, subst, arith}
use Rattle.state_table.specs.CellRows.{IsContested}
use Rattle.state_table.specs.CellViews.{pairs_of, precedences_of, shifts_of}
use Rattle.state_table.specs.GraphParts.{parts_in, targets_in}
use Rattle.state_table.specs.TableRows.{AreRowsOf, rows_of}
use Rattle.state_table.specs.TableViews.{action_rows_of, target_rows_of}
use Rattle.state_table.proofs.GraphSteps.{quiet_more}
use Rattle.state_table.proofs.TableSteps.{rows_begun}
use Rattle.state_table.proofs.graph_rows.rows_of_graph.Goals as goal

pub states-init : goal.states-init
states-init g c =
    let number = g.S.IndexStorage.number in
    let G = c.args.grm.now.grammar in
    let r = c.in_ok-rows.ensures in
    record {
      rows = rows_begun G (precedences_of c.args.grm.now) (parts_in G c.args.sg.now) (targets_in c.args.sg.now) (rows_of number c.in_ok-rows.rows)
          (ap (λ l. action_rows_of number l) r.actions) (ap (λ l. target_rows_of number l) r.gotos) (ap (λ l. pairs_of number l) r.pairs) (ap (λ l. shifts_of number l) r.shifts);
      quiet = λ s p lt. absurd (omega (arith, lt));
    }

pub states-preserved : goal.states-preserved
states-preserved g c =
    let number = g.S.IndexStorage.number in
    let G = c.args.grm.now.grammar in
    let s = c.states.number in
    let v = c.states.invariant in
    let e = c.in_ok-add_row.ensures in
    let n = c.state_at-stidx.ensures in
    record {
      rows = subst (λ k. AreRowsOf G (precedences_of c.args.grm.now) (parts_in G c.args.sg.now) (targets_in c.args.sg.now) (k + 1) (rows_of number c.add_row.new.rows)) n (e.rows (subst (λ k. AreRowsOf G (precedences_of c.args.grm.now) (parts_in G c.args.sg.now) (targets_in c.args.sg.now) k (rows_of number c.states.rows)) (sym n) v.rows));
      quiet = quiet_more (λ k p. IsContested G (parts_in G c.args.sg.now k) p) s v.quiet (subst (λ k. (p : ℕ) → IsContested G (parts_in G c.args.sg.now k) p → ⊥) n e.quiet);
    }

pub returns-clause-rows : goal.returns-clause-rows
returns-clause-rows g c =
    let number = g.S.IndexStorage.number in
    let G = c.args.grm.now.grammar in
    let test = c.states-test.false in
    let most = c.states.auto.number-end in
    let value = c.to_usize-count.ensures.value in
    let count = c.all_states_len.ensures.value in
    let e : c.states.number ≡ length c.args.sg.now.cores = omega (arith, test, most, value, count) in
    subst (λ k. AreRowsOf G (precedences_of c.args.grm.now) (parts_in G c.args.sg.now) (targets_in c.args.sg.now) k (rows_of number c.states.rows)) e c.states.invariant.rows

pub returns-clause-quiet : goal.returns-clause-quiet
returns-clause-quiet g c =
    let G = c.args.grm.now.grammar in
    let test = c.states-test.false in
    let most = c.states.auto.number-end in
    let value = c.to_usize-count.ensures.value in
    let count = c.all_states_len.ensures.value in
    let e : c.states.number ≡ length c.args.sg.now.cores = omega (arith, test, most, value, count) in
    subst (λ k. (s p : ℕ) → s < k → IsContested G (parts_in G c.args.sg.now s) p → ⊥) e c.states.invariant.quiet
