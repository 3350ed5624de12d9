use Rattle.std.proofs.Common.{◌≡◌, ℕ, ◌++◌, ◌∷◌, [], sym, ap, ◌∙◌, subst}
use Rattle.std.proofs.lemmas.List.{map-append}
use Rattle.table_theory.specs.Cells.{is_start_complete}
use Rattle.state_table.specs.CellViews.{reduction_of, reductions_of}
use Rattle.state_table.specs.Sharing.{entry_in}
use Rattle.state_table.proofs.GraphSteps.{kept, left_out, or_off, or_on, partial, whole_other, whole_start}
use Rattle.state_table.proofs.graph_rows.keep_complete.Goals as goal

pub returns-then-not-is_whole-clause-reductions : goal.returns-then-not-is_whole-clause-reductions
returns-then-not-is_whole-clause-reductions g c = λ rows.
    let number = g.S.IndexStorage.number in
    let G = c.args.grm.now.grammar in
    let e = entry_in number rows c.args.entry in
    left_out G e (reductions_of number rows c.args.reductions.now.items) (partial G e (sym c.is_whole.ensures ∙ c.if-not-is_whole.true)).0

pub returns-then-not-is_whole-clause-accepts : goal.returns-then-not-is_whole-clause-accepts
returns-then-not-is_whole-clause-accepts g c = λ rows.
    let number = g.S.IndexStorage.number in
    let G = c.args.grm.now.grammar in
    let e = entry_in number rows c.args.entry in
    or_off c.args.accepts.now (is_start_complete G e) (partial G e (sym c.is_whole.ensures ∙ c.if-not-is_whole.true)).1

pub returns-then-is_of_start-clause-reductions : goal.returns-then-is_of_start-clause-reductions
returns-then-is_of_start-clause-reductions g c = λ rows.
    let number = g.S.IndexStorage.number in
    let G = c.args.grm.now.grammar in
    let e = entry_in number rows c.args.entry in
    left_out G e (reductions_of number rows c.args.reductions.now.items) (whole_start G e (sym c.is_whole.ensures ∙ c.if-not-is_whole.false) (sym c.is_of_start.ensures ∙ c.if-is_of_start.true)).0

pub returns-then-is_of_start-clause-accepts : goal.returns-then-is_of_start-clause-accepts
returns-then-is_of_start-clause-accepts g c = λ rows.
    let number = g.S.IndexStorage.number in
    let G = c.args.grm.now.grammar in
    let e = entry_in number rows c.args.entry in
    or_on c.args.accepts.now (is_start_complete G e) (whole_start G e (sym c.is_whole.ensures ∙ c.if-not-is_whole.false) (sym c.is_of_start.ensures ∙ c.if-is_of_start.true)).1

pub returns-clause-reductions : goal.returns-clause-reductions
returns-clause-reductions g c = λ rows.
    let number = g.S.IndexStorage.number in
    let G = c.args.grm.now.grammar in
    let e = entry_in number rows c.args.entry in
    kept G e (reductions_of number rows c.args.reductions.now.items) (reductions_of number rows c.push.new.self.items) (whole_other G e (sym c.is_whole.ensures ∙ c.if-not-is_whole.false) (sym c.is_of_start.ensures ∙ c.if-is_of_start.false)).0
    (ap (λ l. reductions_of number rows l) (subst (λ (n : ℕ). c.push.new.self.items ≡ c.args.reductions.now.items ++ record { pidx = c.args.entry.item.pidx; set = n } ∷ []) c.get.ensures c.in_ok-push.ensures.items) ∙ map-append (reduction_of number rows) c.args.reductions.now.items (record { pidx = c.args.entry.item.pidx; set = c.args.entry.set } ∷ []))

pub returns-clause-accepts : goal.returns-clause-accepts
returns-clause-accepts g c = λ rows.
    let number = g.S.IndexStorage.number in
    let G = c.args.grm.now.grammar in
    let e = entry_in number rows c.args.entry in
    or_off c.args.accepts.now (is_start_complete G e) (whole_other G e (sym c.is_whole.ensures ∙ c.if-not-is_whole.false) (sym c.is_of_start.ensures ∙ c.if-is_of_start.false)).1
