use Rattle.std.proofs.Common.{◌≡◌, ◌<◌, ◌≤◌, ℕ, length, Some, refl, ap, ◌∙◌, arith}
use Rattle.std.proofs.lemmas.List.{length-map}
use Rattle.lr_theory.specs.LongChains.{GoesPast}
use Rattle.state_table.specs.CellViews.{targets_of}
use Rattle.state_table.specs.Graphs.{GraphValue}
use Rattle.state_table.specs.TableValues.{goto_at}
use Rattle.state_table.specs.declared.stidx.StIdx.{StIdx}
use Rattle.state_table.specs.Tables.{automaton_of}
use Rattle.lrpar.proofs.LeastChains.{no_rule, at_rule, any_token, least_above}
use Rattle.lrpar.proofs.RowWalks.{row_none, row_more, goto_inside, goto_there, before_goto, all_gotos}
use Rattle.lrpar.proofs.chains.long_above.Goals as goal
use Rattle.lrpar.proofs.chains.long_above.Goals.{After-above-1}

pub gotos-init : goal.gotos-init
gotos-init g c = record { endings = c.requires.endings; before = λ x. row_none _ _ }

-- the goto that was read
there : (g : _) (c : After-above-1 g) → goto_at c.args.chains.now.stable.now (g.S.IndexStorage.number c.args.state.0) c.goto_of_row-number.result.0 ≡ Some (g.S.IndexStorage.number c.goto_of_row-number.result.1.0)
there g c =
    let number = g.S.IndexStorage.number in
    goto_there c.args.chains.now.stable.now (number c.args.state.0) (targets_of number c.state_gotos-row.result.now) c.state_gotos-row.ensures.whole c.state_gotos-row.ensures.targets c.gotos.index c.goto_of_row-number.result.0 (number c.goto_of_row-number.result.1.0) c.goto_of_row-number.ensures

pub index_below-requires : goal.index_below-requires
index_below-requires g c =
    let number = g.S.IndexStorage.number in
    let lt = goto_inside c.args.chains.now.stable.now (number c.args.state.0) (targets_of number c.state_gotos-row.result.now) c.state_gotos-row.ensures.whole c.state_gotos-row.ensures.targets c.gotos.index c.goto_of_row-number.result.0 (number c.goto_of_row-number.result.1.0) c.goto_of_row-number.ensures in
    omega (arith, lt, c.rules_len.ensures)

pub is_quiet-requires-clause-above : goal.is_quiet-requires-clause-above
is_quiet-requires-clause-above g c = c.args.chains.now.table.is_table.targets _ _ _ (there g (goal.at.is_quiet-requires-clause-above g c).After-above-1)

pub least_long-requires-clause-above : goal.least_long-requires-clause-above
least_long-requires-clause-above g c = λ q e.
    let number = g.S.IndexStorage.number in
    let same : Some (number c.goto_of_row-number.result.1.0) ≡ Some q = e in
    c.args.chains.now.table.is_table.targets _ _ q (there g (goal.at.least_long-requires-clause-above g c).After-above-1 ∙ same)

pub gotos-preserved-then-is_quiet : goal.gotos-preserved-then-is_quiet
gotos-preserved-then-is_quiet g c =
    let number = g.S.IndexStorage.number in
    let p = number c.args.state.0 in
    let q = number c.goto_of_row-number.result.1.0 in
    record {
      endings = c.gotos.invariant.endings;
      before = λ x. row_more (targets_of number c.state_gotos-row.result.now) _ c.gotos.index c.goto_of_row-number.result.0 q (c.gotos.invariant.before x) c.goto_of_row-number.ensures
          (λ u. at_rule c.args.chains.now.grm.now.grammar x c.args.chains.now.stable.now c.args.chains.now.table.is_table c.args.chains.now.limit p c.goto_of_row-number.result.0 q u (there g (goal.at.gotos-preserved-then-is_quiet g c).After-above-1) (c.is_quiet.ensures c.if-is_quiet.true x u));
    }

pub gotos-preserved : goal.gotos-preserved
gotos-preserved g c =
    let number = g.S.IndexStorage.number in
    let p = number c.args.state.0 in
    let q = number c.goto_of_row-number.result.1.0 in
    let table = c.args.chains.now.table.is_table in
    let k = λ (x : GraphValue). rw c.in_default.is at (c.in_ok-tidx.ensures.found x) in
    record {
      endings = c.in_ok-tidx.ensures.endings;
      before = λ x. row_more (targets_of number c.state_gotos-row.result.now) _ c.gotos.index c.goto_of_row-number.result.0 q (c.gotos.invariant.before x) c.goto_of_row-number.ensures
          (λ u. at_rule c.args.chains.now.grm.now.grammar x c.args.chains.now.stable.now table c.args.chains.now.limit p c.goto_of_row-number.result.0 q u (there g (goal.at.gotos-preserved g c).After-above-1) (any_token c.args.chains.now.grm.now.grammar x c.args.chains.now.stable.now table c.args.chains.now.limit p (Some q) (k x) u));
    }

pub returns-in-Some-clause-found : goal.returns-in-Some-clause-found
returns-in-Some-clause-found g c = λ x.
    let number = g.S.IndexStorage.number in
    let p = number c.args.state.0 in
    let q = number c.goto_of_row-number.result.1.0 in
    let table = c.args.chains.now.table.is_table in
    let to : goto_at c.args.chains.now.stable.now p (number c.index_below.result) ≡ Some q = ap (goto_at c.args.chains.now.stable.now p) c.index_below.ensures ∙ there g (goal.at.returns-in-Some-clause-found g c).After-above-1 in
    let k = rw c.in-Some.is at (c.in_ok-tidx.ensures.found x) in
    let before = before_goto c.args.chains.now.stable.now p (targets_of number c.state_gotos-row.result.now) c.state_gotos-row.ensures.whole c.state_gotos-row.ensures.targets _ (λ R e t. no_rule c.args.chains.now.grm.now.grammar x c.args.chains.now.stable.now table c.args.chains.now.limit p R t e) c.gotos.index c.goto_of_row-number.result.0 q (c.gotos.invariant.before x) c.goto_of_row-number.ensures in
    let below : (Q t : ℕ) → Q < number c.index_below.result → GoesPast c.args.chains.now.grm.now.grammar (automaton_of x c.args.chains.now.stable.now) c.args.chains.now.limit p (Some Q) t → ⊥ =
    λ Q t lt. before Q (omega (arith, lt, c.index_below.ensures)) t in
    (refl, (record { 0 = c.index_below.result }, refl), (q, to, k.1), least_above c.args.chains.now.grm.now.grammar x c.args.chains.now.stable.now table c.args.chains.now.limit p (number c.index_below.result) q (number c.in-Some.tidx.0) to below k.2)

pub returns-clause-found : goal.returns-clause-found
returns-clause-found g c = λ x R t.
    let number = g.S.IndexStorage.number in
    let p = number c.args.state.0 in
    let table = c.args.chains.now.table.is_table in
    let f : ℕ × StIdx g.row.S.Denot → ℕ × ℕ = λ e. (e.0, number e.1.0) in
    let n = length-map c.state_gotos-row.result.now f in
    let all : length (targets_of number c.state_gotos-row.result.now) ≤ c.gotos.index = omega (arith, n) in
    all_gotos c.args.chains.now.stable.now p (targets_of number c.state_gotos-row.result.now) c.state_gotos-row.ensures.whole c.state_gotos-row.ensures.targets _ (λ Q e u. no_rule c.args.chains.now.grm.now.grammar x c.args.chains.now.stable.now table c.args.chains.now.limit p Q u e) c.gotos.index (c.gotos.invariant.before x) all R t
