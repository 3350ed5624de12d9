use Rattle.std.proofs.Common.{◌≤◌, ℕ, length, arith, ⊎_elim}
use Rattle.std.proofs.lemmas.Bool.{cases_lt}
use Rattle.state_table.specs.Tables.{CountsAgree, automaton_of}
use Rattle.lrpar.specs.Safety.{ItemsFit, TokenFits, RuleFits, AllFit}
use Rattle.lrpar.proofs.LeastNumbers.{below_one_more}
use Rattle.lrpar.proofs.FittingStates.{all_cells, past_fits}
use Rattle.lrpar.proofs.SafePairs.{fitting_pairs_are_safe}
use Rattle.lrpar.proofs.parserdata.safety.first_misfit.Goals as goal

pub returns-in-Some : goal.returns-in-Some
returns-in-Some g c =
    let number = g.S.IndexStorage.number in
    let here = rw c.in-Some.is at c.first_cell.ensures in
    record {
      misfit = here.0;
      states_before = λ r k lt. all_cells (CountsAgree c.args.grm.now.grammar c.args.sgraph.now c.args.stable.now) c.requires.counts c.args.grm.now.grammar (automaton_of c.args.sgraph.now c.args.stable.now) r (c.states.invariant r (omega (arith, lt, c.index_below.ensures))) k;
      cells_before = here.1;
    }

pub states-preserved : goal.states-preserved
states-preserved g c =
    let number = g.S.IndexStorage.number in
    let here = rw (c.in_default.is, c.index_below.ensures) at c.first_cell.ensures in
    below_one_more (λ s. ItemsFit c.args.grm.now.grammar (automaton_of c.args.sgraph.now c.args.stable.now) s × ((t : ℕ) → TokenFits c.args.grm.now.grammar (automaton_of c.args.sgraph.now c.args.stable.now) s t) × ((A : ℕ) → RuleFits c.args.grm.now.grammar (automaton_of c.args.sgraph.now c.args.stable.now) s A)) c.states.number c.states.invariant here

pub returns : goal.returns
returns g c =
    let all : length c.args.sgraph.now.cores ≤ c.states.number = omega (arith, c.states-test.false, c.to_usize-number-end.ensures.value, c.all_states_len.ensures.value) in
    let fits : AllFit c.args.grm.now.grammar (automaton_of c.args.sgraph.now c.args.stable.now) = λ s. ⊎_elim
    (λ lt. c.states.invariant s (omega (arith, lt, all)))
    (λ le. past_fits c.args.grm.now.grammar c.args.sgraph.now c.args.stable.now g.S.IndexStorage.MAX c.requires.graph c.requires.rows c.requires.counts s le)
    (cases_lt s (length c.args.sgraph.now.cores)) in
    (c.requires.counts, (fitting_pairs_are_safe.safe c.args.grm.now.grammar (automaton_of c.args.sgraph.now c.args.stable.now)).0 fits)
