use Rattle.std.proofs.Common.{◌<◌, sym, subst, get_or, [], arith}
use Rattle.cfg_theory.specs.Grammar.{token}
use Rattle.state_table.specs.Graphs.{target_in}
use Rattle.state_table.specs.TableValues.{action_at}
use Rattle.state_table.specs.Tables.{automaton_of}
use Rattle.lrpar.specs.Reducing.{token_number}
use Rattle.lrpar.specs.Safety.{TokenFits}
use Rattle.lrpar.specs.Fitting.{LeastNot, OfGrammar, JustifiesAction, NoneBad, BadToken, closed_at}
use Rattle.lrpar.proofs.LeastNumbers.{least_both, least_by}
use Rattle.lrpar.proofs.FittingStates.{token_fits, token_parts}
use Rattle.lrpar.proofs.parserdata.safety.least_token.Goals as goal

pub invariant_of-tested : goal.invariant_of-tested
invariant_of-tested g c =
    let counts = c.requires.counts in
    let lt = c.requires.state in
    let states = counts.states in
    record {
      of_grammar = subst (OfGrammar c.args.grm.now.grammar) (sym c.closed_state-items.ensures) c.requires.items;
      rules = counts.rules;
      within = omega (arith, lt, states);
    }

pub returns : goal.returns
returns g c =
    let number = g.S.IndexStorage.number in
    let G = c.args.grm.now.grammar in
    let x = c.args.sgraph.now in
    let v = c.args.stable.now in
    let s = number c.args.state.0 in
    let es = get_or x.edges s [] in
    let actions : LeastNot (λ t. t < v.tokens → JustifiesAction G (closed_at x s) (target_in (get_or x.edges s []) (token t)) t (action_at v s t)) (token_number number c.least_action-action.result) =
    rw (c.closed_state-items.ensures, c.edges-edges.ensures) at c.least_action-action.ensures in
    let into : LeastNot (NoneBad (get_or x.edges s []) token (BadToken x.start)) (token_number number c.least_token_into-into.result) =
    rw (c.edges-edges.ensures, c.start_state.ensures.value) at c.least_token_into-into.ensures in
    subst (LeastNot (TokenFits G (automaton_of x v) s)) (sym c.lesser_token.ensures)
    (least_by (λ t. (t < v.tokens → JustifiesAction G (closed_at x s) (target_in (get_or x.edges s []) (token t)) t (action_at v s t)) × NoneBad (get_or x.edges s []) token (BadToken x.start) t) (TokenFits G (automaton_of x v) s) _
    (token_fits G x v c.requires.rows s) (token_parts G x v c.requires.rows s)
    (least_both (λ t. t < v.tokens → JustifiesAction G (closed_at x s) (target_in (get_or x.edges s []) (token t)) t (action_at v s t)) (NoneBad (get_or x.edges s []) token (BadToken x.start)) (token_number number c.least_action-action.result) (token_number number c.least_token_into-into.result) actions into))
