use Rattle.std.proofs.Common.{◌≡◌, ◌<◌, get_or, [], sym, ap, ◌∙◌, subst, arith}
use Rattle.cfg_theory.specs.Grammar.{rule}
use Rattle.state_table.specs.Graphs.{target_in}
use Rattle.state_table.specs.TableValues.{goto_at}
use Rattle.state_table.specs.Tables.{automaton_of}
use Rattle.lrpar.specs.Reducing.{rule_number}
use Rattle.lrpar.specs.Safety.{RuleFits}
use Rattle.lrpar.specs.Fitting.{LeastNot, OfGrammar, HasGotos, NoneBad, BadRule, closed_at, least_of}
use Rattle.lrpar.proofs.LeastNumbers.{least_both, least_by}
use Rattle.lrpar.proofs.FittingStates.{rule_fits, rule_parts}
use Rattle.lrpar.proofs.parserdata.safety.least_rule.Goals as goal

pub invariant_of-tested : goal.invariant_of-tested
invariant_of-tested g c =
    let counts = c.requires.counts in
    let lt = c.requires.state in
    let states = counts.states in
    record {
      of_grammar = subst (OfGrammar c.args.grm.now.grammar) (sym c.closed_state-items.ensures) c.requires.items;
      rules = counts.rules;
      within = omega (arith, lt, states);
    }

pub returns : goal.returns
returns g c =
    let number = g.S.IndexStorage.number in
    let G = c.args.grm.now.grammar in
    let x = c.args.sgraph.now in
    let v = c.args.stable.now in
    let s = number c.args.state.0 in
    let gotos : LeastNot (λ A. A < v.rules → goto_at v s A ≡ target_in (get_or x.edges s []) (rule A)) (rule_number number c.least_goto-goto.result) =
    rw c.edges-edges.ensures at c.least_goto-goto.ensures in
    let into : LeastNot (NoneBad (get_or x.edges s []) rule (BadRule x.start v.rules)) (rule_number number c.least_rule_into-into.result) =
    rw (c.edges-edges.ensures, c.start_state.ensures.value, c.rules_len.ensures) at c.least_rule_into-into.ensures in
    let bare : LeastNot (HasGotos G (closed_at x s) v s) (rule_number number c.least_bare-bare.result) =
    rw c.closed_state-items.ensures at c.least_bare-bare.ensures in
    let two = least_both (λ A. A < v.rules → goto_at v s A ≡ target_in (get_or x.edges s []) (rule A)) (NoneBad (get_or x.edges s []) rule (BadRule x.start v.rules)) (rule_number number c.least_goto-goto.result) (rule_number number c.least_rule_into-into.result) gotos into in
    let all = least_both (λ A. (A < v.rules → goto_at v s A ≡ target_in (get_or x.edges s []) (rule A)) × NoneBad (get_or x.edges s []) rule (BadRule x.start v.rules) A) (HasGotos G (closed_at x s) v s) (least_of (rule_number number c.least_goto-goto.result) (rule_number number c.least_rule_into-into.result)) (rule_number number c.least_bare-bare.result) two bare in
    let is : rule_number number c.lesser_rule-2.result ≡ least_of (least_of (rule_number number c.least_goto-goto.result) (rule_number number c.least_rule_into-into.result)) (rule_number number c.least_bare-bare.result) =
    c.lesser_rule-2.ensures ∙ ap (λ o. least_of o (rule_number number c.least_bare-bare.result)) c.lesser_rule.ensures in
    subst (LeastNot (RuleFits G (automaton_of x v) s)) (sym is)
    (least_by (λ A. ((A < v.rules → goto_at v s A ≡ target_in (get_or x.edges s []) (rule A)) × NoneBad (get_or x.edges s []) rule (BadRule x.start v.rules) A) × HasGotos G (closed_at x s) v s A) (RuleFits G (automaton_of x v) s) _
    (rule_fits G x v c.requires.rows s) (rule_parts G x v c.requires.rows s) all)
