use Rattle.std.proofs.Common.{◌≡◌, ℕ, Some, false, sym, ap, ◌∙◌}
use Rattle.lr_theory.specs.Itemset.{HasItem}
use Rattle.state_table.specs.Tables.{CountsAgree, automaton_of}
use Rattle.lrpar.specs.Safety.{ItemFits, ItemsFit}
use Rattle.lrpar.specs.Fitting.{OfGrammar, closed_at}
use Rattle.lrpar.proofs.FittingStates.{items_fit_of, flagged_fails, before_items, before_token, before_rule}
use Rattle.lrpar.proofs.parserdata.safety.first_cell.Goals as goal
use Rattle.lrpar.proofs.parserdata.safety.first_cell.Goals.{After-is_flagged}

pub returns-then-not-items_fit : goal.returns-then-not-items_fit
returns-then-not-items_fit g c =
    let number = g.S.IndexStorage.number in
    let s = number c.args.state.0 in
    let fails = rw c.if-not-items_fit.true at (c.items_fit.ensures c.args.sgraph.now c.args.stable.now (sym c.start_state.ensures.value)) in (
      λ fit. fails (λ p d h. fit.each p d (rw c.closed_state.ensures at h)),
      before_items (CountsAgree c.args.grm.now.grammar c.args.sgraph.now c.args.stable.now) c.requires.counts c.args.grm.now.grammar (automaton_of c.args.sgraph.now c.args.stable.now) s,
    )

pub returns-then-is_flagged : goal.returns-then-is_flagged
returns-then-is_flagged g c =
    let number = g.S.IndexStorage.number in
    let s = number c.args.state.0 in (
      flagged_fails c.args.grm.now.grammar c.args.sgraph.now c.args.stable.now g.S.IndexStorage.MAX c.requires.graph s c.args.flags.now.items c.requires.flags (c.is_flagged.ensures ∙ ap Some c.if-is_flagged.true),
      before_items (CountsAgree c.args.grm.now.grammar c.args.sgraph.now c.args.stable.now) c.requires.counts c.args.grm.now.grammar (automaton_of c.args.sgraph.now c.args.stable.now) s,
    )

-- each item fits
each_fits : (g : _) (c : After-is_flagged g) (p d : ℕ) → HasItem (closed_at c.args.sgraph.now (g.S.IndexStorage.number c.args.state.0)) p d → ItemFits c.args.grm.now.grammar (automaton_of c.args.sgraph.now c.args.stable.now) (g.S.IndexStorage.number c.args.state.0) p d
each_fits g c p d h =
    let all = rw c.if-not-items_fit.false at (c.items_fit.ensures c.args.sgraph.now c.args.stable.now (sym c.start_state.ensures.value)) in
    all p d (rw (← c.closed_state.ensures) at h)

of_grammar : (g : _) (c : After-is_flagged g) → OfGrammar c.args.grm.now.grammar (closed_at c.args.sgraph.now (g.S.IndexStorage.number c.args.state.0))
of_grammar g c p d h = (each_fits g c p d h).in_range

items_fit_here : (g : _) (c : After-is_flagged g) → c.is_flagged.result ≡ false → ItemsFit c.args.grm.now.grammar (automaton_of c.args.sgraph.now c.args.stable.now) (g.S.IndexStorage.number c.args.state.0)
items_fit_here g c e = items_fit_of c.args.grm.now.grammar c.args.sgraph.now c.args.stable.now g.S.IndexStorage.MAX c.requires.graph (g.S.IndexStorage.number c.args.state.0) c.args.flags.now.items c.requires.flags (c.is_flagged.ensures ∙ ap Some e) (each_fits g c)

pub least_token-requires-clause-items : goal.least_token-requires-clause-items
least_token-requires-clause-items g c = of_grammar g (goal.at.least_token-requires-clause-items g c).After-is_flagged

pub least_rule-requires-clause-items : goal.least_rule-requires-clause-items
least_rule-requires-clause-items g c = of_grammar g (goal.at.least_rule-requires-clause-items g c).After-is_flagged

pub returns-in-Some : goal.returns-in-Some
returns-in-Some g c =
    let number = g.S.IndexStorage.number in
    let fit = items_fit_here g (goal.at.returns-in-Some g c).After-is_flagged c.if-is_flagged.false in
    let least = rw c.in-Some.is at c.least_token.ensures in
    (least.0, before_token (CountsAgree c.args.grm.now.grammar c.args.sgraph.now c.args.stable.now) c.requires.counts c.args.grm.now.grammar (automaton_of c.args.sgraph.now c.args.stable.now) (number c.args.state.0) (number c.in-Some.tidx.0) fit least.1)

pub returns-in-Some-least_rule : goal.returns-in-Some-least_rule
returns-in-Some-least_rule g c =
    let number = g.S.IndexStorage.number in
    let fit = items_fit_here g (goal.at.returns-in-Some-least_rule g c).After-is_flagged c.if-is_flagged.false in
    let tokens = rw c.in_default.is at c.least_token.ensures in
    let least = rw c.in-Some-least_rule.is at c.least_rule.ensures in
    (least.0, before_rule (CountsAgree c.args.grm.now.grammar c.args.sgraph.now c.args.stable.now) c.requires.counts c.args.grm.now.grammar (automaton_of c.args.sgraph.now c.args.stable.now) (number c.args.state.0) (number c.in-Some-least_rule.ridx.0) fit tokens least.1)

pub returns : goal.returns
returns g c =
    let fit = items_fit_here g (goal.at.returns g c).After-is_flagged c.if-is_flagged.false in
    let tokens = rw c.in_default.is at c.least_token.ensures in
    let rules = rw c.in_default-least_rule.is at c.least_rule.ensures in
    (fit, tokens, rules)
