use Rattle.std.proofs.Common.{◌≡◌, ◌<◌, ◌∙◌, ◌++◌, length, Some, refl, sym, ap, arith}
use Rattle.std.specs.Prelude.{slice_get}
use Rattle.std.proofs.lemmas.Result.{on_ok_weaker}
use Rattle.cfg_numbered.specs.Value.{GrammarValue}
use Rattle.cfg_theory.specs.Grammar.{head_of}
use Rattle.lrpar.proofs.FullSteps.{row_within, row_told}
use Rattle.parse_trees.specs.Shapes.{rule_line, rule_text}
use Rattle.word_lines.specs.NodeRows.{IsRuleRow}
use Rattle.word_lines.proofs.NodeRows.{is_rule_line}
use Rattle.word_lines.proofs.node_lines.NodeLines.push_prod.Goals.{After-prod_to_rule-ridx, After-row_at}
use Rattle.word_lines.proofs.node_lines.NodeLines.push_prod.Goals as goal

-- the rule is one of the grammar's
within : (g : _) (c : After-prod_to_rule-ridx g) → g.S.IndexStorage.number c.prod_to_rule-ridx.result.0 < c.self.inside.grm.now.grammar.rules
within g c =
    let number = g.S.IndexStorage.number in
    let seen = ap (λ (v : GrammarValue). length v.grammar.productions) c.self.view_is in
    let asked = c.requires in
    let lt : number c.args.pidx.0 < length c.self.inside.grm.now.grammar.productions = omega (arith, seen, asked) in
    let head = c.start_prod-start.ensures.well_formed.heads (number c.args.pidx.0) _ (record { in_range = lt; head = refl }) in
    let same = c.prod_to_rule-ridx.ensures in
    omega (arith, head, same)

pub row_at-requires : goal.row_at-requires
row_at-requires g c =
    let number = g.S.IndexStorage.number in
    let i = c.self.inside in
    let w = row_within (IsRuleRow i.grm.now) i.grm.now.grammar.rules i.rules.items (number c.prod_to_rule-ridx.result.0) c.self.invariant.0 (within g (goal.at.row_at-requires g c).After-prod_to_rule-ridx) in
    let n = ap (λ l. length l) c.as_slice.ensures.value in
    let e = c.to_usize.ensures.value in
    omega (arith, w, n, e)

-- the row that was taken
row : (g : _) (c : After-row_at g) → g.S.IndexStorage.number c.prod_to_rule-ridx.result.0 < c.self.inside.grm.now.grammar.rules → IsRuleRow c.self.inside.grm.now (g.S.IndexStorage.number c.prod_to_rule-ridx.result.0) c.row_at.result.now.items
row g c lt =
    let number = g.S.IndexStorage.number in
    let i = c.self.inside in
    let r = number c.prod_to_rule-ridx.result.0 in
    let at : slice_get i.rules.items r ≡ Some c.row_at.result.now = ap (slice_get i.rules.items) (sym c.to_usize.ensures.value) ∙ (ap (λ l. slice_get l c.to_usize.result) (sym c.as_slice.ensures.value) ∙ c.row_at.ensures) in
    row_told (IsRuleRow i.grm.now) i.grm.now.grammar.rules i.rules.items r c.row_at.result.now c.self.invariant.0 lt at

pub push_row-requires : goal.push_row-requires
push_row-requires g c = (rule_text c.self.inside.grm.now (g.S.IndexStorage.number c.prod_to_rule-ridx.result.0), 10, c.as_slice-2.ensures.value ∙ row g (goal.at.push_row-requires g c).After-row_at (within g (goal.at.push_row-requires g c).After-prod_to_rule-ridx))

pub returns : goal.returns
returns g c =
    let number = g.S.IndexStorage.number in
    let v = c.self.inside.grm.now in
    let r = number c.prod_to_rule-ridx.result.0 in
    let told = c.push_row.ensures (rule_text v r) 10 (c.as_slice-2.ensures.value ∙ row g (goal.at.returns g c).After-row_at (within g (goal.at.returns g c).After-prod_to_rule-ridx)) in
    let same = is_rule_line v c.args.depth r ∙ ap (rule_line v c.args.depth) c.prod_to_rule-ridx.ensures ∙ ap (λ (x : GrammarValue). rule_line x c.args.depth (head_of x.grammar (number c.args.pidx.0))) c.self.view_is in
    on_ok_weaker c.push_row.result (λ e. e ∙ ap (λ l. c.args.text.now.items ++ l) same) told
