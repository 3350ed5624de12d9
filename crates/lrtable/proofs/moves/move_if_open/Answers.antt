use Rattle.std.proofs.Common.{◌≡◌, false, true, length, map, refl, sym, ap, ◌∙◌, subst}
use Rattle.cfg_theory.specs.Grammar.{IsOf}
use Rattle.state_table.specs.Meeting.{row}
use Rattle.lrtable.specs.MovedItems.{set_of_moved}
use Rattle.lrtable.specs.Stepping.{OfRule, OpenAt}
use Rattle.lrtable.proofs.FreshSets.{none_of}
use Rattle.lrtable.proofs.Moving.{open_at, closed_at}
use Rattle.lrtable.proofs.moves.move_if_open.Goals as goal

differ : false ≡ true → ⊥
differ e = cc

pub returns-then-not-is_open-clause-gains : goal.returns-then-not-is_open-clause-gains
returns-then-not-is_open-clause-gains g c = closed_at c.args.grm.now.grammar c.args.rows.now.opening c.args.number (map (set_of_moved g.S.IndexStorage.number c.args.rows.now) c.args.sets.now.items) c.requires.sets.good (λ x. differ (sym c.if-not-is_open.true ∙ c.is_open.ensures.1 x))

pub move_rule-requires-clause-width : goal.move_rule-requires-clause-width
move_rule-requires-clause-width g c = sym (ap length c.of_rule-looks.ensures.bits) ∙ (c.of_rule-looks.ensures.width ∙ c.requires.sizes.tokens)

pub move_rule-requires-clause-fresh : goal.move_rule-requires-clause-fresh
move_rule-requires-clause-fresh g c =
    let number = g.S.IndexStorage.number in
    let G = c.args.grm.now.grammar in
    none_of G (OfRule G (number c.rule_at.result.0)) (OpenAt G c.args.rows.now.opening c.args.number) (map (set_of_moved number c.args.rows.now) c.args.sets.now.items) (λ p d x. (x.0, subst (IsOf G p) c.rule_at.ensures x.1, c.is_open.ensures.0 c.if-not-is_open.false)) c.requires.fresh

pub returns-clause-gains : goal.returns-clause-gains
returns-clause-gains g c =
    let number = g.S.IndexStorage.number in
    open_at c.args.grm.now.grammar c.args.rows.now.opening (number c.rule_at.result.0) c.args.number (row c.args.rows.now.opening.rows c.args.number) (map (set_of_moved number c.args.rows.now) c.args.sets.now.items) (map (set_of_moved number c.args.rows.now) c.move_rule.new.sets.items) c.rule_at.ensures (c.is_open.ensures.0 c.if-not-is_open.false)
    refl c.in_ok-move_rule.ensures.gains
