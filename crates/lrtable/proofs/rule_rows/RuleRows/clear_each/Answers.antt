use Rattle.std.proofs.Common.{get_or, sym, arith}
use Rattle.std.proofs.lemmas.Grind.{get_or_default_zero}
use Rattle.std.proofs.lemmas.List.Elements.{Contains-get_or}
use Rattle.lrtable.proofs.Noting.{list_begun, list_next}
use Rattle.lrtable.proofs.rule_rows.RuleRows.clear_each.Goals as goal

pub rules-init : goal.rules-init
rules-init c = list_begun c.args.self.now

pub clear-requires : goal.clear-requires
clear-requires c =
    let xs = c.args.rules.now in
    let i = c.rules.rule-index in
    let lt = c.requires (get_or xs i 0) (Contains-get_or xs i 0 c.rules-test.true) in
    let n = c.rules.invariant.count in
    omega (arith, lt, n)

pub rules-preserved : goal.rules-preserved
rules-preserved c =
    let xs = c.args.rules.now in
    let i = c.rules.rule-index in
    let x = get_or xs i 0 in
    let lt = c.requires x (Contains-get_or xs i 0 c.rules-test.true) in
    let n = c.rules.invariant.count in
    list_next c.args.self.now c.rules.self c.clear.new.self xs i x c.rules-test.true (sym (get_or_default_zero xs i x c.rules-test.true)) (omega (arith, lt, n)) c.clear.ensures c.rules.invariant
