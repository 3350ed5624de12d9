use Rattle.std.proofs.Common.{◌≡◌, ℕ, ◌<◌, ◌≤◌, get_or, length, true, false, sym, ap, ◌∙◌, subst, arith, rules}
use Rattle.std.proofs.lemmas.Grind.{common_steps}
use Rattle.refused_tables.specs.Blocks.{go_together, groups}
use Rattle.refused_tables.specs.declared.listed.Listed.{Listed}
use Rattle.refused_tables.proofs.Groups.{first_group}
use Rattle.refused_tables.proofs.Together.{alike}
use Rattle.refused_tables.proofs.listed.block_len.Goals as goal

pub returns-then-ne-2-clause-block : goal.returns-then-ne-2-clause-block
returns-then-ne-2-clause-block c =
    let xs = c.args.listed.now in
    let at = c.entries.invariant.0 in
    let some = c.if-count-gt0.true in
    let fails : (d : Listed) → c.entries.count < length xs → go_together c.args.each (get_or xs 0 d) (get_or xs c.entries.count d) ≡ false = λ d lt. grind (arith, common_steps) in
    λ h. first_group (go_together c.args.each) (alike c.args.each) xs c.entries.count some (omega (arith, at, c.entries-test.true)) (λ d k low lt. c.entries.invariant.1 d k low (omega (arith, lt, at))) fails

pub returns-clause-block : goal.returns-clause-block
returns-clause-block c =
    let xs = c.args.listed.now in
    let at = c.entries.invariant.0 in
    let test = c.entries-test.false in
    let end = c.entries.auto.entry-index-end in
    λ h. first_group (go_together c.args.each) (alike c.args.each) xs c.entries.count (omega (arith, at, test, h)) (omega (arith, at, end)) (λ d k low lt. c.entries.invariant.1 d k low (omega (arith, lt, at))) (λ d lt. absurd (omega (arith, lt, at, test)))
