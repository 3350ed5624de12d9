use Rattle.std.proofs.Common.{◌≡◌, ◌+◌, ◌-◌, ◌≤◌, suc, [], ◌∷◌, ◌++◌, sym, ap, ◌∙◌, arith}
use Rattle.std.proofs.lemmas.List.{append_assoc}
use Rattle.cfg_read.specs.Judging.{count_up}
use Rattle.cfg_read.proofs.RuleNumbers.{count_push}
use Rattle.cfg_read.proofs.yacc.ast.build.push_range.Goals as goal

pub numbers-preserved : goal.numbers-preserved
numbers-preserved c =
    let items = c.args.numbers.now.items in
    let n = c.args.start in
    let m = c.numbers.number in
    let low : n ≤ m = c.numbers.invariant.1 in
    let more : m + 1 - n ≡ suc (m - n) = omega (arith, low) in
    let at : n + (m - n) ≡ m = omega (arith, low) in
    let next : n ≤ m + 1 = omega (arith, low) in (
      c.in_ok-push.ensures.items
          ∙ ap (λ l. l ++ m ∷ []) c.numbers.invariant.0
          ∙ append_assoc items (count_up n (m - n)) (m ∷ [])
          ∙ ap (λ k. items ++ (count_up n (m - n) ++ k ∷ [])) (sym at)
          ∙ ap (λ l. items ++ l) (sym (count_push n (m - n)))
          ∙ ap (λ k. items ++ count_up n k) (sym more),
      next,
    )
