use Rattle.std.proofs.Common.{ℕ, List, sym, subst, arith}
use Rattle.std.specs.List.{Contains}
use Rattle.lrtable.proofs.opening.empty_rows.Goals as goal

pub clear_each-requires : goal.clear_each-requires
clear_each-requires c = λ A m.
    let lt = c.noted_numbers.ensures.within A m in
    let n = c.requires in
    omega (arith, lt, n)

pub returns-clause-emptied : goal.returns-clause-emptied
returns-clause-emptied c = λ A t x. c.clear_each.ensures.emptied A t (subst (λ (l : List ℕ). Contains l A) (sym c.noted_numbers.ensures.numbers) (c.is_full.ensures c.if-is_full.false A x))
