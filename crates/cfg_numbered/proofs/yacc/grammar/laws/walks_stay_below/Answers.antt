use Rattle.std.proofs.Common.{◌≡◌, suc, ◌+◌, ◌<◌, length, subst, get_or, arith}
use Rattle.std.specs.List.{range_with_len}
use Rattle.std.proofs.lemmas.List.FromFn.{get_or-range_with_len, length-range_with_len}
use Rattle.cfg_numbered.proofs.yacc.grammar.laws.walks_stay_below.Goals as goal

pub returns-clause-start : goal.returns-clause-start
returns-clause-start c = λ n k d within.
    let below : k < n = subst (λ m. k < m) (length-range_with_len 0 n) within in
    let item : get_or (range_with_len 0 n) k d ≡ 0 + k = get_or-range_with_len 0 n k d below in
    omega (arith, below, item)

pub returns-clause-rest : goal.returns-clause-rest
returns-clause-rest c = λ n p left all k d within.
    let next : suc k < suc (length left) = omega (arith, within) in
    all (suc k) d next
