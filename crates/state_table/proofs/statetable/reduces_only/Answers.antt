use Rattle.std.proofs.Common.{◌≡◌, ◌<◌, length, false, true, rules}
use Rattle.state_table.proofs.ReducingRows.{by_first, not_first}
use Rattle.state_table.proofs.statetable.reduces_only.Goals as goal

never : false ≡ true → ⊥
never e = cc

pub returns-in-Some : goal.returns-in-Some
returns-in-Some g c =
    let number = g.S.IndexStorage.number in
    let lt : 0 < length c.args.row.now = search rules in
    by_first number c.args.row.now c.index-row-0.result lt c.index-row-0.is (number c.in-Some.pidx.0) c.in-Some.ensures c.all_reduce.result c.all_reduce.ensures

pub returns-in-None : goal.returns-in-None
returns-in-None g c =
    let lt : 0 < length c.args.row.now = search rules in
    (λ e. absurd (never e), λ q. absurd (not_first g.S.IndexStorage.number c.args.row.now c.index-row-0.result lt c.index-row-0.is c.in-None.ensures q.0 q.1))
