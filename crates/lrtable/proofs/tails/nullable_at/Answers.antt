use Rattle.std.proofs.Common.{arith}
use Rattle.cfg_theory.specs.Grammar.{rule}
use Rattle.lrtable.proofs.tails.nullable_at.Goals as goal

pub is_epsilon_set-requires : goal.is_epsilon_set-requires
is_epsilon_set-requires g c =
    let number = g.S.IndexStorage.number in
    let lt = c.start_prod.ensures.well_formed.symbols (number c.args.pidx.0) c.args.at (rule (number c.in-Some.ridx.0)) c.in-Some.ensures in
    let n = c.requires.firsts.sizes.rows.count in
    omega (arith, lt, n)
