use Rattle.std.proofs.Common.{◌<◌, length, sym, ap, ◌∙◌, arith}
use Rattle.vob.specs.Sets.{is_set}
use Rattle.state_table.proofs.TokenReductions.{row_in}
use Rattle.state_table.proofs.state_rows.has_token.Goals as goal

pub returns : goal.returns
returns c =
    let t = c.if-set-sets.false in
    let lt : c.args.set < length c.args.sets.now = omega (arith, t) in
    c.is_in.ensures ∙ ap (λ l. is_set l c.args.number) (sym (row_in c.args.sets.now c.args.set c.index-sets-set.result lt c.index-sets-set.is))
