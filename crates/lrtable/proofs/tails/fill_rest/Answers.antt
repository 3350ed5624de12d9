use Rattle.std.proofs.Common.{◌+◌}
use Rattle.std.proofs.lemmas.List.{take_rest}
use Rattle.cfg_numbered.specs.Symbols.{sym_of}
use Rattle.lrtable.proofs.Exact.{slice_within, slice_rest}
use Rattle.lrtable.proofs.tails.fill_rest.Goals as goal

pub first_of-nullable-requires-clause-within : goal.first_of-nullable-requires-clause-within
first_of-nullable-requires-clause-within g c =
    let number = g.S.IndexStorage.number in
    let xs = c.prod-symbols.result.now in
    slice_within c.args.grm.now.grammar c.args.firsts.now (number c.args.pidx.0) c.args.dot (sym_of number) xs _ c.prod-symbols.ensures (take_rest xs (c.args.dot + 1)) c.start_prod.ensures.well_formed c.requires.firsts.sizes

pub returns : goal.returns
returns g c =
    let number = g.S.IndexStorage.number in
    let xs = c.prod-symbols.result.now in
    slice_rest c.args.grm.now.grammar c.args.firsts.now (number c.args.pidx.0) c.args.dot (sym_of number) xs _ c.prod-symbols.ensures (take_rest xs (c.args.dot + 1)) c.requires.firsts c.first_of-nullable.new.begins.bits c.first_of-nullable.result c.first_of-nullable.ensures.width c.first_of-nullable.ensures.nullable c.first_of-nullable.ensures.first
