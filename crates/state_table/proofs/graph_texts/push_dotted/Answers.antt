use Rattle.cfg_numbered.specs.Symbols.{sym_of}
use Rattle.state_table.proofs.GraphTexts.{passed_in_range, left_in_range}
use Rattle.state_table.proofs.graph_texts.push_dotted.Goals as goal

pub push_symbols-requires : goal.push_symbols-requires
push_symbols-requires g c =
    let number = g.S.IndexStorage.number in
    passed_in_range (sym_of number) c.args.grm.now.grammar c.start_prod-start.ensures.well_formed (number c.args.pidx.0) c.to_usize.result c.prod.result.now c.split_at.result.0.now c.prod.ensures c.split_at.ensures.front

pub push_symbols-requires-2 : goal.push_symbols-requires-2
push_symbols-requires-2 g c =
    let number = g.S.IndexStorage.number in
    left_in_range (sym_of number) c.args.grm.now.grammar c.start_prod-start.ensures.well_formed (number c.args.pidx.0) c.to_usize.result c.prod.result.now c.split_at.result.1.now c.prod.ensures c.split_at.ensures.back
