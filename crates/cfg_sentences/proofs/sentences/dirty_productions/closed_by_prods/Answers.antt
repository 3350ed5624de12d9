use Rattle.std.proofs.Common.{false, length, ap, ◌∙◌}
use Rattle.std.proofs.lemmas.List.{length-replicate}
use Rattle.cfg_sentences.proofs.OnceSteps.{none_taken}
use Rattle.cfg_sentences.proofs.sentences.dirty_productions.closed_by_prods.Goals as goal

pub close_by_prods-requires-clause-sound : goal.close_by_prods-requires-clause-sound
close_by_prods-requires-clause-sound g c =
    let made = c.in_ok-taken.ensures.bits in (
      c.requires.sound,
      c.requires.naming,
      ap length made ∙ length-replicate c.args.prods false ∙ c.requires.prods,
      none_taken g.T.ProdTable.is_closed_by c.args.table c.args.prods c.in_ok-taken.taken.bits made,
    )
