use Rattle.std.proofs.Common.{◌≡◌, ◌∙◌}
use Rattle.cfg_sentences.specs.CostTable.{cost_of}
use Rattle.cfg_sentences.proofs.CheapestSteps.{no_lists_yet}
use Rattle.cfg_sentences.proofs.sentences.cheapest.cheapest_lists.Goals as goal

pub closed_by_prods-requires-clause-sound : goal.closed_by_prods-requires-clause-sound
closed_by_prods-requires-clause-sound g c =
    let least = c.args.least.now in
    let G = least.grammar in
    let n : c.to_usize.result ≡ G.rules = c.to_usize.ensures.value ∙ c.rules_len.ensures in
    (c.requires.width, no_lists_yet G (cost_of least.costs) least.table c.to_usize.result c.in_ok-lists.lists.items n c.in_ok-lists.ensures)
