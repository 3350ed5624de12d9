use Rattle.std.proofs.Common.{◌<◌, length, refl, arith}
use Rattle.cfg_sentences.specs.CostTable.{cost_of}
use Rattle.cfg_sentences.specs.TokenLists.{tokens_of, lists_of}
use Rattle.cfg_sentences.proofs.Dictionary.{lists_count, list_at}
use Rattle.cfg_sentences.proofs.CheapestSteps.{is_first}
use Rattle.cfg_sentences.proofs.sentences.first_cheapest.first_of_all.Goals as goal

pub returns : goal.returns
returns g c =
    let number = g.S.IndexStorage.number in
    let xs = c.in_ok-lists.lists.items in
    let some : 0 < length xs = c.in_ok-lists.ensures.some in
    let count = lists_count number xs in
    let w = c.swap_remove.result in
    is_first c.args.least.now.grammar (cost_of c.args.least.now.costs) (number c.args.ridx.0) (lists_of number xs) c.in_ok-lists.ensures.lists (omega (arith, some, count)) (tokens_of number w.items)
    (list_at number xs 0 w w.items some c.swap_remove.ensures.value refl)
