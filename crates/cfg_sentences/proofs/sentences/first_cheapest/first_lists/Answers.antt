use Rattle.std.proofs.Common.{◌≡◌, ◌∙◌, subst}
use Rattle.cfg_sentences.specs.CostTable.{cost_of}
use Rattle.cfg_sentences.specs.EarliestTable.{FoundLists, IsTakenIn}
use Rattle.cfg_sentences.proofs.EarliestSteps.{none_found}
use Rattle.cfg_sentences.proofs.sentences.first_cheapest.first_lists.Goals as goal

pub closed_by_prods-requires-clause-sound : goal.closed_by_prods-requires-clause-sound
closed_by_prods-requires-clause-sound g c =
    let G = c.args.least.now.grammar in
    let n : c.to_usize.result ≡ G.rules = c.to_usize.ensures.value ∙ c.rules_len.ensures in
    (c.requires, none_found G (cost_of c.args.least.now.costs) c.args.least.now.table c.to_usize.result c.in_ok-firsts.firsts.shared.table n c.in_ok-firsts.ensures.table)

pub returns-clause-taken_in : goal.returns-clause-taken_in
returns-clause-taken_in g c = λ p lt.
    let t = c.in_ok-closed.closed in
    let h = c.in_ok-closed.ensures in
    let seen : FoundLists = record { table = t.firsts.shared.table; is_told = t.firsts.is_told; left = t.firsts.left } in
    subst (λ v. IsTakenIn v.grammar (cost_of v.costs) v.table c.args.wanted.now.bits p seen) h.same.0
    (subst (λ w. IsTakenIn t.least.now.grammar (cost_of t.least.now.costs) t.least.now.table w.bits p seen) h.same.1 (h.closed p lt))
