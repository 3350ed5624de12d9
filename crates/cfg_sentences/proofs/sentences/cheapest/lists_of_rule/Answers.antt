use Rattle.std.proofs.Common.{◌≡◌, ℕ, ◌<◌, List, [], length, get_or, sym, subst, arith}
use Rattle.cfg_theory.specs.Cost.{AreCheapest}
use Rattle.cfg_sentences.specs.CostTable.{cost_of}
use Rattle.cfg_sentences.proofs.Dictionary.{lists_count}
use Rattle.cfg_sentences.proofs.CheapestSteps.{row_at, are_cheapest, some_cheapest}
use Rattle.cfg_sentences.proofs.sentences.cheapest.lists_of_rule.Goals as goal

pub returns-clause-lists : goal.returns-clause-lists
returns-clause-lists g c =
    let number = g.S.IndexStorage.number in
    let G = c.args.least.now.grammar in
    let A = number c.args.ridx.0 in
    let f = cost_of c.args.least.now.costs in
    let table = c.in_ok-table.table.items in
    let row = c.swap_remove-lists.result in
    let rule = c.requires.rule in
    let count = c.in_ok-table.ensures.lists.count in
    let i : c.to_usize.result ≡ A = c.to_usize.ensures.value in
    let is : row ≡ get_or table A [] = row_at table c.to_usize.result A row i (omega (arith, rule, count)) c.swap_remove-lists.ensures.value in
    subst (AreCheapest G f A) (sym c.into_vec.ensures.lists)
    (are_cheapest G f c.args.least.now.table c.in_ok-wanted.wanted.bits table c.stays_least.ensures.costs c.stays_least.ensures.closed c.cheapest_lists_of_wanted_rules.ensures c.in_ok-wanted.ensures.handed_on c.in_ok-table.ensures.lists c.in_ok-table.ensures.joined
    A c.requires.cost.0 c.requires.cost.1 c.requires.cost.2 c.in_ok-wanted.ensures.rule row is c.into_vec.ensures.ordered)

pub returns-clause-some : goal.returns-clause-some
returns-clause-some g c =
    let number = g.S.IndexStorage.number in
    let G = c.args.least.now.grammar in
    let A = number c.args.ridx.0 in
    let f = cost_of c.args.least.now.costs in
    let table = c.in_ok-table.table.items in
    let row = c.swap_remove-lists.result in
    let rule = c.requires.rule in
    let count = c.in_ok-table.ensures.lists.count in
    let i : c.to_usize.result ≡ A = c.to_usize.ensures.value in
    let is : row ≡ get_or table A [] = row_at table c.to_usize.result A row i (omega (arith, rule, count)) c.swap_remove-lists.ensures.value in
    let lt = subst (λ (l : List (List ℕ)). 0 < length l) (sym c.into_vec.ensures.lists)
    (some_cheapest G f c.args.least.now.table c.in_ok-wanted.wanted.bits table c.stays_least.ensures.costs c.stays_least.ensures.closed c.cheapest_lists_of_wanted_rules.ensures c.in_ok-wanted.ensures.handed_on c.in_ok-table.ensures.lists c.in_ok-table.ensures.joined
    A c.requires.cost.0 c.requires.cost.1 c.requires.cost.2 c.in_ok-wanted.ensures.rule row is) in
    let n = lists_count number c.into_vec.result.items in
    omega (arith, lt, n)
