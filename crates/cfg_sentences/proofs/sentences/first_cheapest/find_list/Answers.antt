use Rattle.std.proofs.Common.{◌≡◌, ℕ, ◌<◌, List, [], None, length, get_or, refl, sym, ap, ◌∙◌, subst}
use Rattle.cfg_sentences.specs.CostTable.{cost_of}
use Rattle.cfg_sentences.specs.CheapestTable.{IsFirstCheapest}
use Rattle.cfg_sentences.specs.EarliestTable.{IsTakenIn}
use Rattle.cfg_sentences.proofs.EarliestSteps.{some_list, is_first}
use Rattle.cfg_sentences.proofs.sentences.first_cheapest.find_list.Goals as goal

pub unreachable-requires : goal.unreachable-requires
unreachable-requires g c =
    let number = g.S.IndexStorage.number in
    let G = c.args.least.now.grammar in
    let f = cost_of c.args.least.now.costs in
    let A = number c.args.ridx.0 in
    let v = c.in_ok-firsts.firsts in
    let K = v.shared.table in
    let here : get_or K A None ≡ get_or K c.to_usize.result None = ap (λ (k : ℕ). get_or K k None) (sym c.to_usize.ensures.value) in
    some_list G f c.args.least.now.table c.in_ok-wanted.wanted.bits K v.left c.stays_least.ensures.costs c.stays_least.ensures.closed c.in_ok-wanted.ensures.handed_on c.in_ok-firsts.ensures.lists (λ p lt t. c.in_ok-firsts.ensures.taken_in p lt c.if-not-firsts.false)
    A c.requires.cost.0 c.requires.cost.1 c.requires.cost.2 c.in_ok-wanted.ensures.rule (get_or K A None) refl (here ∙ c.in-None.ensures)

pub returns : goal.returns
returns g c =
    let number = g.S.IndexStorage.number in
    let G = c.args.least.now.grammar in
    let f = cost_of c.args.least.now.costs in
    let A = number c.args.ridx.0 in
    let v = c.in_ok-firsts.firsts in
    let K = v.shared.table in
    let here : get_or K A None ≡ get_or K c.to_usize.result None = ap (λ (k : ℕ). get_or K k None) (sym c.to_usize.ensures.value) in
    subst (IsFirstCheapest G f A) (sym c.in_ok-list-in-Some.ensures) (is_first G f c.args.least.now.table c.in_ok-wanted.wanted.bits K v.left c.stays_least.ensures.costs c.stays_least.ensures.closed c.in_ok-wanted.ensures.handed_on c.in_ok-firsts.ensures.lists (λ p lt t. c.in_ok-firsts.ensures.taken_in p lt c.if-not-firsts.false)
    A c.requires.cost.0 c.requires.cost.1 c.requires.cost.2 c.in_ok-wanted.ensures.rule (get_or K A None) refl (get_or v.shared.lists c.in-Some.number []) (here ∙ c.in-Some.ensures.1))
