use Rattle.std.proofs.Common.{◌≡◌, ◌==◌, ◌≤◌, false, [], length, get_or, refl, ap, ◌∙◌, subst, arith}
use Rattle.std.proofs.lemmas.Str.{IsCharBoundary-start}
use Rattle.std.specs.List.{list_any}
use Rattle.maximal_munch.specs.Beginnings.{rows_of}
use Rattle.maximal_munch.proofs.BestSoFar.{none_yet, best_of_all}
use Rattle.maximal_munch.proofs.TriedLemmas.{are_bytes, untried}
use Rattle.maximal_munch.proofs.matching.best_match.Goals as goal

pub rules-init : goal.rules-init
rules-init c = record { best = none_yet; within = omega arith; cut = IsCharBoundary-start _ c.utf8.rest; same = refl }

pub returns-clause-best : goal.returns-clause-best
returns-clause-best c =
    let set = c.args.rules.now in
    let tried = c.tried_before-tried.result.now in
    let row = c.tried_before-tried.ensures ∙ ap (λ text. get_or (rows_of set.tried) (get_or text 0 0) []) c.as_bytes.ensures.value in
    let all : length tried ≤ c.rules.index = omega (arith, c.rules-test.false, c.rules.auto.index-end) in
    best_of_all tried c.rules.index all c.rules.invariant.best
    (λ j none. untried set c.args.condition c.args.rest.now (are_bytes c.args.rest.now c.type_inv.rest) j (subst (λ r. list_any (λ x. x == j) r ≡ false) row none))
