use Rattle.std.proofs.Common.{◌≡◌, ℕ, ◌+◌, ◌<◌, List, [], length, get_or, subst, arith}
use Rattle.cfg_sentences.specs.TokenLists.{tokens_of, lists_of, AddsLists}
use Rattle.cfg_sentences.proofs.Dictionary.{lists_count, list_at, IsOneBelow, adds_both, one_more, none_below, all_added}
use Rattle.cfg_sentences.proofs.sentences.token_lists.insert_all.Goals as goal

pub lists-init : goal.lists-init
lists-init g c = none_below (lists_of g.S.IndexStorage.number c.args.lists.now) c.args.own.now

pub lists-preserved : goal.lists-preserved
lists-preserved g c =
    let number = g.S.IndexStorage.number in
    let V = lists_of number c.args.lists.now in
    let k = c.lists.index in
    let less : k < length c.args.lists.now = c.lists-test.true in
    let w = tokens_of number c.as_slice.result.now in
    let e : w ≡ get_or V k [] = list_at number c.args.lists.now k c.index-lists-index.result c.as_slice.result.now less c.index-lists-index.is c.as_slice.ensures.value in
    adds_both (IsOneBelow V k) (λ v. v ≡ get_or V k []) (IsOneBelow V (k + 1)) c.args.own.now c.lists.own c.insert.new.self c.lists.changed c.in_ok-changed.field-0 c.lists.invariant
    (subst (λ (l : List ℕ). AddsLists (λ v. v ≡ l) c.lists.own c.insert.new.self c.in_ok-changed.field-0) e c.in_ok-changed.ensures) (one_more V k)

pub returns : goal.returns
returns g c =
    let number = g.S.IndexStorage.number in
    let count = lists_count number c.args.lists.now in
    let end = c.lists-test.false in
    all_added (lists_of number c.args.lists.now) c.lists.index c.args.own.now c.lists.own c.lists.changed (omega (arith, count, end)) c.lists.invariant
