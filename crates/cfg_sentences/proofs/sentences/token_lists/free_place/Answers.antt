use Rattle.std.proofs.Common.{◌≡◌, ◌<◌, Bool, true, false, [], length, get_or, sym, ◌∙◌, subst, arith}
use Rattle.cfg_theory.specs.Cost.{IsBefore}
use Rattle.cfg_sentences.specs.TokenLists.{tokens_of, lists_of}
use Rattle.cfg_sentences.proofs.Dictionary.{lists_count, list_at, all_behind, any_default, same_if}
use Rattle.cfg_sentences.proofs.sentences.token_lists.free_place.Goals as goal

wrong : ◌≡◌ {A = Bool} false true → ⊥
wrong e = cc

pub returns-then-lists-index : goal.returns-then-lists-index
returns-then-lists-index g c =
    let number = g.S.IndexStorage.number in
    let count = lists_count number c.args.lists.now in
    let end = c.if-lists-index.true in
    let within = c.count_before-index.ensures.within in
    record {
      within = omega (arith, count, within);
      before = c.count_before-index.ensures.before;
      behind = λ k le lt. absurd (omega (arith, count, end, le, lt));
    }

pub returns-then-is_before : goal.returns-then-is_before
returns-then-is_before g c =
    let number = g.S.IndexStorage.number in
    let V = lists_of number c.args.lists.now in
    let W = tokens_of number c.args.list.now in
    let p = c.count_before-index.result in
    let less = c.if-lists-index.false in
    let count = lists_count number c.args.lists.now in
    let lt : p < length V = omega (arith, less, count) in
    let e = list_at number c.args.lists.now p c.index-lists-index.result c.as_slice.result.now less c.index-lists-index.is c.as_slice.ensures.value in
    let h : IsBefore W (get_or V p []) = subst (IsBefore W) e (c.is_before.ensures.0 c.if-is_before.true) in
    record { within = omega (arith, lt); before = c.count_before-index.ensures.before; behind = all_behind V W c.requires p lt h }

pub returns : goal.returns
returns g c =
    let number = g.S.IndexStorage.number in
    let V = lists_of number c.args.lists.now in
    let W = tokens_of number c.args.list.now in
    let p = c.count_before-index.result in
    let less = c.if-lists-index.false in
    let count = lists_count number c.args.lists.now in
    let lt : p < length V = omega (arith, less, count) in
    let e = list_at number c.args.lists.now p c.index-lists-index.result c.as_slice.result.now less c.index-lists-index.is c.as_slice.ensures.value in
    let a = λ (h : IsBefore (get_or V p []) W). c.count_before-index.ensures.behind p (omega arith) less h in
    let b = λ (h : IsBefore W (get_or V p [])). wrong (sym c.if-is_before.false ∙ c.is_before.ensures.1 (subst (IsBefore W) (sym e) h)) in
    (p, lt, any_default V p W [] lt ∙ same_if (get_or V p []) W a b)
