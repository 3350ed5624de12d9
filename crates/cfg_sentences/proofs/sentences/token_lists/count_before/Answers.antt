use Rattle.std.proofs.Common.{◌≡◌, ◌+◌, ◌-◌, ◌/◌, ◌<◌, Bool, true, false, [], length, get_or, sym, ◌∙◌, subst, arith}
use Rattle.cfg_theory.specs.Cost.{IsBefore}
use Rattle.cfg_sentences.specs.TokenLists.{tokens_of, lists_of}
use Rattle.cfg_sentences.proofs.Dictionary.{lists_count, list_at, all_before, none_behind}
use Rattle.cfg_sentences.proofs.sentences.token_lists.count_before.Goals as goal

wrong : ◌≡◌ {A = Bool} false true → ⊥
wrong e = cc

pub halves-preserved-then-is_before : goal.halves-preserved-then-is_before
halves-preserved-then-is_before g c =
    let number = g.S.IndexStorage.number in
    let V = lists_of number c.args.lists.now in
    let W = tokens_of number c.args.list.now in
    let m = c.halves.low + (c.halves.high - c.halves.low) / 2 in
    let test = c.halves-test.true in
    let within = c.halves.invariant.within in
    let less : m < length c.args.lists.now = omega (arith, test, within) in
    let count = lists_count number c.args.lists.now in
    let lt : m < length V = omega (arith, less, count) in
    let e = list_at number c.args.lists.now m c.index-lists-middle.result c.as_slice.result.now less c.index-lists-middle.is c.as_slice.ensures.value in
    let h : IsBefore (get_or V m []) W = subst (λ l. IsBefore l W) e (c.is_before.ensures.0 c.if-is_before.true) in
    record { order = omega (arith, test); within = within; before = all_before V W c.requires m lt h; behind = c.halves.invariant.behind }

pub halves-preserved : goal.halves-preserved
halves-preserved g c =
    let number = g.S.IndexStorage.number in
    let V = lists_of number c.args.lists.now in
    let W = tokens_of number c.args.list.now in
    let m = c.halves.low + (c.halves.high - c.halves.low) / 2 in
    let test = c.halves-test.true in
    let within = c.halves.invariant.within in
    let less : m < length c.args.lists.now = omega (arith, test, within) in
    let count = lists_count number c.args.lists.now in
    let lt : m < length V = omega (arith, less, count) in
    let e = list_at number c.args.lists.now m c.index-lists-middle.result c.as_slice.result.now less c.index-lists-middle.is c.as_slice.ensures.value in
    let not = λ (h : IsBefore (get_or V m []) W). wrong (sym c.if-is_before.false ∙ c.is_before.ensures.1 (subst (λ l. IsBefore l W) (sym e) h)) in
    record { order = omega (arith, test); within = omega (arith, less); before = c.halves.invariant.before; behind = λ k le below. none_behind V W c.requires m lt not k le (omega (arith, below, count)) }
