use Rattle.std.proofs.Common.{◌++◌, ap, ◌∙◌, arith}
use Rattle.cfg_sentences.proofs.Dictionary.{lists_count, still_ordered, added}
use Rattle.cfg_sentences.proofs.sentences.token_lists.TokenLists.insert.Goals as goal

pub invariant_of-self-2 : goal.invariant_of-self-2
invariant_of-self-2 g c =
    let number = g.S.IndexStorage.number in
    let same = c.in_ok-append.ensures ∙ ap (λ l. l ++ c.args.list.now) c.new-copy.ensures.items in
    still_ordered number c.self.inside.lists.items c.insert.new.self.items c.append.new.list c.in-Some.index c.args.list.now c.in_ok-insert.ensures.items same c.as_slice.result.now c.as_slice.ensures.value c.in-Some.ensures c.self.invariant

pub returns : goal.returns
returns g c =
    let number = g.S.IndexStorage.number in
    let same = c.in_ok-append.ensures ∙ ap (λ l. l ++ c.args.list.now) c.new-copy.ensures.items in
    let new = c.insert.new.self in
    let count = lists_count number new.items in
    let len = new.ok.0 in
    let small = new.small in
    added number c.self.inside.lists.items new.items c.append.new.list c.in-Some.index c.args.list.now c.in_ok-insert.ensures.items same c.as_slice.result.now c.as_slice.ensures.value c.in-Some.ensures c.args.self.now c.self.view_is (omega (arith, count, len, small))
