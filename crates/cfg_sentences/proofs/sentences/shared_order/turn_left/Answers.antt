use Rattle.std.proofs.Common.{◌≡◌, ℕ, [], ◌∷◌, ◌++◌, List, get_or, ap, ◌∙◌}
use Rattle.cfg_sentences.specs.SharedLists.{stacked}
use Rattle.cfg_sentences.proofs.TurnSteps.{match_none, match_some, same_rests, pushed_on, both_tokens}
use Rattle.cfg_sentences.proofs.sentences.shared_order.turn_left.Goals as goal

pub returns-in_default-clause-told : goal.returns-in_default-clause-told
returns-in_default-clause-told g c =
    let lists = c.args.shared.now.lists in
    same_rests (get_or lists c.args.left [] ++ stacked lists c.args.lefts.now.items) (get_or lists c.args.right [] ++ stacked lists c.args.rights.now.items) (stacked lists c.split.new.rest.items) (stacked lists c.push.new.self.items)
    (match_none _ c.in_ok-token.field-0 c.in_ok-token.ensures.list c.in_default.is)
    (pushed_on lists c.args.rights.now.items c.push.new.self.items c.args.right c.in_ok-push.ensures.items)

pub returns-in_default-2-clause-told : goal.returns-in_default-2-clause-told
returns-in_default-2-clause-told g c =
    let lists = c.args.shared.now.lists in
    let left = c.args.left in
    let one = match_some _ _ c.in_ok-token.field-0 c.in-Some.token c.in_ok-token.ensures.list c.in-Some.is in
    same_rests (get_or lists left [] ++ stacked lists c.args.lefts.now.items) (get_or lists c.args.right [] ++ stacked lists c.args.rights.now.items) (stacked lists c.push-in_default-2.new.self.items) (stacked lists c.split-2.new.rest.items)
    (pushed_on lists c.args.lefts.now.items c.push-in_default-2.new.self.items left (c.in_ok-push-2.ensures.items ∙ ap (λ (l : List ℕ). l ++ left ∷ []) one.1))
    (match_none _ c.in_ok-other.field-0 c.in_ok-other.ensures.list c.in_default-2.is)

pub returns-clause-told : goal.returns-clause-told
returns-clause-told g c =
    let number = g.S.IndexStorage.number in
    let lists = c.args.shared.now.lists in
    let one = match_some _ _ c.in_ok-token.field-0 c.in-Some.token c.in_ok-token.ensures.list c.in-Some.is in
    let two = match_some _ _ c.in_ok-other.field-0 c.in-Some-2.other c.in_ok-other.ensures.list c.in-Some-2.is in
    both_tokens (get_or lists c.args.left []) (get_or lists c.args.right []) (stacked lists c.args.lefts.now.items) (stacked lists c.args.rights.now.items) (stacked lists c.split.new.rest.items) (stacked lists c.split-2.new.rest.items) (number c.in-Some.token.0) (number c.in-Some-2.other.0) c.told_by.result
    one.0 two.0 (ap (stacked lists) one.1) (ap (stacked lists) two.1) c.told_by.ensures
