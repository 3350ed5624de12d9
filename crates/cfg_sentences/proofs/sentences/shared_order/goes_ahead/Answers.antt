use Rattle.std.proofs.Common.{rules, ◌≡◌, ◌<◌, [], ◌∷◌, ◌++◌, length, get_or, sym, ap, subst, arith}
use Rattle.std.proofs.lemmas.List.{length-append}
use Rattle.cfg_sentences.specs.SharedLists.{HasTokens, stacked}
use Rattle.cfg_sentences.proofs.TurnSteps.{match_none, match_some, pushed_on, popped_all, rests_by, rests_on, told_behind, told_ahead, left_begins, right_begins}
use Rattle.cfg_sentences.proofs.sentences.shared_order.goes_ahead.Goals as goal

pub returns-then-len-gt0 : goal.returns-then-len-gt0
returns-then-len-gt0 g c =
    let lists = c.args.shared.now.lists in
    let ends : c.turns.lefts.items ≡ [] = search rules in
    let n = c.len.ensures in
    let lt = c.if-len-gt0.true in
    left_begins lists (get_or lists c.args.left []) (get_or lists c.args.right []) c.turns.lefts.items c.turns.rights.items c.turns.invariant.rests ends (omega (arith, n, lt)) c.turns.invariant.rights

pub returns-in_default-pop : goal.returns-in_default-pop
returns-in_default-pop g c =
    let lists = c.args.shared.now.lists in
    let ends : c.turns.rights.items ≡ [] = search rules in
    let n = ap length c.in-Some.ensures.items in
    let m = length-append c.pop.new.self.items (c.in-Some.first ∷ []) in
    right_begins lists (get_or lists c.args.left []) (get_or lists c.args.right []) c.turns.lefts.items c.turns.rights.items c.turns.invariant.rests ends (omega (arith, n, m)) c.turns.invariant.lefts

pub turn-requires-clause-lefts : goal.turn-requires-clause-lefts
turn-requires-clause-lefts g c = popped_all (HasTokens c.args.shared.now.lists) c.turns.lefts.items c.pop.new.self.items c.in-Some.first c.in-Some.ensures.items c.turns.invariant.lefts

pub turn-requires-clause-rights : goal.turn-requires-clause-rights
turn-requires-clause-rights g c = popped_all (HasTokens c.args.shared.now.lists) c.turns.rights.items c.pop-in-turns.new.self.items c.in-Some-pop.second c.in-Some-pop.ensures.items c.turns.invariant.rights

pub returns-in-Some-2 : goal.returns-in-Some-2
returns-in-Some-2 g c =
    let lists = c.args.shared.now.lists in
    let u = get_or lists c.args.left [] in
    let v = get_or lists c.args.right [] in
    let a = get_or lists c.in-Some.first [] ++ stacked lists c.pop.new.self.items in
    let z = get_or lists c.in-Some-pop.second [] ++ stacked lists c.pop-in-turns.new.self.items in
    let rests = rests_by u v (stacked lists c.turns.lefts.items) (stacked lists c.turns.rights.items) a z c.turns.invariant.rests
    (pushed_on lists c.pop.new.self.items c.turns.lefts.items c.in-Some.first c.in-Some.ensures.items)
    (pushed_on lists c.pop-in-turns.new.self.items c.turns.rights.items c.in-Some-pop.second c.in-Some-pop.ensures.items) in
    told_ahead u v c.in-Some-2.told (told_behind u v a z c.in-Some-2.told rests (match_some _ _ c.in_ok-told.field-0 c.in-Some-2.told c.in_ok-told.ensures.told c.in-Some-2.is))

pub turns-preserved : goal.turns-preserved
turns-preserved g c =
    let lists = c.args.shared.now.lists in
    let u = get_or lists c.args.left [] in
    let v = get_or lists c.args.right [] in
    let a = get_or lists c.in-Some.first [] ++ stacked lists c.pop.new.self.items in
    let z = get_or lists c.in-Some-pop.second [] ++ stacked lists c.pop-in-turns.new.self.items in
    let rests = rests_by u v (stacked lists c.turns.lefts.items) (stacked lists c.turns.rights.items) a z c.turns.invariant.rests
    (pushed_on lists c.pop.new.self.items c.turns.lefts.items c.in-Some.first c.in-Some.ensures.items)
    (pushed_on lists c.pop-in-turns.new.self.items c.turns.rights.items c.in-Some-pop.second c.in-Some-pop.ensures.items) in
    record {
      lefts = c.in_ok-told.ensures.lefts;
      rights = c.in_ok-told.ensures.rights;
      rests = rests_on u v a z (stacked lists c.turn.new.lefts.items) (stacked lists c.turn.new.rights.items) rests (match_none _ c.in_ok-told.field-0 c.in_ok-told.ensures.told c.in_default-2.is);
    }
