use Rattle.std.proofs.Common.{◌≡◌, ℕ, ◌+◌, ◌<◌, [], ◌∷◌, ◌++◌, List, length, map, get_or, sym, ap, ◌∙◌, arith}
use Rattle.std.proofs.lemmas.List.Elements.{All-push, All-same}
use Rattle.cfg_sentences.specs.declared.sentences.shared_lists.Part.TheVariants.{Empty, Token, Pair}
use Rattle.cfg_sentences.specs.TokenLists.{tokens_of}
use Rattle.cfg_sentences.specs.SharedLists.{spelled_on, list_by, stacked}
use Rattle.cfg_sentences.proofs.SharedSteps.{spelled_as, fit_as, tokens_push, pair_stacked, pair_fewer, pair_within}
use Rattle.cfg_sentences.proofs.sentences.shared_lists.SharedLists.open.Goals as goal

pub returns-in-Empty-clause-list : goal.returns-in-Empty-clause-list
returns-in-Empty-clause-list g c =
    let number = g.S.IndexStorage.number in
    let parts = c.self.inside.parts.items in
    let table = map (list_by (spelled_on number [] parts)) c.self.inside.of_rules.items in
    let is = spelled_as number parts table c.args.self.now c.self.view_is c.self.invariant.0 c.args.list c.requires.list c.index.result.now Empty c.index.ensures c.in-Empty.is in
    ap (λ (l : List ℕ). tokens_of number c.args.out.now.items ++ (l ++ stacked c.args.self.now.lists c.args.rest.now.items)) (sym is)

pub returns-in_ok-push-in-Token-clause-list : goal.returns-in_ok-push-in-Token-clause-list
returns-in_ok-push-in-Token-clause-list g c =
    let number = g.S.IndexStorage.number in
    let parts = c.self.inside.parts.items in
    let table = map (list_by (spelled_on number [] parts)) c.self.inside.of_rules.items in
    let is = spelled_as number parts table c.args.self.now c.self.view_is c.self.invariant.0 c.args.list c.requires.list c.index.result.now (Token c.in-Token.token) c.index.ensures c.in-Token.is in
    tokens_push number c.push.new.self.items c.args.out.now.items c.in-Token.token (stacked c.args.self.now.lists c.args.rest.now.items) (get_or c.args.self.now.lists c.args.list []) c.in_ok-push-in-Token.ensures.items is

pub returns-in_ok-push-in-Pair-2-clause-rest : goal.returns-in_ok-push-in-Pair-2-clause-rest
returns-in_ok-push-in-Pair-2-clause-rest g c =
    let number = g.S.IndexStorage.number in
    let parts = c.self.inside.parts.items in
    let table = map (list_by (spelled_on number [] parts)) c.self.inside.of_rules.items in
    let fit = fit_as number parts table c.args.self.now c.self.view_is c.self.invariant.0 c.args.list c.requires.list c.index.result.now (Pair c.in-Pair.left c.in-Pair.right) c.index.ensures c.in-Pair.is in
    pair_within c.args.self.now.lists c.args.rest.now.items c.push-in-Pair.new.self.items c.push-in-Pair-2.new.self.items c.in-Pair.left c.in-Pair.right c.in_ok-push-in-Pair.ensures.items c.in_ok-push-in-Pair-2.ensures.items fit.0 fit.1 c.requires.rest

pub returns-in_ok-push-in-Pair-2-clause-list : goal.returns-in_ok-push-in-Pair-2-clause-list
returns-in_ok-push-in-Pair-2-clause-list g c =
    let number = g.S.IndexStorage.number in
    let parts = c.self.inside.parts.items in
    let table = map (list_by (spelled_on number [] parts)) c.self.inside.of_rules.items in
    let is = spelled_as number parts table c.args.self.now c.self.view_is c.self.invariant.0 c.args.list c.requires.list c.index.result.now (Pair c.in-Pair.left c.in-Pair.right) c.index.ensures c.in-Pair.is in
    ap (λ (l : List ℕ). tokens_of number c.args.out.now.items ++ l) (pair_stacked c.args.self.now.lists c.args.rest.now.items c.push-in-Pair.new.self.items c.push-in-Pair-2.new.self.items c.args.list c.in-Pair.left c.in-Pair.right c.in_ok-push-in-Pair.ensures.items c.in_ok-push-in-Pair-2.ensures.items is)

pub returns-in_ok-push-in-Pair-2-clause-fewer : goal.returns-in_ok-push-in-Pair-2-clause-fewer
returns-in_ok-push-in-Pair-2-clause-fewer g c =
    let number = g.S.IndexStorage.number in
    let parts = c.self.inside.parts.items in
    let table = map (list_by (spelled_on number [] parts)) c.self.inside.of_rules.items in
    let x = Pair c.in-Pair.left c.in-Pair.right in
    let is = spelled_as number parts table c.args.self.now c.self.view_is c.self.invariant.0 c.args.list c.requires.list c.index.result.now x c.index.ensures c.in-Pair.is in
    let fit = fit_as number parts table c.args.self.now c.self.view_is c.self.invariant.0 c.args.list c.requires.list c.index.result.now x c.index.ensures c.in-Pair.is in
    pair_fewer c.args.self.now.lists c.args.rest.now.items c.push-in-Pair.new.self.items c.push-in-Pair-2.new.self.items c.args.list c.in-Pair.left c.in-Pair.right c.in_ok-push-in-Pair.ensures.items c.in_ok-push-in-Pair-2.ensures.items is fit.0 fit.1
