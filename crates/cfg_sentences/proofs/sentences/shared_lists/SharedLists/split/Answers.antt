use Rattle.std.proofs.Common.{◌≡◌, ◌+◌, ◌<◌, [], length, get_or, map}
use Rattle.cfg_sentences.specs.declared.sentences.shared_lists.Part.TheVariants.{Pair}
use Rattle.cfg_sentences.specs.SharedLists.{spelled_on, list_by}
use Rattle.cfg_sentences.proofs.SharedSteps.{spelled_as, fit_as, pair_stacked, pair_fewer}
use Rattle.cfg_sentences.proofs.TurnSteps.{pushed_tokens, in_range}
use Rattle.cfg_sentences.proofs.sentences.shared_lists.SharedLists.split.Goals as goal

pub returns-in_ok-push-in-Pair-2-clause-rest : goal.returns-in_ok-push-in-Pair-2-clause-rest
returns-in_ok-push-in-Pair-2-clause-rest g c =
    let number = g.S.IndexStorage.number in
    let lists = c.args.self.now.lists in
    let table = map (list_by (spelled_on number [] c.self.inside.parts.items)) c.self.inside.of_rules.items in
    let fit = fit_as number c.self.inside.parts.items table c.args.self.now c.self.view_is c.self.invariant.0 c.args.list (in_range lists c.args.list c.requires.list) c.index.result.now (Pair c.in-Pair.left c.in-Pair.right) c.index.ensures c.in-Pair.is in
    let one = c.push.new.self.items in
    pushed_tokens lists one c.push-in-Pair.new.self.items c.in-Pair.left c.in_ok-push-in-Pair-2.ensures.items (pushed_tokens lists c.args.rest.now.items one c.in-Pair.right c.in_ok-push-in-Pair.ensures.items c.requires.rest fit.1) fit.0

pub returns-in_ok-push-in-Pair-2-clause-list : goal.returns-in_ok-push-in-Pair-2-clause-list
returns-in_ok-push-in-Pair-2-clause-list g c =
    let number = g.S.IndexStorage.number in
    let lists = c.args.self.now.lists in
    let table = map (list_by (spelled_on number [] c.self.inside.parts.items)) c.self.inside.of_rules.items in
    let is = spelled_as number c.self.inside.parts.items table c.args.self.now c.self.view_is c.self.invariant.0 c.args.list (in_range lists c.args.list c.requires.list) c.index.result.now (Pair c.in-Pair.left c.in-Pair.right) c.index.ensures c.in-Pair.is in
    pair_stacked lists c.args.rest.now.items c.push.new.self.items c.push-in-Pair.new.self.items c.args.list c.in-Pair.left c.in-Pair.right c.in_ok-push-in-Pair.ensures.items c.in_ok-push-in-Pair-2.ensures.items is

pub returns-in_ok-push-in-Pair-2-clause-fewer : goal.returns-in_ok-push-in-Pair-2-clause-fewer
returns-in_ok-push-in-Pair-2-clause-fewer g c =
    let number = g.S.IndexStorage.number in
    let lists = c.args.self.now.lists in
    let table = map (list_by (spelled_on number [] c.self.inside.parts.items)) c.self.inside.of_rules.items in
    let x = Pair c.in-Pair.left c.in-Pair.right in
    let lt = in_range lists c.args.list c.requires.list in
    let is = spelled_as number c.self.inside.parts.items table c.args.self.now c.self.view_is c.self.invariant.0 c.args.list lt c.index.result.now x c.index.ensures c.in-Pair.is in
    let fit = fit_as number c.self.inside.parts.items table c.args.self.now c.self.view_is c.self.invariant.0 c.args.list lt c.index.result.now x c.index.ensures c.in-Pair.is in
    pair_fewer lists c.args.rest.now.items c.push.new.self.items c.push-in-Pair.new.self.items c.args.list c.in-Pair.left c.in-Pair.right c.in_ok-push-in-Pair.ensures.items c.in_ok-push-in-Pair-2.ensures.items is fit.0 fit.1
