use Rattle.std.proofs.Common.{◌≡◌, ℕ, ◌+◌, ◌<◌, [], ◌++◌, length, map, get_or, ap, ◌∙◌, arith}
use Rattle.std.proofs.lemmas.List.{length-append}
use Rattle.cfg_sentences.specs.declared.sentences.shared_lists.Part.TheVariants.{Pair}
use Rattle.cfg_sentences.specs.SharedLists.{spelled_on, list_by}
use Rattle.cfg_sentences.proofs.SharedSteps.{spelled_as, fit_as}
use Rattle.cfg_sentences.proofs.sentences.shared_lists.SharedLists.is_empty.Goals as goal

pub returns-in-Pair-clause-some : goal.returns-in-Pair-clause-some
returns-in-Pair-clause-some g c _ =
    let number = g.S.IndexStorage.number in
    let parts = c.self.inside.parts.items in
    let table = map (list_by (spelled_on number [] parts)) c.self.inside.of_rules.items in
    let lists = c.args.self.now.lists in
    let x = Pair c.in-Pair.field-0 c.in-Pair.field-1 in
    let is = spelled_as number parts table c.args.self.now c.self.view_is c.self.invariant.0 c.args.list c.requires c.index.result.now x c.index.ensures c.in-Pair.is in
    let fit = fit_as number parts table c.args.self.now c.self.view_is c.self.invariant.0 c.args.list c.requires c.index.result.now x c.index.ensures c.in-Pair.is in
    let n = ap length is ∙ length-append (get_or lists c.in-Pair.field-0 []) (get_or lists c.in-Pair.field-1 []) in
    let lt = fit.0 in
    omega (arith, n, lt)
