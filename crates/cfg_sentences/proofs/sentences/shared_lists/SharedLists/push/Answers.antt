use Rattle.std.proofs.Common.{◌≡◌, ℕ, ◌+◌, ◌<◌, [], ◌∷◌, ◌++◌, List, Option, length, map, sym, ap, ◌∙◌, subst, arith}
use Rattle.std.proofs.lemmas.List.{length-append}
use Rattle.cfg_sentences.specs.SharedLists.{Shared, spelled_by, spelled_on, IsFit, list_by}
use Rattle.cfg_sentences.proofs.SharedSteps.{spelled_push, pushed, table_on}
use Rattle.cfg_sentences.proofs.sentences.shared_lists.SharedLists.push.Goals as goal

pub invariant_of-self-2 : goal.invariant_of-self-2
invariant_of-self-2 g c =
    let number = g.S.IndexStorage.number in
    let old = c.self.inside.parts.items in
    let fit = subst (λ (v : Shared). IsFit v.lists c.args.part) (sym c.self.view_is) c.requires in
    let n = ap length c.in_ok-push.ensures.items ∙ length-append old (c.args.part ∷ []) in
    (pushed number old c.push.new.self.items c.args.part c.in_ok-push.ensures.items c.self.invariant.0 fit, λ A k e. let lt = c.self.invariant.1 A k e in omega (arith, lt, n))

pub returns-clause-lists : goal.returns-clause-lists
returns-clause-lists g c =
    let number = g.S.IndexStorage.number in
    ap (spelled_on number []) c.in_ok-push.ensures.items ∙ spelled_push number [] c.self.inside.parts.items c.args.part ∙ ap (λ (v : Shared). v.lists ++ spelled_by number v.lists c.args.part ∷ []) c.self.view_is

pub returns-clause-table : goal.returns-clause-table
returns-clause-table g c =
    let number = g.S.IndexStorage.number in
    let old = c.self.inside.parts.items in
    let lists = spelled_on number [] old in
    let table = c.self.inside.of_rules.items in
    ap (λ (ls : List (List ℕ)). map (list_by ls) table) (ap (spelled_on number []) c.in_ok-push.ensures.items ∙ spelled_push number [] old c.args.part)
    ∙ table_on lists (spelled_by number lists c.args.part ∷ []) (length old) table c.self.invariant.0.count c.self.invariant.1 ∙ ap (λ (v : Shared). v.table) c.self.view_is
