use Rattle.std.proofs.Common.{◌≡◌, ℕ, [], Option, Some, get_or, set, ap, ◌∙◌}
use Rattle.std.proofs.lemmas.List.{map-set}
use Rattle.cfg_sentences.specs.SharedLists.{Shared, spelled_on, list_by}
use Rattle.cfg_sentences.proofs.sentences.shared_lists.SharedLists.put.Goals as goal

pub returns-clause-table : goal.returns-clause-table
returns-clause-table g c =
    map-set (list_by (spelled_on g.S.IndexStorage.number [] c.self.inside.parts.items)) c.self.inside.of_rules.items c.args.rule (Some c.args.list) ∙ ap (λ (v : Shared). set v.table c.args.rule (Some (get_or v.lists c.args.list []))) c.self.view_is
