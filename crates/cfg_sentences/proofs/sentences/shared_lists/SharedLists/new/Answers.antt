use Rattle.std.proofs.Common.{◌≡◌, ℕ, [], List, Option, map, ap, ◌∙◌}
use Rattle.cfg_sentences.specs.SharedLists.{spelled_on, list_by}
use Rattle.cfg_sentences.proofs.SharedSteps.{map_none}
use Rattle.cfg_sentences.proofs.sentences.shared_lists.SharedLists.new.Goals as goal

pub returns : goal.returns
returns g c = let lists = spelled_on g.S.IndexStorage.number [] c.push.new.self.items in ap (λ (t : List (Option ℕ)). map (list_by lists) t) c.in_ok-of_rules.ensures ∙ map_none lists c.args.rules
