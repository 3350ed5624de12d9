use Rattle.std.proofs.Common.{◌++◌, ap, ◌∙◌}
use Rattle.std.specs.Prelude.{codes}
use Rattle.parse_trees.proofs.error_texts.part_of.Goals as goal

pub returns-in_ok-push_name-in-Insert : goal.returns-in_ok-push_name-in-Insert
returns-in_ok-push_name-in-Insert g c = λ names answers.
    rw c.in-Insert.is (c.in_ok-push_name-in-Insert.ensures names answers ∙ ap (λ l. l ++ names (g.T.StorageT.IndexStorage.number c.in-Insert.tidx.0)) (c.in_ok-push_str-in-Insert.ensures.bytes ∙ ap (λ l. l ++ codes "Insert ") c.new-text.ensures.bytes))
