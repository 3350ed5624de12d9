use Rattle.std.proofs.Common.{◌∷◌, drop, ap, ◌∙◌}
use Rattle.lr_theory.specs.Repair.{delete, keep}
use Rattle.parse_trees.specs.Shown.{shown}
use Rattle.parse_trees.specs.Edits.{edit_of}
use Rattle.parse_trees.proofs.ListsAt.{drop_at}
use Rattle.parse_trees.proofs.parse_repair.show_step.Goals as goal

pub returns-else-index-count : goal.returns-else-index-count
returns-else-index-count g c = λ es. ap (λ s. shown (edit_of g.S.IndexStorage.number s ∷ es) (drop c.args.index c.args.lexemes.now)) c.in-Delete.is ∙ ap (shown (delete ∷ es)) (drop_at c.args.lexemes.now c.args.index c.at.result c.at.ensures)

pub returns-else-index-count-2 : goal.returns-else-index-count-2
returns-else-index-count-2 g c = λ es. ap (λ s. shown (edit_of g.S.IndexStorage.number s ∷ es) (drop c.args.index c.args.lexemes.now)) c.in-Shift.is ∙ ap (shown (keep ∷ es)) (drop_at c.args.lexemes.now c.args.index c.at-in-Shift.result c.at-in-Shift.ensures)
