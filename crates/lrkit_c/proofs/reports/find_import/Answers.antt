use Rattle.std.proofs.Common.{ap, ◌∙◌}
use Rattle.yacc_import.specs.Changes.{bytes_of}
use Rattle.lrkit_c.proofs.reports.find_import.Goals as goal

pub returns-in-Ok-import : goal.returns-in-Ok-import
returns-in-Ok-import c = c.in-Ok-import.ensures.text ∙ ap bytes_of (rw c.in-Ok.ensures.cases.0 at c.in-Ok-import.ensures.made)
