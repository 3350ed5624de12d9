use Rattle.std.proofs.Common.{[], ap, ◌∙◌}
use Rattle.cfg_read.specs.NameTables.{KnownNames}
use Rattle.cfg_read.specs.Settling.{UsesText}
use Rattle.cfg_read.proofs.yacc.validity_info.uses_before.Goals as goal

pub returns-clause-known : goal.returns-clause-known
returns-clause-known c = c.of.ensures ∙ ap (λ (k : KnownNames). (let u : UsesText = record { known = k; unknown = []; fresh = [] } in u)) c.in_ok-table.ensures
