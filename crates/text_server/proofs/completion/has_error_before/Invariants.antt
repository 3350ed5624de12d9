-- An error that is before the offset is left.
use Rattle.std.proofs.Common.{◌≡◌, drop}
use Rattle.text_server.specs.Fronts.{has_error_before}
use Rattle.text_server.proofs.completion.has_error_before.Given as goal

abbrev pub invariant-items : goal.invariant-items
invariant-items l = has_error_before l.cut (drop l.item-index l.items) ≡ has_error_before l.cut l.items
