use Rattle.std.proofs.Common.{◌∷◌, ◌++◌, [], refl, ap, ◌∙◌}
use Rattle.lrpar.specs.declared.parse_error.LexParseError.TheVariants as errors
use Rattle.lrpar.proofs.handed_out.hand_out.Goals as goal

pub returns-in_ok-push-in-Fault : goal.returns-in_ok-push-in-Fault
returns-in_ok-push-in-Fault g c = rw c.in-Fault.is (refl, c.in_ok-push-in-Fault.ensures.items ∙ ap (λ l. l ++ errors.LexError c.in-Fault.fault ∷ []) c.new-told.ensures.items)

pub returns-in_ok-told-in-Parsed : goal.returns-in_ok-told-in-Parsed
returns-in_ok-told-in-Parsed g c = rw c.in-Parsed.is (refl, c.in_ok-told-in-Parsed.ensures)
