-- The places so far are those of the errors so far.
use Rattle.std.proofs.Common.{◌≡◌, take}
use Rattle.text_parses.specs.ParseObjects.{error_places, places_of}
use Rattle.text_parses.proofs.objects.error_values.Given as goal

abbrev pub invariant-errors : goal.invariant-errors
invariant-errors l = places_of l.values.items ≡ error_places l.shown.source.now l.shown.start (take l.error-index l.errors)
