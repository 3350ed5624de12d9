use Rattle.std.proofs.Common.{◌≡◌, ◌*◌, ◌<◌, ◌^◌, length, take}
use Rattle.language_server.specs.Positions.{units, AreMarks}
use Rattle.language_server.specs.declared.places.Encoding.TheVariants.{Utf16}
use Rattle.language_server.proofs.places.marks_of.Given as goal

abbrev pub invariant-marks : goal.invariant-marks
invariant-marks l = (length l.marks.items ≡ l.number) × (length l.bytes < 2 ^ 63 → AreMarks l.bytes l.marks.items × (l.units ≡ units Utf16 (take (l.number * 1024) l.bytes)))
