use Rattle.std.proofs.Common.{◌≡◌, ◌<◌, ◌^◌, length, take}
use Rattle.language_server.specs.Positions.{units}
use Rattle.language_server.specs.declared.places.Encoding.TheVariants.{Utf16}
use Rattle.language_server.proofs.places.units_in.Given as goal

abbrev pub invariant-bytes : goal.invariant-bytes
invariant-bytes l = length l.bytes < 2 ^ 63 → l.units ≡ units Utf16 (take l.byte-index l.bytes)
