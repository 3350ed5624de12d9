use Rattle.std.proofs.Common.{take}
use Rattle.serde.specs.Event.{WritesEach}
use Rattle.language_server.specs.Texts.{WritesLocation}
use Rattle.language_server.proofs.place_lists.write_locations.Given as goal

abbrev pub invariant-all : goal.invariant-all
invariant-all g l = WritesEach (WritesLocation l.uri) (take l.range-index l.ranges) (g.S.Serializer.written l.initial.out) (g.S.Serializer.written l.out)
