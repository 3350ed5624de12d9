use Rattle.std.proofs.Common.{take}
use Rattle.serde.specs.Event.{WritesEach}
use Rattle.language_server.specs.Texts.{WritesHighlight}
use Rattle.language_server.proofs.place_lists.write_highlights.Given as goal

abbrev pub invariant-all : goal.invariant-all
invariant-all g l = WritesEach WritesHighlight (take l.range-index l.ranges) (g.S.Serializer.written l.initial.out) (g.S.Serializer.written l.out)
