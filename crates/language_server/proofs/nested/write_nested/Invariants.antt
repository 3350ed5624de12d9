-- What is written behind the symbols so far ends a tree of all.
use Rattle.std.proofs.Common.{◌≤◌, drop}
use Rattle.serde.specs.Event.{Log}
use Rattle.language_server.specs.Texts.{WritesNested}
use Rattle.language_server.proofs.nested.write_nested.Given as goal

abbrev pub invariant-symbols : goal.invariant-symbols
invariant-symbols g l = (l.left ≤ l.index) × ((last : Log) → WritesNested l.left (drop l.index l.symbols) (g.S.Serializer.written l.out) last → WritesNested 0 l.symbols (g.S.Serializer.written l.initial.out) last)
