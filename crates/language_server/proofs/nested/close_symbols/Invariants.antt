use Rattle.language_server.specs.Texts.{ClosesSymbols}
use Rattle.language_server.proofs.nested.close_symbols.Given as goal

abbrev pub invariant-symbols : goal.invariant-symbols
invariant-symbols g l = ClosesSymbols l.counter (g.S.Serializer.written l.initial.out) (g.S.Serializer.written l.out)
