use Rattle.cfg_numbered.specs.Symbols.{syms_of}
use Rattle.cfg_sets.specs.WorkLists.{AddsNamed, IsSomeBelow}
use Rattle.cfg_sets.proofs.naming.Naming.add_all.Given as goal

abbrev pub invariant-symbols : goal.invariant-symbols
invariant-symbols g l = AddsNamed l.number (IsSomeBelow (syms_of g.S.IndexStorage.number l.symbols) l.index) l.initial.self l.self
