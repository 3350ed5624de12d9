use Rattle.std.proofs.Common.{◌≡◌, take}
use Rattle.cfg_numbered.specs.Symbols.{syms_of}
use Rattle.conflict_examples.proofs.symbols.same_each.Given as goal

-- the symbols before the index are the same
abbrev pub invariant-symbols : goal.invariant-symbols
invariant-symbols g l = take l.k (syms_of g.S.IndexStorage.number l.a) ≡ take l.k (syms_of g.S.IndexStorage.number l.b)
