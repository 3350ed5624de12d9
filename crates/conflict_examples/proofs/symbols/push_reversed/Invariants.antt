use Rattle.std.proofs.Common.{◌≡◌, ◌++◌, take, reverse}
use Rattle.cfg_numbered.specs.Symbols.{syms_of}
use Rattle.conflict_examples.proofs.symbols.push_reversed.Given as goal

-- the last ones of the symbols stand behind what was there
abbrev pub invariant-symbols : goal.invariant-symbols
invariant-symbols g l =
    let number = g.S.IndexStorage.number in
    syms_of number l.list.items ≡ syms_of number l.initial.list.items ++ take l.back (reverse (syms_of number l.symbols))
