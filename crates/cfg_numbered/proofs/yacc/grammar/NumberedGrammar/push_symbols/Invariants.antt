use Rattle.std.proofs.Common.{◌≡◌, ◌++◌, take}
use Rattle.std.specs.List.{flat_map}
use Rattle.std.specs.String.{string_bytes}
use Rattle.cfg_numbered.specs.Symbols.{syms_of}
use Rattle.cfg_numbered.specs.PrettyPrint.{name_of, quoted}
use Rattle.cfg_numbered.proofs.yacc.grammar.NumberedGrammar.push_symbols.Given as goal

abbrev pub invariant-symbols : goal.invariant-symbols
invariant-symbols g l = string_bytes l.text ≡ string_bytes l.fn.text ++ flat_map (λ X. quoted (name_of l.self X)) (syms_of g.S.IndexStorage.number (take l.symbol-index l.symbols))
