use Rattle.std.proofs.Common.{◌≡◌, ◌++◌, take}
use Rattle.std.specs.String.{string_bytes}
use Rattle.cfg_numbered.specs.Symbols.{syms_of}
use Rattle.grammar_names.specs.Names.{symbols_text}
use Rattle.grammar_names.proofs.names.push_symbols.Given as goal

abbrev pub invariant-symbols : goal.invariant-symbols
invariant-symbols l = string_bytes l.text ≡ string_bytes l.fn.text ++ symbols_text l.grm (syms_of (λ n. n) (take l.symbol-index l.symbols))
