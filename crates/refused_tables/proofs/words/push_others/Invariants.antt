use Rattle.std.proofs.Common.{◌≡◌, ◌++◌, take}
use Rattle.std.specs.String.{string_bytes}
use Rattle.cfg_numbered.specs.Symbols.{numbers_of}
use Rattle.refused_tables.specs.Cycles.{others_text}
use Rattle.refused_tables.proofs.words.push_others.Given as goal

abbrev pub invariant-others : goal.invariant-others
invariant-others l = string_bytes l.text ≡ string_bytes l.fn.text ++ others_text l.grm (numbers_of (λ n. n) (take l.pidx-index l.others))
