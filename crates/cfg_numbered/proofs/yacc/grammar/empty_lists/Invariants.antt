use Rattle.std.proofs.Common.{◌≡◌, [], map}
use Rattle.std.specs.Prelude.{replicate}
use Rattle.cfg_numbered.specs.Symbols.{numbers_of}
use Rattle.cfg_numbered.proofs.yacc.grammar.empty_lists.Given as goal

abbrev pub invariant-rules : goal.invariant-rules
invariant-rules g l = map (λ x. numbers_of g.S.IndexStorage.number x.items) l.lists.items ≡ replicate l.counter []
