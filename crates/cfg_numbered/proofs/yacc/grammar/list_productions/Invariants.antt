use Rattle.std.proofs.Common.{map}
use Rattle.cfg_numbered.specs.Symbols.{numbers_of}
use Rattle.cfg_numbered.specs.Info.{production_of, with_productions, ListsBelow}
use Rattle.cfg_numbered.proofs.yacc.grammar.list_productions.Given as goal

abbrev pub invariant-prods : goal.invariant-prods
invariant-prods g l = ListsBelow (with_productions l.rules (map (production_of g.S.IndexStorage.number) l.prods)) l.number (map (λ x. numbers_of g.S.IndexStorage.number x.items) l.lists.items)
