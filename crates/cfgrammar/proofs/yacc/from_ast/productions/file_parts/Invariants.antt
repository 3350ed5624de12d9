use Rattle.std.proofs.Common.{◌≡◌, map}
use Rattle.cfg_read.specs.AstModels as views
use Rattle.cfg_numbered.specs.Info.{production_of, production_facts}
use Rattle.cfgrammar.specs.FromAst.{file_productions, file_production_facts}
use Rattle.cfgrammar.proofs.yacc.from_ast.productions.file_parts.Given as goal

abbrev pub invariant-prods : goal.invariant-prods
invariant-prods g l =
    (map (production_of g.S.IndexStorage.number) l.made.items ≡ file_productions l.implicit l.ast 0 (map views.production_of l.yielded))
    × (map production_facts l.made.items ≡ map (file_production_facts l.ast) (map views.production_of l.yielded))
