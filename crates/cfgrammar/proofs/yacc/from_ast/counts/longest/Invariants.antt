use Rattle.std.proofs.Common.{◌≡◌, map, take, max, if◌then◌else◌}
use Rattle.cfg_read.specs.AstModels.{production_of}
use Rattle.cfgrammar.specs.FromAst.{as_told, longest, file_productions}
use Rattle.cfgrammar.proofs.yacc.from_ast.counts.longest.Given as goal

abbrev pub invariant-prods : goal.invariant-prods
invariant-prods l = l.most ≡ as_told (max (if l.implicit then 2 else 1) (longest (file_productions l.implicit l.ast 0 (map production_of (take l.prod-index l.prod-items)))))
