use Rattle.std.proofs.Common.{◌≡◌, ◌++◌, map}
use Rattle.cfg_read.specs.AstModels.{production_of}
use Rattle.cfg_read.proofs.yacc.ast.parts.push_all.Given as goal

abbrev pub invariant-others : goal.invariant-others
invariant-others l = map production_of l.made.items ≡ map production_of l.fn.made.items ++ map production_of l.yielded
