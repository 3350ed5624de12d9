use Rattle.std.proofs.Common.{◌≡◌, [], map, fold}
use Rattle.cfg_read.specs.Asts.{with_epp_of}
use Rattle.cfg_read.specs.AstModels.{named_epps}
use Rattle.cfg_read.specs.SyntaxModels.{epp_of}
use Rattle.cfg_read.proofs.yacc.ast.parts.first_epps.Given as goal

abbrev pub invariant-epps : goal.invariant-epps
invariant-epps l = named_epps l.epps ≡ fold with_epp_of [] (map epp_of l.yielded)
