use Rattle.std.proofs.Common.{◌≡◌, map, take}
use Rattle.cfg_read.specs.Asts.{precedences_of}
use Rattle.cfg_read.specs.AstModels.{named_precedences}
use Rattle.cfg_read.specs.SyntaxModels.{level_of}
use Rattle.cfg_read.proofs.yacc.ast.parts.first_precedences.Given as goal

abbrev pub invariant-levels : goal.invariant-levels
invariant-levels l = named_precedences l.found ≡ precedences_of (map level_of (take l.number l.levels))
