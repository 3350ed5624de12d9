use Rattle.std.proofs.Common.{◌≡◌, map, take, fold}
use Rattle.cfg_read.specs.Asts.{with_precedence_of, precedence_ast}
use Rattle.cfg_read.specs.Names.{words_in}
use Rattle.cfg_read.specs.AstModels.{named_precedences}
use Rattle.cfg_read.specs.SyntaxModels.{symbols_of}
use Rattle.cfg_read.proofs.yacc.ast.parts.insert_level.Given as goal

abbrev pub invariant-tokens : goal.invariant-tokens
invariant-tokens l = named_precedences l.found ≡ fold with_precedence_of (named_precedences l.fn.found) (map (precedence_ast l.precedence.level l.precedence.kind) (words_in (symbols_of (take l.token-index l.tokens))))
