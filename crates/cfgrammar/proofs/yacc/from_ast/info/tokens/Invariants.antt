use Rattle.std.proofs.Common.{◌≡◌, ◌++◌, map, All}
use Rattle.std.specs.String.{string_bytes}
use Rattle.cfg_read.specs.AstModels.{named_span, named_epps}
use Rattle.cfg_numbered.specs.Info.{token_facts}
use Rattle.cfgrammar.specs.FromAst.{file_token_facts, epp_in, epp_of}
use Rattle.cfgrammar.proofs.yacc.from_ast.info.tokens.Given as goal

abbrev pub invariant-tokens : goal.invariant-tokens
invariant-tokens l =
    (map token_facts l.tokens.entries ++ map (file_token_facts l.fn.ast) (map named_span l.name-iterator) ≡ map (file_token_facts l.fn.ast) l.fn.ast.tokens)
    × All (λ e. epp_in (named_epps l.epps) (string_bytes e.0) ≡ epp_of l.fn.ast (string_bytes e.0)) l.name-iterator
