use Rattle.std.proofs.Common.{sym, subst, arith}
use Rattle.cfg_read.specs.AstModels.{ast_symbol_of}
use Rattle.cfg_read.specs.WellFormedAst.{NamesOne}
use Rattle.cfgrammar.proofs.FromAstSymbols.{under}
use Rattle.cfgrammar.proofs.yacc.from_ast.numbers.body.Goals as goal

pub push_symbol-requires-clause-known : goal.push_symbol-requires-clause-known
push_symbol-requires-clause-known g c =
    let ast = c.args.ast.now in
    subst (λ s. NamesOne ast (ast_symbol_of s)) (sym c.symbol-item.is) (under (NamesOne ast) ast_symbol_of c.args.symbols.now c.requires.known c.symbols.symbol-index c.symbol-item.result (omega arith))
