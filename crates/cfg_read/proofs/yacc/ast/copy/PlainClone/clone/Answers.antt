use Rattle.std.proofs.Common.{List, None, ap}
use Rattle.cfg_read.specs.Asts.{SymbolAst, ProductionAst}
use Rattle.cfg_read.specs.AstModels.{ast_symbol_of}
use Rattle.cfg_read.proofs.Clones.{clones_map}
use Rattle.cfg_read.proofs.yacc.ast.copy.PlainClone.clone.Goals as goal

pub returns : goal.returns
returns c =
    let x = c.args.self.now in
    let made : List SymbolAst → ProductionAst = λ ss. record { symbols = ss; precedence = None; action = None; action_span = None; span = x.span } in
    let same = clones_map _ ast_symbol_of (λ s t h. h) x.symbols.items c.in_ok-symbols.symbols.items c.in_ok-symbols.ensures.cases.0 in
    record { cases = ap made same }
