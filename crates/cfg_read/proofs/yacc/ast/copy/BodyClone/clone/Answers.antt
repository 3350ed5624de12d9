use Rattle.std.proofs.Common.{List, Option}
use Rattle.cfg_read.specs.SyntaxTexts.{WordText}
use Rattle.cfg_read.specs.Asts.{SymbolAst, ProductionAst, text_of, span_of}
use Rattle.cfg_read.specs.AstModels.{ast_symbol_of}
use Rattle.cfg_read.proofs.Clones.{clones_map}
use Rattle.cfg_read.proofs.yacc.ast.copy.BodyClone.clone.Goals as goal

pub returns : goal.returns
returns c =
    let x = c.args.self.now in
    let made : List SymbolAst → Option WordText → Option WordText → ProductionAst =
    λ ss p a. record { symbols = ss; precedence = text_of p; action = text_of a; action_span = span_of a; span = x.span } in
    let same = clones_map _ ast_symbol_of (λ s t h. h) x.symbols.items c.in_ok-symbols.symbols.items c.in_ok-symbols.ensures.cases.0 in
    record { cases = λ i. made (same i) (c.in_ok-precedence.ensures i) (c.in_ok-action.ensures i) }
