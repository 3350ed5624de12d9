use Rattle.std.proofs.Common.{◌<◌, ap, length, slice_index_or, ◌∙◌, arith, take_all}
use Rattle.std.proofs.lemmas.Option.{slice_get-get_or}
use Rattle.cfg_read.specs.SyntaxModels.{symbols_of}
use Rattle.cfg_read.specs.Settling.{uses_of, with_symbols}
use Rattle.cfg_read.proofs.Settled.{settle_step}
use Rattle.cfg_read.proofs.yacc.ast.settle.Uses.settle_all.Goals as goal

pub symbols-preserved : goal.symbols-preserved
symbols-preserved c =
    let xs = c.symbols.symbols in
    let i = c.symbols.symbol-index in
    let within : i < length xs = omega arith in
    let x = slice_index_or xs i c.symbol-item.result in
    let at = slice_get-get_or xs i c.symbol-item.result within in
    settle_step xs c.args.symbols.now i x c.settle.new.symbol (uses_of c.args.self.now) (uses_of c.symbols.self) (uses_of c.settle.new.self) within at
    c.symbols.invariant.0 c.symbols.invariant.1 c.symbols.invariant.2 c.in_ok-settle.ensures.symbol c.in_ok-settle.ensures.uses

pub returns-clause-uses : goal.returns-clause-uses
returns-clause-uses c = c.symbols.invariant.2 ∙ ap (λ l. with_symbols (uses_of c.args.self.now) (symbols_of l)) (take_all c.symbols.symbol-index c.args.symbols.now (omega arith))
