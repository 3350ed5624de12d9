use Rattle.cfg_read.specs.AstModels.{ast_symbol_of}
use Rattle.cfg_read.proofs.Clones.{clones_map}
use Rattle.cfg_read.proofs.yacc.ast.copy.copy_symbols.Goals as goal

pub returns : goal.returns
returns c = clones_map _ ast_symbol_of (λ x y h. h) c.args.symbols.now.items c.in_ok-copy.copy.items c.in_ok-copy.ensures.cases.0
