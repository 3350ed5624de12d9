use Rattle.std.proofs.Common.{List, map, ap, ◌∙◌, arith}
use Rattle.std.specs.List.{flat_map}
use Rattle.std.proofs.lemmas.List.{take_all}
use Rattle.cfg_read.specs.SyntaxTexts.{SymbolText}
use Rattle.cfg_read.specs.SyntaxModels.{line_of}
use Rattle.cfg_read.proofs.yacc.names.line_symbols.Goals as goal

pub returns : goal.returns
returns c = c.lines.invariant ∙ ap (λ ls. flat_map (λ (p : List SymbolText). p) (map line_of ls)) (take_all c.lines.line-index c.args.lines.now (omega arith))
