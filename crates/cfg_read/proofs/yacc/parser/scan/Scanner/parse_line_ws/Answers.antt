use Rattle.std.proofs.Common.{sym, arith}
use Rattle.cfg_read.specs.Reading.{here, line_gap_part, line_gap_end}
use Rattle.cfg_read.specs.SyntaxErrors.{line_unclosed}
use Rattle.cfg_read.proofs.Chains.{and_then, and_stops}
use Rattle.cfg_read.proofs.yacc.parser.scan.Scanner.parse_line_ws.Goals as goal

pub parts-init : goal.parts-init
parts-init c = record { from = omega arith; steps = λ w x. here }

pub parts-preserved : goal.parts-preserved
parts-preserved c =
    let fits = c.in-Part.ensures.fits in
    record { from = omega arith; steps = λ w x. and_then (c.parts.invariant.steps w x) (line_gap_part (sym c.in-Part.ensures.value)) }

pub returns-in-Unclosed-clause-err : goal.returns-in-Unclosed-clause-err
returns-in-Unclosed-clause-err c = λ w x. and_stops (c.parts.invariant.steps w x) (line_unclosed (sym c.in-Unclosed.ensures.value))

pub returns-in-NoPart-clause-ok : goal.returns-in-NoPart-clause-ok
returns-in-NoPart-clause-ok c = λ w x. and_then (c.parts.invariant.steps w x) (line_gap_end (sym c.in-NoPart.ensures.value))
