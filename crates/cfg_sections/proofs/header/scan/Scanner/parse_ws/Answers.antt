use Rattle.std.proofs.Common.{sym, arith}
use Rattle.cfg_sections.specs.Sections.{here, gap_more, gap_end}
use Rattle.cfg_sections.proofs.SectionChains.{and_then}
use Rattle.cfg_sections.proofs.header.scan.Scanner.parse_ws.Goals as goal

pub parts-init : goal.parts-init
parts-init c = record { from = omega arith; within = omega arith; steps = λ w x. here }

pub parts-preserved : goal.parts-preserved
parts-preserved c =
    let fits = c.in-Some.ensures.fits in
    record { from = omega arith; within = omega arith; steps = λ w x. and_then (c.parts.invariant.steps w x) (gap_more (sym c.in-Some.ensures.value)) }

pub returns-clause-steps : goal.returns-clause-steps
returns-clause-steps c = λ w x. and_then (c.parts.invariant.steps w x) (gap_end (sym c.in_default.ensures.value))
