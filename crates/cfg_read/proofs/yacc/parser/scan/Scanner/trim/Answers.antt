use Rattle.cfg_read.specs.Scanning.{FitsPart}
use Rattle.cfg_read.proofs.Parts.{trim_start_fits, trim_end_fits}
use Rattle.cfg_read.proofs.yacc.parser.scan.Scanner.trim.Goals as goal

pub trim_end-requires : goal.trim_end-requires
trim_end-requires c = rw c.trim_start-from.ensures.value (trim_start_fits c.args.self.now.text.now c.args.start c.args.end c.trim_start-from.ensures.utf8 c.requires)

pub new-requires : goal.new-requires
new-requires c =
    let text = c.args.self.now.text.now in
    let first_part : FitsPart text c.trim_start-from.result c.args.end = rw c.trim_start-from.ensures.value (trim_start_fits text c.args.start c.args.end c.trim_start-from.ensures.utf8 c.requires) in
    rw c.trim_end.ensures (trim_end_fits text c.trim_start-from.result c.args.end c.trim_start-from.ensures.utf8 first_part).order

pub returns-clause-fits : goal.returns-clause-fits
returns-clause-fits c =
    let text = c.args.self.now.text.now in
    let first_part : FitsPart text c.trim_start-from.result c.args.end = rw c.trim_start-from.ensures.value (trim_start_fits text c.args.start c.args.end c.trim_start-from.ensures.utf8 c.requires) in
    rw (c.new.ensures.start, c.new.ensures.end, c.trim_end.ensures) (trim_end_fits text c.trim_start-from.result c.args.end c.trim_start-from.ensures.utf8 first_part)
