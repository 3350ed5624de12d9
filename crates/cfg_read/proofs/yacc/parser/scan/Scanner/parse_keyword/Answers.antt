use Rattle.std.proofs.Common.{◌+◌}
use Rattle.cfg_read.specs.Scanning.{FitsPart}
use Rattle.cfg_read.proofs.Parts.{keyword_fits}
use Rattle.cfg_read.proofs.yacc.parser.scan.Scanner.parse_keyword.Goals as goal

pub range-requires : goal.range-requires
range-requires c =
    let text = c.args.self.now.text.now in
    let fits : FitsPart text (c.args.offset + 1) c.keyword_end-end.result = rw c.keyword_end-end.ensures.value (keyword_fits text c.args.offset c.keyword_end-end.ensures.utf8 c.requires.1) in
    record { start_le_end = fits.order; start_boundary = λ _. fits.start; end_boundary = fits.end }

pub returns-in-Some-clause-fits : goal.returns-in-Some-clause-fits
returns-in-Some-clause-fits c = rw c.keyword_end-end.ensures.value (keyword_fits c.args.self.now.text.now c.args.offset c.keyword_end-end.ensures.utf8 c.requires.1)
