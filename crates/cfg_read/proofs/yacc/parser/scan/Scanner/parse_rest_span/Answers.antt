use Rattle.cfg_read.proofs.Parts.{line_fits}
use Rattle.cfg_read.proofs.yacc.parser.scan.Scanner.parse_rest_span.Goals as goal

pub trim-span-requires : goal.trim-span-requires
trim-span-requires c = rw c.line_end-end.ensures.value (line_fits c.args.self.now.text.now c.args.offset c.line_end-end.ensures.utf8 c.requires)

pub returns-clause-within : goal.returns-clause-within
returns-clause-within c = rw c.line_end-end.ensures.value (line_fits c.args.self.now.text.now c.args.offset c.line_end-end.ensures.utf8 c.requires)
