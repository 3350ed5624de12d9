use Rattle.cfg_read.proofs.Parts.{white_fits}
use Rattle.cfg_read.proofs.yacc.parser.scan.Scanner.parse_programs.Goals as goal

pub word-requires : goal.word-requires
word-requires c = rw c.white_end-start.ensures.value (white_fits c.args.self.now.text.now _ c.white_end-start.ensures.utf8 c.requires.1)
