use Rattle.std.proofs.Common.{sym, ◌∙◌, arith, rules}
use Rattle.std.proofs.lemmas.Option.{slice_get_within}
use Rattle.cfg_base.proofs.TextRuns.{cut_one, cut_two}
use Rattle.cfg_read.proofs.yacc.parser.scan.Scanner.sign_kind.Goals as goal

pub returns-in-37-clause-fits : goal.returns-in-37-clause-fits
returns-in-37-clause-fits c = cut_two c.args.self.now.text.now c.args.offset 37 c.byte-next.ensures.utf8 (sym c.byte-next.ensures.value ∙ search (rules, c.if-eq.true, c.eq.ensures)) (omega arith)

pub returns-in-37-2-clause-fits : goal.returns-in-37-2-clause-fits
returns-in-37-2-clause-fits c = cut_one c.args.self.now.text.now c.args.offset c.args.b c.byte-next.ensures.utf8 c.requires (omega (arith, c.in-37.is))

pub returns-in-58-clause-fits : goal.returns-in-58-clause-fits
returns-in-58-clause-fits c = slice_get_within c.args.self.now.text.now c.args.offset c.args.b c.requires

pub returns-in-59-clause-fits : goal.returns-in-59-clause-fits
returns-in-59-clause-fits c = slice_get_within c.args.self.now.text.now c.args.offset c.args.b c.requires

pub returns-in-124-clause-fits : goal.returns-in-124-clause-fits
returns-in-124-clause-fits c = slice_get_within c.args.self.now.text.now c.args.offset c.args.b c.requires

pub returns-in-123-clause-fits : goal.returns-in-123-clause-fits
returns-in-123-clause-fits c = cut_one c.args.self.now.text.now c.args.offset c.args.b c.byte-next.ensures.utf8 c.requires (omega (arith, c.in-123.is))

pub returns-in-45-clause-fits : goal.returns-in-45-clause-fits
returns-in-45-clause-fits c = cut_two c.args.self.now.text.now c.args.offset 62 c.byte-next.ensures.utf8 (sym c.byte-next.ensures.value ∙ search (rules, c.if-is_arrow.true, c.eq-is_arrow.ensures)) (omega arith)
