use Rattle.std.proofs.Common.{sym, ◌∙◌, arith, rules}
use Rattle.cfg_read.proofs.Runs.{between_quotes}
use Rattle.cfg_read.proofs.yacc.parser.scan.Scanner.quoted_kind.Goals as goal

pub returns-then-eq-clause-fits : goal.returns-then-eq-clause-fits
returns-then-eq-clause-fits c =
    between_quotes c.args.self.now.text.now c.args.offset c.quoted_end-end.result c.args.quote c.byte.ensures.utf8 c.requires.ascii c.requires.quote
    (sym c.byte-in-Some.ensures.value ∙ search (rules, c.if-eq.true, c.eq.ensures)) (omega (arith, c.quoted_end-end.ensures.from))
