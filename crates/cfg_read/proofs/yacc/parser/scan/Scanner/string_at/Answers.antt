use Rattle.std.proofs.Common.{sym, ◌∙◌, arith}
use Rattle.cfg_read.proofs.Parts.{quote_ascii}
use Rattle.cfg_read.proofs.Runs.{between_quotes}
use Rattle.cfg_read.proofs.yacc.parser.scan.Scanner.string_at.Goals as goal

pub returns-in-Some-string_stop-clause-fits : goal.returns-in-Some-string_stop-clause-fits
returns-in-Some-string_stop-clause-fits c =
    let within = c.in-Some-string_stop.ensures.within in
    between_quotes c.args.self.now.text.now c.args.offset c.in-Some-string_stop.end c.in-Some.quote c.byte.ensures.utf8 (quote_ascii c.in-Some.quote (sym c.is_quote.ensures ∙ c.if-is_quote.true))
    (sym c.in-Some.ensures.value) (c.closes_string.ensures.quote c.if-closes_string.true) (omega arith)
