use Rattle.std.proofs.Common.{length, sym, ◌∙◌, arith}
use Rattle.cfg_read.specs.Words.{stops_string}
use Rattle.cfg_base.proofs.TextRuns.{first_here, first_step, first_end}
use Rattle.cfg_read.proofs.yacc.parser.scan.Scanner.string_stop.Goals as goal

pub bytes-preserved : goal.bytes-preserved
bytes-preserved c =
    let text = c.args.self.now.text.now in
    let e = first_step (stops_string c.args.quote text) c.bytes.end (length text) c.bytes-test.true (sym c.stops_string.ensures ∙ c.if-stops_string.false) in
    record { from = omega arith; same = sym e ∙ c.bytes.invariant.same }

pub returns-then-stops_string-clause-value : goal.returns-then-stops_string-clause-value
returns-then-stops_string-clause-value c =
    let text = c.args.self.now.text.now in
    sym (first_here (stops_string c.args.quote text) c.bytes.end (length text) c.bytes-test.true (sym c.stops_string.ensures ∙ c.if-stops_string.true)) ∙ c.bytes.invariant.same

pub returns-clause-value : goal.returns-clause-value
returns-clause-value c =
    let text = c.args.self.now.text.now in
    sym (first_end (stops_string c.args.quote text) c.bytes.end (length text) c.bytes-test.false) ∙ c.bytes.invariant.same
