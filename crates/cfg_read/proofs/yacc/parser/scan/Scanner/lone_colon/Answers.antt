use Rattle.std.proofs.Common.{sym, ◌∙◌, arith}
use Rattle.cfg_read.specs.Words.{is_lone_colon}
use Rattle.cfg_read.proofs.Parts.{lone_is}
use Rattle.cfg_base.proofs.TextRuns.{cut_before, cut_behind, first_here, first_step, first_end}
use Rattle.cfg_read.proofs.yacc.parser.scan.Scanner.lone_colon.Goals as goal

pub bytes-preserved : goal.bytes-preserved
bytes-preserved c =
    let text = c.args.self.now.text.now in
    let e = first_step (is_lone_colon text) c.bytes.offset c.args.end c.bytes-test.true (sym c.is_lone_colon.ensures.value ∙ c.if-is_lone_colon.false) in
    record { from = omega arith; same = sym e ∙ c.bytes.invariant.same }

pub returns-then-is_lone_colon-clause-value : goal.returns-then-is_lone_colon-clause-value
returns-then-is_lone_colon-clause-value c =
    let text = c.args.self.now.text.now in
    sym (first_here (is_lone_colon text) c.bytes.offset c.args.end c.bytes-test.true (sym c.is_lone_colon.ensures.value ∙ c.if-is_lone_colon.true)) ∙ c.bytes.invariant.same

pub returns-clause-value : goal.returns-clause-value
returns-clause-value c =
    let text = c.args.self.now.text.now in
    sym (first_end (is_lone_colon text) c.bytes.offset c.args.end c.bytes-test.false) ∙ c.bytes.invariant.same

pub returns-then-is_lone_colon-clause-within : goal.returns-then-is_lone_colon-clause-within
returns-then-is_lone_colon-clause-within c =
    let text = c.args.self.now.text.now in
    let at = lone_is text c.bytes.offset (sym c.is_lone_colon.ensures.value ∙ c.if-is_lone_colon.true) in
    let utf8 = c.is_lone_colon.ensures.utf8 in
    (c.bytes.invariant.from, c.bytes-test.true, cut_before text c.bytes.offset 58 utf8 at (omega arith), cut_behind text c.bytes.offset 58 utf8 at (omega arith))
