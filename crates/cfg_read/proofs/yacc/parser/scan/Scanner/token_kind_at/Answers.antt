use Rattle.std.proofs.Common.{refl, sym, ◌∙◌}
use Rattle.cfg_base.specs.Text.{is_digit}
use Rattle.cfg_read.specs.Bytes.{is_name_byte}
use Rattle.cfg_base.proofs.TextRuns.{run_word, digit_ascii}
use Rattle.cfg_read.proofs.Runs.{name_ascii, name_start_passes}
use Rattle.cfg_read.proofs.yacc.parser.scan.Scanner.token_kind_at.Goals as goal

pub returns-in-Some-clause-fits : goal.returns-in-Some-clause-fits
returns-in-Some-clause-fits c =
    let text = c.args.self.now.text.now in
    rw c.name_end.ensures.value
    (run_word is_name_byte name_ascii text c.args.offset c.in-Some.b c.byte.ensures.utf8 (sym c.in-Some.ensures.value) (name_start_passes c.in-Some.b (sym c.is_name_start.ensures ∙ c.if-is_name_start.true)))

pub returns-in-Some-2-clause-fits : goal.returns-in-Some-2-clause-fits
returns-in-Some-2-clause-fits c =
    let text = c.args.self.now.text.now in
    rw c.digits_end.ensures.value (record {
      word = run_word is_digit digit_ascii text c.args.offset c.in-Some.b c.byte.ensures.utf8 (sym c.in-Some.ensures.value) (sym c.is_digit.ensures ∙ c.if-is_digit.true);
      run = refl;
    })
