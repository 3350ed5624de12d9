use Rattle.std.specs.Prelude.{string_bytes}
use Rattle.lrkit_c.proofs.Shown.{shows_next}
use Rattle.lrkit_c.proofs.lexer_faults.push_section.Goals as goal

pub errors-preserved : goal.errors-preserved
errors-preserved c =
    let (shown, is, more) = c.in_ok-push_section_error.ensures in
    shows_next c.args.source.now c.args.errors.now c.errors.index c.index-errors-index.result (string_bytes c.errors.text) shown (string_bytes c.push_section_error.new.text) c.errors-test.true c.index-errors-index.is c.errors.invariant is more
