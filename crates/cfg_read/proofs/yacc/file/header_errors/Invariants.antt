use Rattle.std.specs.Prelude.{◌≡◌, map}
use Rattle.cfg_sections.specs.SectionResults.{error_text}
use Rattle.cfg_read.specs.Validity.{header_failure}
use Rattle.cfg_read.specs.ErrorModels.{failures_in}
use Rattle.cfg_read.proofs.yacc.file.header_errors.Given as goal

abbrev pub invariant-errors : goal.invariant-errors
invariant-errors l = failures_in l.made.items ≡ map header_failure (map error_text l.yielded)
