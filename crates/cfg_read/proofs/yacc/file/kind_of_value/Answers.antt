use Rattle.cfg_sections.specs.HeaderTexts.{value_text}
use Rattle.cfg_read.specs.Kinds.{meaning_of}
use Rattle.cfg_read.proofs.yacc.file.kind_of_value.Goals as goal

pub returns-in-Err-clause-err : goal.returns-in-Err-clause-err
returns-in-Err-clause-err c = c.kind_failure.ensures (meaning_of (value_text c.args.value.now.1)) c.in-Err.ensures.err
