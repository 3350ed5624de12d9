use Rattle.cfg_sections.specs.HeaderTexts.{value_text}
use Rattle.cfg_read.specs.Kinds.{location_text}
use Rattle.cfg_read.proofs.KindValues.{comes_back}
use Rattle.cfg_read.proofs.yacc.kind.kind_comes_back.Goals as goal

pub returns : goal.returns
returns c = λ v k e. comes_back location_text (value_text v) k e
