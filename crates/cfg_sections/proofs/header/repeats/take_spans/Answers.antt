use Rattle.std.proofs.Common.{arith}
use Rattle.std.proofs.lemmas.Map.Text.{text_keys}
use Rattle.cfg_sections.proofs.header.repeats.take_spans.Goals as goal

pub returns-clause-left : goal.returns-clause-left
returns-clause-left c = grind (arith, text_keys)
