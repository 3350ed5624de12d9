use Rattle.std.proofs.Common.{arith}
use Rattle.std.proofs.lemmas.Grind.{text_groups}
use Rattle.cfg_sections.proofs.header.repeats.spans_by_key.Goals as goal

pub pairs-preserved : goal.pairs-preserved
pairs-preserved c = grind (arith, text_groups)
