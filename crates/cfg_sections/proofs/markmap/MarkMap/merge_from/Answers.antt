use Rattle.std.proofs.Common.{is_some}
use Rattle.std.proofs.lemmas.Bool.{and_parts}
use Rattle.cfg_sections.specs.MarkMaps.{keys_of, value_at}
use Rattle.cfg_sections.specs.Merges.{conflicts_at, is_exclusive}
use Rattle.cfg_sections.proofs.MarkMapIterators.{first_passes}
use Rattle.cfg_sections.proofs.markmap.MarkMap.merge_from.Goals as goal

pub refusal-requires : goal.refusal-requires
refusal-requires g c =
    let least = c.in-Some.ensures.least in
    (and_parts (is_some (value_at g.K.Ord.cmp c.args.other c.in-Some.key.now)) (is_exclusive g.K.Ord.cmp c.args.self.now c.in-Some.key.now) (first_passes (conflicts_at g.K.Ord.cmp c.args.self.now c.args.other) (keys_of c.args.self.now) least.0 c.in-Some.key.now least.1)).0
