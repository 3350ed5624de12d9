use Rattle.std.proofs.Common.{ap, map, sym, ◌∙◌}
use Rattle.cfg_sections.specs.Merges.{without}
use Rattle.cfg_sections.proofs.MarkMapRoom.{pushed}
use Rattle.cfg_sections.proofs.markmap.merge.take_out.Goals as goal

pub keys-preserved : goal.keys-preserved
keys-preserved g c =
    ap (λ es. without g.K.Ord.cmp es (map (λ k. k.now) c.pop.new.self.items)) c.remove.ensures.entries
    ∙ (sym (pushed g.K.Ord.cmp c.keys.slots.entries c.pop.new.self.items c.keys.added.items c.in-Some.key c.in-Some.ensures.items) ∙ c.keys.invariant)
