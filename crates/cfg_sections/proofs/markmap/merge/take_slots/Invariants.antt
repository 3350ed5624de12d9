use Rattle.std.proofs.Common.{◌≡◌}
use Rattle.std.specs.BTreeMap.{btree_map_len}
use Rattle.cfg_sections.specs.MarkMaps.{slot_in}
use Rattle.cfg_sections.specs.Merges.{HasRoom, merged_slot}
use Rattle.cfg_sections.proofs.markmap.merge.take_slots.Given as goal

-- what is merged already, with what is still to come
abbrev pub invariant-slots : goal.invariant-slots
invariant-slots g l = record {
  slot : (q : _) → merged_slot l.default (slot_in g.K.Ord.cmp l.ours.entries q) (slot_in g.K.Ord.cmp l.theirs.entries q) ≡ merged_slot l.default (slot_in g.K.Ord.cmp l.fn.ours.entries q) (slot_in g.K.Ord.cmp l.fn.theirs.entries q);
  room : HasRoom g.K.Ord.cmp l.ours l.theirs;
}

abbrev pub decreases-slots : goal.decreases-slots
decreases-slots g l = btree_map_len l.theirs
