use Rattle.std.specs.BTreeMap.{get, is_at}
use Rattle.cfg_sections.specs.MarkMaps.{blank, slot_in}
use Rattle.cfg_sections.specs.Merges.{merged_slot}
use Rattle.cfg_sections.proofs.MarkMapMerges.{came_in, merged_here, merged_slot-blank, put_unwrapped, stays_there, unwrapped, was_there}
use Rattle.cfg_sections.proofs.markmap.merge.take_slots.Goals as goal

pub slots-preserved : goal.slots-preserved
slots-preserved g c =
    let pop = c.in-Some.ensures in
    record {
      slot = λ q.
          came_in (is_at (g.K.Ord.cmp c.in-Some.key) q) (merged_slot c.args.default) blank
          (slot_in g.K.Ord.cmp c.slots.ours.entries q) (slot_in g.K.Ord.cmp c.take_slot.new.ours.entries q)
          (merged_slot c.args.default (slot_in g.K.Ord.cmp c.slots.ours.entries c.in-Some.key) c.in-Some.slot) _
          (slot_in g.K.Ord.cmp c.slots.theirs.entries q) (slot_in g.K.Ord.cmp c.pop_first.new.self.entries q) c.in-Some.slot
          (merged_slot-blank c.args.default)
          (unwrapped (is_at (g.K.Ord.cmp c.in-Some.key) q) blank (get g.K.Ord.cmp c.pop_first.new.self q) (get g.K.Ord.cmp c.slots.theirs q) (pop.updates.0 q))
          (put_unwrapped (is_at (g.K.Ord.cmp c.in-Some.key) q) blank (merged_slot c.args.default (slot_in g.K.Ord.cmp c.slots.ours.entries c.in-Some.key) c.in-Some.slot) (get g.K.Ord.cmp c.take_slot.new.ours q) (get g.K.Ord.cmp c.slots.ours q) (c.take_slot.ensures q))
          (λ e. merged_here g.K.Ord.cmp g.met.K.Ord.total c.args.default c.slots.ours c.slots.theirs c.in-Some.key q c.in-Some.slot e pop.value)
          (c.slots.invariant.slot q);
      room = λ q h. stays_there (is_at (g.K.Ord.cmp c.in-Some.key) q) (get g.K.Ord.cmp c.take_slot.new.ours q) (get g.K.Ord.cmp c.slots.ours q) (merged_slot c.args.default (slot_in g.K.Ord.cmp c.slots.ours.entries c.in-Some.key) c.in-Some.slot) (c.take_slot.ensures q)
          (c.slots.invariant.room q (was_there (is_at (g.K.Ord.cmp c.in-Some.key) q) (get g.K.Ord.cmp c.pop_first.new.self q) (get g.K.Ord.cmp c.slots.theirs q) (pop.updates.0 q) h));
    }
