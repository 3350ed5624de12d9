use Rattle.std.proofs.Common.{refl}
use Rattle.std.specs.Prelude.{◌&&◌, is_none}
use Rattle.cfg_sections.specs.MarkMaps.{is_missing}
use Rattle.cfg_sections.proofs.MarkMapIterators.{each_kept, iterator_end, iterator_step, sorted_kept}
use Rattle.cfg_sections.proofs.markmap.MarkMap.missing.Goals as goal

pub keys-preserved : goal.keys-preserved
keys-preserved g c =
    iterator_step is_missing (c.in-Some.key.now, c.in-Some.slot.now) c.next.new.self c.keys.key-iterator _ _ _ c.is_missing.result c.in_ok-push_if.ensures c.is_missing.ensures c.in-Some.ensures.steps c.keys.invariant

pub returns-clause-keys : goal.returns-clause-keys
returns-clause-keys g c = iterator_end is_missing c.keys.key-iterator _ _ c.in-None.ensures.steps.0 c.keys.invariant

pub returns-clause-ordered : goal.returns-clause-ordered
returns-clause-ordered g c =
    let all = iterator_end is_missing c.keys.key-iterator _ _ c.in-None.ensures.steps.0 c.keys.invariant in
    rw (all, ← c.self.view_is) (sorted_kept g.K.Ord.cmp is_missing c.self.inside.slots.entries c.iter-key-items.ensures.ordered)

pub returns-clause-each : goal.returns-clause-each
returns-clause-each g c =
    let all = iterator_end is_missing c.keys.key-iterator _ _ c.in-None.ensures.steps.0 c.keys.invariant in
    rw (all, ← c.self.view_is) (λ q. each_kept g.K.Ord.cmp g.met.K.Ord.total (λ s. s.marks.required && is_none s.value) refl c.self.inside.slots.entries q c.iter-key-items.ensures.ordered)
