use Rattle.std.proofs.Common.{◌≡◌, false, map}
use Rattle.std.specs.BTreeMap.{ContainsKey, is_at}
use Rattle.std.specs.List.{list_any}
use Rattle.cfg_sections.specs.MarkMaps.{slot_in}
use Rattle.cfg_sections.specs.Merges.{without}
use Rattle.cfg_sections.proofs.markmap.merge.add_keys.Given as goal

-- nothing changed that a look-up sees, a key has room unless it is still to come, and the added keys are listed
abbrev pub invariant-keys : goal.invariant-keys
invariant-keys g l = record {
  same : (q : _) → slot_in g.K.Ord.cmp l.slots.entries q ≡ slot_in g.K.Ord.cmp l.fn.slots.entries q;
  room : (q : _) → list_any (λ k. is_at (g.K.Ord.cmp q) k) l.key-iterator ≡ false → ContainsKey g.K.Ord.cmp l.wanted q → ContainsKey g.K.Ord.cmp l.slots q;
  added : without g.K.Ord.cmp l.slots.entries (map (λ k. k.now) l.added.items) ≡ l.fn.slots.entries;
}
