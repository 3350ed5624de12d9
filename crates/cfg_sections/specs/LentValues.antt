-- What a map with marks ends as, where one of its values is lent for writing.
use Rattle.std.specs.Prelude.{◌≡◌, Option, Some, OnSome}
use Rattle.std.specs.Borrow.{LendsSo, Fml, RattleType, MutBor}
use Rattle.std.specs.Map.{set_value}
use Rattle.std.specs.BTreeMap.{is_at}
use Rattle.std.specs.BTreeMap.Lent.{OrdMembers}
use Rattle.std.specs.declared.cmp.Ordering.{Ordering}
use Rattle.cfg_sections.specs.contracts.markmap.MarkMap.{the_row}
use Rattle.cfg_sections.specs.MarkMaps.{Marked, marks_at}

-- the map, once the stored key k has the value w and the marks that it had
abbrev pub with_value_at : {K V : Type 0} → (K → K → Ordering) → Marked K V → K → V → Marked K V
with_value_at cmp m k w = record m { entries = set_value (is_at (cmp k)) m.entries (record { value = Some w; marks = marks_at cmp m k }) }

-- once the borrow r ends, the key k has the last value written through it
abbrev pub lends_value : (K V : RattleType) (g : OrdMembers K.Denot) → MutBor (Marked K.Denot V.Denot) → K.Denot → Option (MutBor V.Denot) → Fml
lends_value K V g m k r = LendsSo (the_row K V (record { cmp = g.cmp }) (record { eq = g.eq }) (record { partial_cmp = g.partial_cmp })) V m r (λ n w. OnSome r (n ≡ with_value_at g.cmp m.now k w)) (λ n. n ≡ m.now)
