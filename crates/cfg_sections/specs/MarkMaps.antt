-- A map with marks: the value and the marks of each key.
use Rattle.std.specs.Prelude.{◌≡◌, Bool, false, not, ◌&&◌, List, ◌∷◌, map, filter, Option, None, is_none, is_some, unwrap_or, Some, [], if◌then◌else◌}
use Rattle.std.specs.declared.cmp.Ordering.{Ordering}
use Rattle.std.specs.declared.cmp.Ordering.TheVariants.{Equal}
use Rattle.std.specs.Map.{lookup}
use Rattle.std.specs.BTreeMap.{insert_entry, is_at}
use Rattle.cfg_sections.specs.declared.markmap.Slot.{Slot}
use Rattle.cfg_sections.specs.declared.markmap.Marks.{Marks}
use Rattle.cfg_sections.specs.declared.markmap.MergeBehavior.{MergeBehavior}

-- a map: its keys in order, each with what it has there, and what a merge does where a key's marks don't say it
pub record Marked (K V : Type 0) : Type 0 where
  pub entries : List (K × Slot V)
  pub default : MergeBehavior

-- no mark
abbrev pub unmarked : Marks
unmarked = record { used = false; required = false; behavior = None }

-- neither a value nor a mark
abbrev pub blank : {V : Type 0} → Slot V
blank = record { value = None; marks = unmarked }

-- what a key has, absent ones too
abbrev pub slot_in : {K V : Type 0} → (K → K → Ordering) → List (K × Slot V) → K → Slot V
slot_in cmp entries k = unwrap_or (lookup (is_at (cmp k)) entries) blank

-- the value of a key, if it has one
abbrev pub value_at : {K V : Type 0} → (K → K → Ordering) → Marked K V → K → Option V
value_at cmp m k = (slot_in cmp m.entries k).value

-- its marks
abbrev pub marks_at : {K V : Type 0} → (K → K → Ordering) → Marked K V → K → Marks
marks_at cmp m k = (slot_in cmp m.entries k).marks

-- what a merge does with a key
abbrev pub behavior_at : {K V : Type 0} → (K → K → Ordering) → Marked K V → K → MergeBehavior
behavior_at cmp m k = unwrap_or (marks_at cmp m k).behavior m.default

-- whether a key is stored, with a value or marks
abbrev pub is_stored : {K V : Type 0} → (K → K → Ordering) → Marked K V → K → Bool
is_stored cmp m k = is_some (lookup (is_at (cmp k)) m.entries)

-- the keys that are stored, in order
abbrev pub stored_keys : {K V : Type 0} → Marked K V → List K
stored_keys m = map (λ e. e.0) m.entries

-- the map, once the key k has the value w and the marks that it had
abbrev pub map_with : {K V : Type 0} → (K → K → Ordering) → Marked K V → K → V → Marked K V
map_with cmp m k w = record m { entries = insert_entry cmp m.entries k (record { value = Some w; marks = marks_at cmp m k }) }

-- the key k has another value, and all else stays
pub record SetsValue {K V : Type 0} (cmp : K → K → Ordering) (old new : Marked K V) (k : K) (w : Option V) : Type 0 where
  pub value : (q : K) → value_at cmp new q ≡ (if is_at (cmp k) q then w else value_at cmp old q)
  pub marks : (q : K) → marks_at cmp new q ≡ marks_at cmp old q
  pub default : new.default ≡ old.default

-- the key k has other marks, and all else stays
pub record SetsMarks {K V : Type 0} (cmp : K → K → Ordering) (old new : Marked K V) (k : K) (m : Marks) : Type 0 where
  pub value : (q : K) → value_at cmp new q ≡ value_at cmp old q
  pub marks : (q : K) → marks_at cmp new q ≡ (if is_at (cmp k) q then m else marks_at cmp old q)
  pub default : new.default ≡ old.default

-- the key k has neither a value nor marks, and all else stays
pub record Forgets {K V : Type 0} (cmp : K → K → Ordering) (old new : Marked K V) (k : K) : Type 0 where
  pub value : (q : K) → value_at cmp new q ≡ (if is_at (cmp k) q then None else value_at cmp old q)
  pub marks : (q : K) → marks_at cmp new q ≡ (if is_at (cmp k) q then unmarked else marks_at cmp old q)
  pub default : new.default ≡ old.default

abbrev pub has_value : {K V : Type 0} → K × Slot V → Bool
has_value e = is_some e.1.value

-- the keys of these entries that have a value
abbrev pub keys_among : {K V : Type 0} → List (K × Slot V) → List K
keys_among entries = map (λ e. e.0) (filter has_value entries)

-- the keys with a value, in order
abbrev pub keys_of : {K V : Type 0} → Marked K V → List K
keys_of m = keys_among m.entries

abbrev pub with_value : {K V : Type 0} → K → Option V → List (K × V) → List (K × V)
with_value k None rest = rest
with_value k (Some v) rest = (k, v) ∷ rest

-- the keys of these entries that have a value, with it
abbrev pub pairs_among : {K V : Type 0} → List (K × Slot V) → List (K × V)
pairs_among [] = []
pairs_among (e ∷ entries) = with_value e.0 e.1.value (pairs_among entries)

-- the keys with a value and their values, in the keys' order
abbrev pub pairs_of : {K V : Type 0} → Marked K V → List (K × V)
pairs_of m = pairs_among m.entries

abbrev pub is_unused : {K V : Type 0} → K × Slot V → Bool
is_unused e = is_some e.1.value && not e.1.marks.used

abbrev pub is_missing : {K V : Type 0} → K × Slot V → Bool
is_missing e = e.1.marks.required && is_none e.1.value

-- the keys that have a value and aren't marked as used, in order
abbrev pub unused_of : {K V : Type 0} → Marked K V → List K
unused_of m = map (λ e. e.0) (filter is_unused m.entries)

-- the keys that are marked as required and have no value, in order
abbrev pub missing_of : {K V : Type 0} → Marked K V → List K
missing_of m = map (λ e. e.0) (filter is_missing m.entries)

-- a clone of a key is equal to it
abbrev pub ClonesAreEqual : {K : Type 0} → (K → K → Type 0) → (K → K → Ordering) → Type 0
ClonesAreEqual {K} is_clone cmp = (k l : K) → is_clone k l → cmp k l ≡ Equal
