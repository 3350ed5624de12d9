-- Two maps with marks merged.
use Rattle.std.specs.Prelude.{◌≡◌, ℕ, codes, Bool, true, false, ◌&&◌, ◌||◌, List, ◌∷◌, [], filter, Option, Some, None, is_some, unwrap_or}
use Rattle.std.specs.declared.cmp.Ordering.{Ordering}
use Rattle.std.specs.declared.cmp.Ordering.TheVariants.{Equal}
use Rattle.std.specs.Borrow.{Bor}
use Rattle.std.specs.Option.{option_or}
use Rattle.std.specs.Map.{remove_entry}
use Rattle.std.specs.BTreeMap.{BTreeMap, ContainsKey, is_at}
use Rattle.cfg_sections.specs.declared.markmap.Slot.{Slot}
use Rattle.cfg_sections.specs.declared.markmap.Marks.{Marks}
use Rattle.cfg_sections.specs.declared.markmap.MergeBehavior.{MergeBehavior}
use Rattle.cfg_sections.specs.declared.markmap.MergeBehavior.TheVariants.{Theirs, Ours, MutuallyExclusive}
use Rattle.cfg_sections.specs.declared.markmap.merge.MergeError.{MergeError}
use Rattle.cfg_sections.specs.declared.markmap.merge.MergeError.TheVariants.{Exclusivity, Memory}
use Rattle.cfg_sections.specs.MarkMaps.{Marked, behavior_at, keys_of, marks_at, value_at}

abbrev pub is_exclusive_behavior : MergeBehavior → Bool
is_exclusive_behavior Theirs = false
is_exclusive_behavior Ours = false
is_exclusive_behavior MutuallyExclusive = true

abbrev pub is_exclusive : {K V : Type 0} → (K → K → Ordering) → Marked K V → K → Bool
is_exclusive cmp m k = is_exclusive_behavior (behavior_at cmp m k)

-- a key with a value on this side has one on the other side too, and may not
abbrev pub conflicts_at : {K V : Type 0} → (K → K → Ordering) → Marked K V → Marked K V → K → Bool
conflicts_at cmp ours theirs k = is_some (value_at cmp theirs k) && is_exclusive cmp ours k

-- the keys that refuse a merge, in order
abbrev pub conflicts_of : {K V : Type 0} → (K → K → Ordering) → Marked K V → Marked K V → List K
conflicts_of cmp ours theirs = filter (conflicts_at cmp ours theirs) (keys_of ours)

-- the first of a list
abbrev pub IsFirstOf : {K : Type 0} → List K → Bor K → Type 0
IsFirstOf {K} keys k = (rest : List K) × (keys ≡ k.now ∷ rest)

-- what a merge leaves of two values of a key
abbrev pub merged_value : {V : Type 0} → MergeBehavior → Option V → Option V → Option V
merged_value behavior None theirs = theirs
merged_value behavior (Some ours) None = Some ours
merged_value Theirs (Some ours) (Some theirs) = Some theirs
merged_value Ours (Some ours) (Some theirs) = Some ours
merged_value MutuallyExclusive (Some ours) (Some theirs) = Some ours

-- and of two sets of marks
abbrev pub joined_marks : Marks → Marks → Marks
joined_marks ours theirs = record { used = ours.used || theirs.used; required = ours.required || theirs.required; behavior = option_or ours.behavior theirs.behavior }

-- and of what a key has on both sides
abbrev pub merged_slot : {V : Type 0} → MergeBehavior → Slot V → Slot V → Slot V
merged_slot default ours theirs = record { value = merged_value (unwrap_or ours.marks.behavior default) ours.value theirs.value; marks = joined_marks ours.marks theirs.marks }

-- this map and another are merged
pub record Merges {K V : Type 0} (cmp : K → K → Ordering) (old other new : Marked K V) : Type 0 where
  pub value : (q : K) → value_at cmp new q ≡ merged_value (behavior_at cmp old q) (value_at cmp old q) (value_at cmp other q)
  pub marks : (q : K) → marks_at cmp new q ≡ joined_marks (marks_at cmp old q) (marks_at cmp other q)
  pub default : new.default ≡ old.default

-- each key of the second map is one of the first
abbrev pub HasRoom : {K X Y : Type 0} → (K → K → Ordering) → BTreeMap K X → BTreeMap K Y → Type 0
HasRoom {K} cmp m n = (q : K) → ContainsKey cmp n q → ContainsKey cmp m q

-- the entries without these keys, which are taken out the last first
abbrev pub without : {K V : Type 0} → (K → K → Ordering) → List (K × Slot V) → List K → List (K × Slot V)
without cmp entries [] = entries
without cmp entries (k ∷ ks) = remove_entry (is_at (cmp k)) (without cmp entries ks)

-- a refusal at this key, with the other map's value
abbrev pub IsExclusivityAt : {K V : Type 0} → (K → K → Ordering) → Marked K V → K → MergeError K V → Type 0
IsExclusivityAt cmp other k (Exclusivity key value) = (cmp k key ≡ Equal) × (value_at cmp other k ≡ Some value)
IsExclusivityAt cmp other k (Memory e) = ⊥

-- the least key that refuses the merge is told, with the other map's value; or memory was refused
abbrev pub IsMergeRefusal : {K V : Type 0} → (K → K → Ordering) → Marked K V → Marked K V → MergeError K V → Type 0
IsMergeRefusal {K} cmp ours theirs (Exclusivity key value) = (first : K) × (rest : List K) × (conflicts_of cmp ours theirs ≡ first ∷ rest) × (cmp first key ≡ Equal) × (value_at cmp theirs first ≡ Some value)
IsMergeRefusal cmp ours theirs (Memory e) = conflicts_of cmp ours theirs ≡ []

-- a refusal as it is printed
abbrev pub merge_error_text : {K V : Type 0} → MergeError K V → List ℕ
merge_error_text (Exclusivity key value) = codes "Value on both sides"
merge_error_text (Memory e) = codes "Memory"
