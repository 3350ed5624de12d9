-- Places that are shown lie within the text that is shown.
use Rattle.std.proofs.Common.{ℕ, ◌≤◌, List, [], ◌∷◌, length}
use Rattle.std.proofs.Math.Nat.{min-le_right}
use Rattle.text_messages.specs.Places.{SourceValue, offset_by, shown_at}

offset_is_inside : (places : List ℕ) (len at : ℕ) → offset_by places len at ≤ len
offset_is_inside [] len at = min-le_right _ _
offset_is_inside (p ∷ ps) len at = min-le_right _ _

pub shown_is_inside : (s : SourceValue) (at : ℕ) → shown_at s at ≤ length s.shown
shown_is_inside s at = offset_is_inside s.places (length s.shown) at
