-- Keys that stand more than once in a section, and what the others say.
use Rattle.std.specs.Prelude.{◌≡◌, ℕ, Bool, List, [], ◌∷◌, ◌++◌, length, map, filter, nat_lt, Option, Some, None, option_map, if◌then◌else◌}
use Rattle.std.specs.Option.{option_or}
use Rattle.std.specs.List.{list_any}
use Rattle.std.specs.Str.{bytes_eq}
use Rattle.std.specs.String.{string_bytes, string_cmp}
use Rattle.std.specs.declared.string.String.{String}
use Rattle.std.specs.declared.alloc.Global.{Global}
use Rattle.cfg_base.specs.SpanModel.{SpanModel}
use Rattle.cfg_sections.specs.MarkMaps.{Marked, value_at, marks_at, unmarked}
use Rattle.cfg_sections.specs.declared.markmap.MergeBehavior.TheVariants.{MutuallyExclusive}
use Rattle.cfg_sections.specs.declared.header.value.HeaderValue.{HeaderValue}
use Rattle.cfg_sections.specs.HeaderTexts.{ValueText, value_text}
use Rattle.cfg_sections.specs.Sections.{PairText}

-- the spans of a key
abbrev pub spans_of : List ℕ → List PairText → List SpanModel
spans_of q pairs = map (λ p. p.at) (filter (λ p. bytes_eq q p.key) pairs)

-- whether a key stands among these pairs
abbrev pub is_named : List ℕ → List PairText → Bool
is_named q pairs = list_any (λ p. bytes_eq q p.key) pairs

-- spans of a key, where there are several
abbrev pub several : List SpanModel → List (List SpanModel)
several spans = if nat_lt 1 (length spans) then spans ∷ [] else []

-- the repeated keys whose first offset is behind the earlier pairs, by their spans in the whole section
abbrev pub repeats_behind : List PairText → List PairText → List PairText → List (List SpanModel)
repeats_behind whole earlier [] = []
repeats_behind whole earlier (p ∷ later) = (if is_named p.key earlier then [] else several (spans_of p.key whole)) ++ repeats_behind whole (earlier ++ p ∷ []) later

-- the spans of each repeated key, in the order of the keys' first spans
abbrev pub repeats_of : List PairText → List (List SpanModel)
repeats_of pairs = repeats_behind pairs [] pairs

-- what a section says of a key: where the key stands, and its value
abbrev pub said_by : PairText → List ℕ → Option (SpanModel × ValueText SpanModel)
said_by p q = if bytes_eq p.key q then Some (p.at, p.value) else None

-- the last pair of a key counts
abbrev pub said_of : List PairText → List ℕ → Option (SpanModel × ValueText SpanModel)
said_of [] q = None
said_of (p ∷ pairs) q = option_or (said_of pairs q) (said_by p q)

abbrev pub entry_text : {L : Type 0} → HeaderValue L → L × ValueText L
entry_text v = (v.0, value_text v.1)

-- this header has what these pairs say, and no mark
pub record Holds (h : Marked (String Global) (HeaderValue SpanModel)) (pairs : List PairText) : Type 0 where
  pub value : (k : String Global) → option_map entry_text (value_at string_cmp h k) ≡ said_of pairs (string_bytes k)
  pub marks : (k : String Global) → marks_at string_cmp h k ≡ unmarked
  pub default : h.default ≡ MutuallyExclusive
