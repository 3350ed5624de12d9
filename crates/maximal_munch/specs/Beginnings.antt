-- The bytes that matches begin with, and the rules that are tried before a byte.
use Rattle.std.specs.Prelude.{◌≡◌, ℕ, ◌<◌, ◌==◌, if◌then◌else◌, Bool, true, false, List, [], map, All, Option, None, Some, option_map, slice_get, slice_index, slice_index_or, Vec}
use Rattle.std.specs.declared.alloc.Global.{Global}
use Rattle.std.specs.List.{list_any}
use Rattle.regex.specs.Patterns.{Re, Config, Reads, find_str, span}
use Rattle.regex_hir.specs.Meaning.{meaning}
use Rattle.regex_hir.specs.declared.hir.Hir.{Hir}
use Rattle.regex_compile.specs.Implements.{Implements}
use Rattle.regex_nfa.specs.declared.nfa.Nfa.{Nfa}
use Rattle.regex_syntax.specs.Grammar.{Names}
use Rattle.maximal_munch.specs.declared.tried.TriedRules.{TriedRules}

-- the bytes of what was found at the front; 0 where nothing was found, or only further on
abbrev pub front_len : Option (ℕ × ℕ) → ℕ
front_len None = 0
front_len (Some s) = if s.0 == 0 then s.1 else 0

-- the bytes of the match that the pattern's search gives at the front of the rest
abbrev pub match_len : Re → List ℕ → ℕ
match_len pattern rest = front_len (option_map span (find_str pattern rest 0))

-- where the pattern matches a byte at the front, the first one is in the set
abbrev pub BeginsIn : Re → List Bool → Type 0
BeginsIn pattern set = (rest : List ℕ) → All (λ b. b < 256) rest → 0 < match_len pattern rest → slice_index_or set (slice_index rest 0) false ≡ true

-- the automaton finds what the text reads as
pub record IsAutomatonOf (source : List ℕ) (config : Config) (nfa : Nfa) : Type 0 where
  pub tree : Hir
  pub names : Names
  pub reads : Reads config source tree names
  pub implements : Implements nfa (meaning tree)

abbrev pub row_items : Vec (Vec ℕ Global) Global → List (List ℕ)
row_items rows = map (λ r. r.items) rows.items

-- for each byte the numbers of the rules that are tried before it
abbrev pub rows_of : TriedRules → List (List ℕ)
rows_of t = row_items t.rows

abbrev pub is_tried : List (List ℕ) → ℕ → ℕ → Bool
is_tried rows byte k = list_any (λ j. j == k) (slice_index_or rows byte [])

-- what was tried still is
abbrev pub KeepsTried : List (List ℕ) → List (List ℕ) → Type 0
KeepsTried old new = (byte k : ℕ) → is_tried old byte k ≡ true → is_tried new byte k ≡ true

-- no rule is lost: where one matches a byte at the front, it is tried before the first byte
abbrev pub LosesNone : List (List ℕ) → List Re → Type 0
LosesNone rows patterns =
    (k : ℕ) (p : Re) (rest : List ℕ) → slice_get patterns k ≡ Some p → All (λ b. b < 256) rest → 0 < match_len p rest
    → is_tried rows (slice_index rest 0) k ≡ true
