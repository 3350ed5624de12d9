-- Maximal munch: at each offset the longest match of the active rules, and of these that of the first rule.
use Rattle.std.specs.Prelude.{◌≡◌, ℕ, ◌+◌, ◌<◌, ◌≤◌, if◌then◌else◌, List, [], ◌∷◌, length, drop, Option, None, Some, slice_get}
use Rattle.maximal_munch.specs.Beginnings.{match_len}
use Rattle.maximal_munch.specs.RuleValues.{RuleSetValue, RuleValue, Stack, start, is_active_at, target_at, moved}
use Rattle.maximal_munch.specs.declared.munching.Part.{Part}
use Rattle.maximal_munch.specs.declared.munching.Ending.{Ending}
use Rattle.maximal_munch.specs.declared.munching.Ending.TheVariants.{Finished, NoMatch}

abbrev pub rule_len : List ℕ → Option RuleValue → ℕ
rule_len rest None = 0
rule_len rest (Some r) = match_len r.pattern rest

-- the bytes of rule k's match, where it is active in the condition
abbrev pub len_at : RuleSetValue → ℕ → List ℕ → ℕ → ℕ
len_at v condition rest k = if is_active_at v condition k then rule_len rest (slice_get v.rules k) else 0

-- rule k matches n bytes, none matches more, and none before it as many
pub record IsLongest (len_of : ℕ → ℕ) (k n : ℕ) : Type 0 where
  pub nonempty : 0 < n
  pub has : len_of k ≡ n
  pub longest : (j : ℕ) → len_of j ≤ n
  pub first : (j : ℕ) → j < k → len_of j < n

-- rule k matches n bytes, none matches more, and none before it as many; where n is 0 none matches
pub record IsBest (len_of : ℕ → ℕ) (k n : ℕ) : Type 0 where
  pub has : 0 < n → len_of k ≡ n
  pub longest : (j : ℕ) → len_of j ≤ n
  pub first : (j : ℕ) → j < k → len_of j < n

-- no rule matches a byte
abbrev pub IsStuck : (ℕ → ℕ) → Type 0
IsStuck len_of = (j : ℕ) → len_of j ≡ 0

-- a part of the text: its rule, its offset, and its length in bytes
abbrev pub part_at : ℕ → ℕ → ℕ → Part
part_at k at n = record { rule = k; start = at; len = n }

-- from the offset on, in front of this rest of the text and with these conditions, lexing gives these parts and ends so
pub data MunchesFrom (v : RuleSetValue) : ℕ → List ℕ → Stack → List Part → Ending → Type 0 where
  ends : {at : ℕ} {s : Stack} → MunchesFrom v at [] s [] Finished
  stuck : {at : ℕ} {rest : List ℕ} {s : Stack} → 0 < length rest → IsStuck (len_at v s.current rest) → MunchesFrom v at rest s [] (NoMatch at)
  part : {at : ℕ} {rest : List ℕ} {s : Stack} {parts : List Part} {e : Ending} (k n : ℕ) → 0 < length rest → IsLongest (len_at v s.current rest) k n →
      MunchesFrom v (at + n) (drop n rest) (moved (target_at v k) s) parts e → MunchesFrom v at rest s (part_at k at n ∷ parts) e

-- the text has these parts, and its lexing ends so
abbrev pub Munches : RuleSetValue → List ℕ → List Part → Ending → Type 0
Munches v text = MunchesFrom v 0 text start

-- where lexing ends
abbrev pub end_of : ℕ → Ending → ℕ
end_of len Finished = len
end_of len (NoMatch at) = at

-- each part begins where the one before it ends, has a byte, and the last one ends here
abbrev pub Follow : ℕ → List Part → ℕ → Type 0
Follow at [] end = at ≡ end
Follow at (p ∷ ps) end = (p.start ≡ at) × (0 < p.len) × Follow (at + p.len) ps end
