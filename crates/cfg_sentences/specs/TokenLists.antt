-- Token lists as a program keeps them.
use Rattle.std.specs.Prelude.{◌≡◌, ℕ, ◌-◌, ◌<◌, ◌≤◌, ◌⊎◌, Bool, true, false, List, [], ◌++◌, length, map, get_or, Contains}
use Rattle.std.specs.List.{flat_map}
use Rattle.std.specs.declared.alloc.Global.{Global}
use Rattle.std.specs.declared.vec.Vec.{Vec}
use Rattle.cfg_base.specs.declared.symbol.TIdx.{TIdx}
use Rattle.cfg_theory.specs.Cost.{IsBefore}

-- the numbers of tokens
abbrev pub tokens_of : {S : Type 0} → (S → ℕ) → List (TIdx S) → List ℕ
tokens_of number tokens = map (λ t. number t.0) tokens

abbrev pub lists_of : {S : Type 0} → (S → ℕ) → List (Vec (TIdx S) Global) → List (List ℕ)
lists_of number lists = map (λ l. tokens_of number l.items) lists

-- each list of the first ones before each of the second ones
abbrev pub joined : List (List ℕ) → List (List ℕ) → List (List ℕ)
joined us vs = flat_map (λ u. map (λ v. u ++ v) vs) us

-- how many lists more an entry of lists can hold
abbrev pub spare : List (List ℕ) → ℕ
spare lists = 18446744073709551615 - length lists

-- the lists of V were put in, if they weren't there, and nothing else changed; each new one took room
pub record AddsLists (V : List ℕ → Type 0) (old new : List (List ℕ)) (changed : Bool) : Type 0 where
  pub kept : (v : List ℕ) → Contains old v → Contains new v
  pub only : (v : List ℕ) → Contains new v → Contains old v ⊎ V v
  pub here : (v : List ℕ) → V v → Contains new v
  pub still : changed ≡ false → new ≡ old
  pub fewer : changed ≡ true → spare new < spare old

-- the list isn't among the lists, and belongs behind the first n of them
pub record BelongsAt (lists : List (List ℕ)) (w : List ℕ) (n : ℕ) : Type 0 where
  pub within : n ≤ length lists
  pub before : (k : ℕ) → k < n → IsBefore (get_or lists k []) w
  pub behind : (k : ℕ) → n ≤ k → k < length lists → IsBefore w (get_or lists k [])
