-- Token lists that share their parts.
use Rattle.std.specs.Prelude.{◌≡◌, ℕ, ◌+◌, ◌-◌, ◌*◌, ◌<◌, ◌⊎◌, Bool, true, false, List, [], ◌∷◌, ◌++◌, length, get_or, Option, Some, slice_get}
use Rattle.std.specs.List.{sum_by}
use Rattle.std.specs.Option.{option_map}
use Rattle.cfg_sentences.specs.declared.sentences.shared_lists.Part.{Part}
use Rattle.cfg_sentences.specs.declared.sentences.shared_lists.Part.TheVariants.{Empty, Token, Pair}

-- what contracts see: the lists by their numbers, and those of the rules
pub record Shared : Type 0 where
  pub lists : List (List ℕ)
  pub table : List (Option (List ℕ))

-- what a part spells, by the lists of the parts before it
abbrev pub spelled_by : {S : Type 0} → (S → ℕ) → List (List ℕ) → Part S → List ℕ
spelled_by number lists Empty = []
spelled_by number lists (Token t) = number t.0 ∷ []
spelled_by number lists (Pair a b) = get_or lists a [] ++ get_or lists b []

-- the lists, and what each of the parts spells behind them
abbrev pub spelled_on : {S : Type 0} → (S → ℕ) → List (List ℕ) → List (Part S) → List (List ℕ)
spelled_on number lists [] = lists
spelled_on number lists (x ∷ parts) = spelled_on number (lists ++ spelled_by number lists x ∷ []) parts

-- the list has tokens
abbrev pub HasTokens : List (List ℕ) → ℕ → Type 0
HasTokens lists k = 0 < length (get_or lists k [])

-- the two lists of a pair have tokens
abbrev pub IsFit : {S : Type 0} → List (List ℕ) → Part S → Type 0
IsFit lists Empty = Unit {0}
IsFit lists (Token t) = Unit {0}
IsFit lists (Pair a b) = HasTokens lists a × HasTokens lists b

-- each part spells its list
pub record AreSpelled {S : Type 0} (number : S → ℕ) (parts : List (Part S)) (lists : List (List ℕ)) : Type 0 where
  pub count : length lists ≡ length parts
  pub none : get_or lists 0 [] ≡ []
  pub some : 0 < length lists
  pub each : (k : ℕ) (d : Part S) → k < length parts → get_or lists k [] ≡ spelled_by number lists (get_or parts k d)
  pub fit : (k : ℕ) (d : Part S) → k < length parts → IsFit lists (get_or parts k d)

-- the list of a number, where there is one
abbrev pub list_by : List (List ℕ) → Option ℕ → Option (List ℕ)
list_by lists o = option_map (λ k. get_or lists k []) o

-- the numbers are those of lists
abbrev pub AreNumbers : ℕ → List (Option ℕ) → Type 0
AreNumbers n table = (A k : ℕ) → slice_get table A ≡ Some (Some k) → k < n

-- what the lists of a stack spell, the last one first
abbrev pub stacked : List (List ℕ) → List ℕ → List ℕ
stacked lists [] = []
stacked lists (k ∷ rest) = stacked lists rest ++ get_or lists k []

-- two lists without a list that both begin with
pub record AreRests (u v rest_of_u rest_of_v : List ℕ) : Type 0 where
  pub front : List ℕ
  pub left : u ≡ front ++ rest_of_u
  pub right : v ≡ front ++ rest_of_v

-- the lists fork: behind what both begin with u has the smaller token, so that it is before v, whatever stands behind both
pub data ForksBefore : List ℕ → List ℕ → Type 0 where
  smaller : {t s : ℕ} {u v : List ℕ} → t < s → ForksBefore (t ∷ u) (s ∷ v)
  later : {t : ℕ} {u v : List ℕ} → ForksBefore u v → ForksBefore (t ∷ u) (t ∷ v)

-- v is u and more behind it
pub record BeginsList (u v : List ℕ) : Type 0 where
  pub rest : List ℕ
  pub some : 0 < length rest
  pub whole : v ≡ u ++ rest

-- whether the first of two lists forks before the second one, or the second before the first
abbrev pub IsTold : List ℕ → List ℕ → Bool → Type 0
IsTold u v true = ForksBefore u v
IsTold u v false = ForksBefore v u

-- u is v, or u forks before it
abbrev pub IsLead : List ℕ → List ℕ → Type 0
IsLead u v = (v ≡ u) ⊎ ForksBefore u v

-- whether the first of two lists forks before the second one, or the second one leads the first
abbrev pub IsAhead : List ℕ → List ℕ → Bool → Type 0
IsAhead u v true = ForksBefore u v
IsAhead u v false = IsLead v u

-- one of the lists begins the other
abbrev pub AreNested : List ℕ → List ℕ → Type 0
AreNested u v = BeginsList u v ⊎ BeginsList v u

-- how many turns the walk through a list takes at most
abbrev pub turns_of : List (List ℕ) → ℕ → ℕ
turns_of lists k = 1 + (3 * length (get_or lists k []) - 2)

abbrev pub turns : List (List ℕ) → List ℕ → ℕ
turns lists rest = sum_by (turns_of lists) rest
