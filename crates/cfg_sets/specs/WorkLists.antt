-- Lists of rules that wait to be taken, and for each rule the productions that name it.
use Rattle.std.specs.Prelude.{◌≡◌, ℕ, ◌+◌, ◌<◌, ◌≤◌, ◌⊎◌, List, [], length, get_or, Option, None, Some, slice_get}
use Rattle.std.specs.List.{Contains}
use Rattle.cfg_theory.specs.Grammar.{Sym, rule, token, Grammar, IsNext}

-- what contracts see of a work list: how many rules there are, and those that wait, the next one last
pub record Work : Type 0 where
  pub rules : ℕ
  pub list : List ℕ

-- the production p names a rule of the list
abbrev pub NamesOne : Grammar → List ℕ → ℕ → Type 0
NamesOne G list p = (A : ℕ) × (d : ℕ) × IsNext G p d (rule A) × Contains list A

-- the list beside each rule has those of the first n productions that name it
pub record ListsNaming (G : Grammar) (n : ℕ) (lists : List (List ℕ)) : Type 0 where
  pub count : length lists ≡ G.rules
  pub within : (A p : ℕ) → Contains (get_or lists A []) p → p < n
  pub named : (p d A : ℕ) → p < n → IsNext G p d (rule A) → Contains (get_or lists A []) p

-- p was put into the lists of the rules P, if it wasn't there, and nothing else changed
pub record AddsNamed (p : ℕ) (P : ℕ → Type 0) (old new : List (List ℕ)) : Type 0 where
  pub count : length new ≡ length old
  pub kept : (A q : ℕ) → Contains (get_or old A []) q → Contains (get_or new A []) q
  pub only : (A q : ℕ) → Contains (get_or new A []) q → Contains (get_or old A []) q ⊎ (q ≡ p)
  pub named : (A : ℕ) → P A → Contains (get_or new A []) p

-- the symbol is the rule A
abbrev pub IsRule : Sym → ℕ → Type 0
IsRule X A = X ≡ rule A

-- the rule A is one of the symbols
abbrev pub IsSomeOf : List Sym → ℕ → Type 0
IsSomeOf a A = (d : ℕ) × (slice_get a d ≡ Some (rule A))

-- it is one of the first n
abbrev pub IsSomeBelow : List Sym → ℕ → ℕ → Type 0
IsSomeBelow a n A = (d : ℕ) × (d < n) × (slice_get a d ≡ Some (rule A))

-- the symbol has a list, where it is a rule
abbrev pub HasList : ℕ → Sym → Type 0
HasList n (rule A) = A < n
HasList n (token t) = Unit {0}

-- q stands in the list at the index i or later
abbrev pub StandsFrom : List ℕ → ℕ → ℕ → Type 0
StandsFrom list i q = (j : ℕ) × (i ≤ j) × (j < length list) × (get_or list j q ≡ q)

-- p names the rule, where there is one
abbrev pub NamesGiven : Grammar → ℕ → Option ℕ → Type 0
NamesGiven G p None = ⊥
NamesGiven G p (Some A) = (d : ℕ) × IsNext G p d (rule A)

-- how many rules that is
abbrev pub given : Option ℕ → ℕ
given None = 0
given (Some A) = 1

-- from the table `old` the production n came to `new`, where `Closed` says under which productions a table is closed: n is one of
-- them from then on, and the others still are, but for those that name the rule that is told of; where one is, there is less room
pub record TakesIn {X : Type 0} (G : Grammar) (room : X → ℕ) (Closed : X → ℕ → Type 0) (n : ℕ) (old new : X) (told : Option ℕ) : Type 0 where
  pub within : (A : ℕ) → told ≡ Some A → A < G.rules
  pub kept : (p : ℕ) → Closed old p → Closed new p ⊎ NamesGiven G p told
  pub here : Closed new n ⊎ NamesGiven G n told
  pub less : room new + given told ≤ room old
