-- A table of one token list a rule, the first that was found, as productions fill it.
use Rattle.std.specs.Prelude.{◌≡◌, ℕ, ◌↔◌, List, [], ◌∷◌, Bool, true, IsTrue, length, get_or, Contains, Option, Some, None}
use Rattle.cfg_theory.specs.Grammar.{Sym, Grammar, head_of, body_of}
use Rattle.cfg_theory.specs.CostTables.{Concatenates}
use Rattle.cfg_theory.specs.CheapestLists.{HaveCosts}
use Rattle.cfg_sentences.specs.CostTable.{cost_in}
use Rattle.vob.specs.Sets.{is_set}
use Rattle.cfg_sentences.specs.SharedLists.{IsLead, IsAhead, AreNested}
use Rattle.cfg_sentences.specs.CheapestTable.{GivesLeast}

-- some list leads w
abbrev pub HasLead : List (List ℕ) → List ℕ → Type 0
HasLead lists w = (v : List ℕ) × Contains lists v × IsLead v w

-- the one list, or none
abbrev pub as_lists : Option (List ℕ) → List (List ℕ)
as_lists None = []
as_lists (Some w) = w ∷ []

-- the lists of a rule, of which there is one at most
abbrev pub found_in : List (Option (List ℕ)) → ℕ → List (List ℕ)
found_in table A = as_lists (get_or table A None)

-- some rule of the symbols has no list
abbrev pub GivesNone : List (Option (List ℕ)) → List Sym → Type 0
GivesNone table a = (w : List ℕ) → Concatenates (found_in table) a w → ⊥

-- w alone is put together by the symbols
abbrev pub GivesOne : List (Option (List ℕ)) → List Sym → List ℕ → Type 0
GivesOne table a w = (v : List ℕ) → Concatenates (found_in table) a v ↔ (v ≡ w)

-- whether a list forks before the one that is kept, where none is behind any, or that one leads it
abbrev pub ComesFirst : List ℕ → Option (List ℕ) → Bool → Type 0
ComesFirst w None b = b ≡ true
ComesFirst w (Some v) b = IsAhead w v b

-- one of the two begins the other
abbrev pub IsNestedIn : List ℕ → Option (List ℕ) → Type 0
IsNestedIn w None = ⊥
IsNestedIn w (Some v) = AreNested w v

-- the lists are of the rules, and cost what the table of costs says
pub record AreFound (G : Grammar) (f : ℕ → ℕ) (least : List (Option ℕ)) (table : List (Option (List ℕ))) : Type 0 where
  pub count : length table ≡ G.rules
  pub costs : HaveCosts G f (cost_in least) (found_in table)

-- the table; whether it is told which list comes first wherever two were compared; and how many more changes are counted
pub record FoundLists : Type 0 where
  pub table : List (Option (List ℕ))
  pub is_told : Bool
  pub left : ℕ

-- where p gives a wanted rule the least cost, the rule's list leads what p puts together, as long as all is told
abbrev pub IsTakenIn : Grammar → (ℕ → ℕ) → List (Option ℕ) → List Bool → ℕ → FoundLists → Type 0
IsTakenIn G f least wanted p firsts = IsTrue firsts.is_told → IsTrue (is_set wanted (head_of G p)) → GivesLeast G f least p → (w : List ℕ) → Concatenates (found_in firsts.table) (body_of G p) w → HasLead (found_in firsts.table (head_of G p)) w

-- how often a list can still take the place of another
abbrev pub room_in : FoundLists → ℕ
room_in firsts = firsts.left
