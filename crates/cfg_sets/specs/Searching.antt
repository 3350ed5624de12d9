-- A search for the rules that derive some text.
use Rattle.std.specs.Prelude.{◌≡◌, ℕ, ◌+◌, ◌<◌, ◌≤◌, ◌⊎◌, Bool, true, false, IsTrue, List, length, Option, None, Some}
use Rattle.std.specs.List.{Contains}
use Rattle.vob.specs.Sets.{is_set, missing}
use Rattle.cfg_sets.specs.WorkLists.{NamesOne}
use Rattle.cfg_theory.specs.Derivation.{IsProductive}
use Rattle.cfg_theory.specs.Grammar.{Sym, rule, token, Grammar, head_of, IsNext}
use Rattle.cfg_sets.specs.declared.productive.Search.{Search}

-- whether a symbol is a rule that isn't found
abbrev pub TellsHeld : List Bool → Sym → Bool → Type 0
TellsHeld found (rule A) true = is_set found A ≡ false
TellsHeld found (rule A) false = IsTrue (is_set found A)
TellsHeld found (token t) true = ⊥
TellsHeld found (token t) false = Unit {0}

-- the production p names a rule that isn't found
abbrev pub NamesUnfound : Grammar → List Bool → ℕ → Type 0
NamesUnfound G found p = (A : ℕ) × (d : ℕ) × IsNext G p d (rule A) × (is_set found A ≡ false)

-- from the index `start` on each rule of the production p is found
abbrev pub AllFoundFrom : Grammar → List Bool → ℕ → ℕ → Type 0
AllFoundFrom G found p start = (d A : ℕ) → start ≤ d → IsNext G p d (rule A) → IsTrue (is_set found A)

-- where a rule that isn't found stands, or that there is none
abbrev pub TellsHold : Grammar → List Bool → ℕ → Option ℕ → Type 0
TellsHold G found p None = AllFoundFrom G found p 0
TellsHold G found p (Some d) = NamesUnfound G found p

-- its rule is found; or it names one that isn't, or one of which what names it is still to be looked at
abbrev pub IsLookedAt : Grammar → List Bool → List ℕ → ℕ → Type 0
IsLookedAt G found work p = IsTrue (is_set found (head_of G p)) ⊎ (NamesUnfound G found p ⊎ NamesOne G work p)

-- the found rules derive some text, and all numbers are in range
pub record IsSearch (G : Grammar) (s : Search) : Type 0 where
  pub rules : length s.found.bits ≡ G.rules
  pub hints : length s.hints.items ≡ length G.productions
  pub productive : (A : ℕ) → IsTrue (is_set s.found.bits A) → IsProductive G A
  pub work : (A : ℕ) → Contains s.work.items A → A < G.rules

-- what is left to do
abbrev pub room : Search → ℕ
room s = missing s.found.bits + length s.work.items

-- what was looked at still is
abbrev pub KeepsLooks : Grammar → Search → Search → Type 0
KeepsLooks G old new = (p : ℕ) → IsLookedAt G old.found.bits old.work.items p → IsLookedAt G new.found.bits new.work.items p

-- a production was looked at
pub record LooksAt (G : Grammar) (p : ℕ) (old new : Search) : Type 0 where
  pub is_search : IsSearch G new
  pub kept : KeepsLooks G old new
  pub here : IsLookedAt G new.found.bits new.work.items p
  pub less : room new ≤ room old
