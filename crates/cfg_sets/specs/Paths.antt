-- The set of the rules that a rule reaches, as takings fill it.
use Rattle.std.specs.Prelude.{◌≡◌, ℕ, ◌+◌, ◌<◌, ◌≤◌, ◌⊎◌, Bool, true, IsTrue, List, length, slice_set}
use Rattle.std.specs.List.{Contains}
use Rattle.cfg_theory.specs.Grammar.{Sym, rule, token, Grammar, IsNext, head_of}
use Rattle.cfg_theory.specs.Derivation.{HasPath}
use Rattle.vob.specs.Sets.{is_set, missing}
use Rattle.cfg_sets.specs.WorkLists.{Work}

-- the set holds no more than the rules that A reaches
abbrev pub AreReached : Grammar → ℕ → List Bool → Type 0
AreReached G A bits = (B : ℕ) → IsTrue (is_set bits B) → HasPath G A B

-- where p is of A or of a rule of the set, each rule that it names is in the set
abbrev pub IsReachedFrom : Grammar → ℕ → ℕ → List Bool → Type 0
IsReachedFrom G A p bits = (head_of G p ≡ A) ⊎ IsTrue (is_set bits (head_of G p)) → (d R : ℕ) → IsNext G p d (rule R) → IsTrue (is_set bits R)

-- the symbol is in the set, where it is a rule
abbrev pub IsIn : List Bool → Sym → Type 0
IsIn bits (rule R) = IsTrue (is_set bits R)
IsIn bits (token t) = Unit {0}

-- the set with the symbol, where it is a rule
abbrev pub with_rule : List Bool → Sym → List Bool
with_rule bits (rule R) = slice_set bits R true
with_rule bits (token t) = bits

-- it has a bit in the set
abbrev pub HasPlace : List Bool → Sym → Type 0
HasPlace bits (rule R) = R < length bits
HasPlace bits (token t) = Unit {0}

-- the symbol was put into the set, where it is a rule, and that waits where this changed the set
pub record Reaches (X : Sym) (old new : List Bool) (was is : Work) : Type 0 where
  pub bits : new ≡ with_rule old X
  pub waits : (new ≡ old) ⊎ ((R : ℕ) → X ≡ rule R → Contains is.list R)
  pub list : (A : ℕ) → Contains was.list A → Contains is.list A
  pub only : (A : ℕ) → Contains is.list A → Contains was.list A ⊎ (X ≡ rule A)
  pub rules : is.rules ≡ was.rules
  pub room : missing new + length is.list ≤ missing old + length was.list

-- what p names is in the set, or its rule is one of the list
abbrev pub ReachedOrWaits : Grammar → ℕ → List Bool → List ℕ → ℕ → Type 0
ReachedOrWaits G A bits list p = IsReachedFrom G A p bits ⊎ Contains list (head_of G p)

-- the rules of the list are A and those of the set
abbrev pub AreFrom : ℕ → List Bool → List ℕ → Type 0
AreFrom A bits list = (B : ℕ) → Contains list B → (B ≡ A) ⊎ IsTrue (is_set bits B)

-- so with each production
pub record IsReachClosedBut (G : Grammar) (A : ℕ) (bits : List Bool) (list : List ℕ) : Type 0 where
  pub closed : (p : ℕ) → p < length G.productions → ReachedOrWaits G A bits list p
  pub from : AreFrom A bits list

-- from one set and work list to another nothing is lost: the set grew, and what was reached or waited is or does
pub record ReachGoesOn (G : Grammar) (A : ℕ) (old new : List Bool) (was is : Work) : Type 0 where
  pub kept : (B : ℕ) → IsTrue (is_set old B) → IsTrue (is_set new B)
  pub closed : (p : ℕ) → ReachedOrWaits G A old was.list p → ReachedOrWaits G A new is.list p
  pub from : AreFrom A old was.list → AreFrom A new is.list
  pub rules : is.rules ≡ was.rules
  pub room : missing new + length is.list ≤ missing old + length was.list
