-- FIRST sets as a program keeps them: a set of tokens for each rule, and the set of the nullable rules.
use Rattle.std.specs.Prelude.{◌≡◌, ℕ, ◌+◌, ◌<◌, ◌⊎◌, ◌↔◌, Bool, IsTrue, List, [], ◌∷◌, length}
use Rattle.cfg_theory.specs.Grammar.{Sym, rule, token, Grammar, head_of, body_of}
use Rattle.cfg_theory.specs.Derivation.{Nullable, IsFirst}
use Rattle.cfg_theory.specs.First.{AllOf, FirstOf}
use Rattle.vob.specs.Sets.{is_set, is_set_in, missing, missing_in, AreRows}
use Rattle.cfg_sets.specs.WorkLists.{ListsNaming, NamesOne}

pub record FirstSets : Type 0 where
  pub tokens : ℕ
  pub rows : List (List Bool)
  pub epsilons : List Bool

-- the rule A is in the set of nullable rules
abbrev pub HasEpsilon : FirstSets → ℕ → Type 0
HasEpsilon s A = IsTrue (is_set s.epsilons A)

-- the token t is in the set of the rule A
abbrev pub HasFirst : FirstSets → ℕ → ℕ → Type 0
HasFirst s A t = IsTrue (is_set_in s.rows A t)

-- there is a set for each rule of the grammar, of its tokens
pub record AreOf (G : Grammar) (s : FirstSets) : Type 0 where
  pub tokens : s.tokens ≡ G.tokens
  pub rules : length s.epsilons ≡ G.rules
  pub rows : AreRows G.rules G.tokens s.rows

-- the sets hold exactly what derivations show
pub record AreFirsts (G : Grammar) (s : FirstSets) : Type 0 where
  pub sizes : AreOf G s
  pub nullable : (A : ℕ) → HasEpsilon s A ↔ Nullable G (rule A ∷ [])
  pub first : (A t : ℕ) → HasFirst s A t ↔ IsFirst G (rule A ∷ []) t

-- the symbol has a set
abbrev pub IsWithin : FirstSets → Sym → Type 0
IsWithin s (rule A) = A < length s.rows
IsWithin s (token t) = t < s.tokens

-- t begins the symbol X, or is in P where X is nullable
abbrev pub FirstBefore : FirstSets → Sym → (ℕ → Type 0) → ℕ → Type 0
FirstBefore s (rule A) P t = HasFirst s A t ⊎ (HasEpsilon s A × P t)
FirstBefore s (token u) P t = u ≡ t

abbrev pub IsNullableIn : FirstSets → Sym → Type 0
IsNullableIn s (rule A) = HasEpsilon s A
IsNullableIn s (token t) = ⊥

-- what the sets tell of a list
abbrev pub FirstsOf : FirstSets → List Sym → ℕ → Type 0
FirstsOf s a t = FirstOf (HasEpsilon s) (HasFirst s) a t

-- the sets hold no more than derivations show
pub record AreSound (G : Grammar) (s : FirstSets) : Type 0 where
  pub nullable : (A : ℕ) → HasEpsilon s A → Nullable G (rule A ∷ [])
  pub first : (A t : ℕ) → HasFirst s A t → IsFirst G (rule A ∷ []) t

-- what the sets tell of the body of p is in the sets of its rule
pub record IsClosedAt (G : Grammar) (s : FirstSets) (p : ℕ) : Type 0 where
  pub nullable : AllOf (HasEpsilon s) (body_of G p) → HasEpsilon s (head_of G p)
  pub first : (t : ℕ) → FirstsOf s (body_of G p) t → HasFirst s (head_of G p) t

-- how many bits of the sets are clear
abbrev pub first_room : FirstSets → ℕ
first_room s = missing_in s.rows + missing s.epsilons

-- each symbol has one
abbrev pub AllWithin : FirstSets → List Sym → Type 0
AllWithin s [] = Unit {0}
AllWithin s (X ∷ a) = IsWithin s X × AllWithin s a

-- the tokens that a symbol begins with, as the sets tell
abbrev pub SymbolFirst : FirstSets → Sym → ℕ → Type 0
SymbolFirst s (rule A) t = HasFirst s A t
SymbolFirst s (token u) t = u ≡ t

-- the tokens P were added to the set of the rule A, and A to the nullable rules where N holds; nothing else changed
pub record Adds (A : ℕ) (P : ℕ → Type 0) (N : Type 0) (old new : FirstSets) : Type 0 where
  pub tokens : new.tokens ≡ old.tokens
  pub rules : length new.epsilons ≡ length old.epsilons
  pub count : length new.rows ≡ length old.rows
  pub rows : (n m : ℕ) → AreRows n m old.rows → AreRows n m new.rows
  pub first : (B t : ℕ) → HasFirst new B t ↔ (HasFirst old B t ⊎ ((B ≡ A) × P t))
  pub nullable : (B : ℕ) → HasEpsilon new B ↔ (HasEpsilon old B ⊎ ((B ≡ A) × N))

-- sets of the grammar's rules that hold no more than derivations show, and a further one
pub record AreSoundOf (G : Grammar) (s : FirstSets) (row : List Bool) : Type 0 where
  pub sizes : AreOf G s
  pub sound : AreSound G s
  pub width : length row ≡ G.tokens

-- the sets are closed under p, or p names a rule of the list
abbrev pub IsClosedOrWaits : Grammar → FirstSets → List ℕ → ℕ → Type 0
IsClosedOrWaits G s list p = IsClosedAt G s p ⊎ NamesOne G list p

-- such sets beside productions under which they are closed, and the productions that name each rule
pub record AreUnderWay (G : Grammar) (s : FirstSets) (row done : List Bool) (lists : List (List ℕ)) : Type 0 where
  pub sound : AreSoundOf G s row
  pub width : length done ≡ length G.productions
  pub closed : (p : ℕ) → IsTrue (is_set done p) → IsClosedAt G s p
  pub naming : ListsNaming G (length G.productions) lists

-- so with each production
abbrev pub AreFirstsClosedBut : Grammar → FirstSets → List ℕ → Type 0
AreFirstsClosedBut G s list = (p : ℕ) → p < length G.productions → IsClosedOrWaits G s list p
