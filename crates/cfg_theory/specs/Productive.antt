-- Productive rules from a set of the rules as a program computes it.
use Rattle.std.specs.Prelude.{ℕ, ◌<◌, ◌↔◌, Bool, IsTrue, List, [], ◌∷◌}
use Rattle.cfg_theory.specs.Grammar.{Sym, rule, token, Grammar, WellFormed, IsOf, body_of}
use Rattle.cfg_theory.specs.Derivation.{DerivesTokens, IsProductive, AllProductive}

-- each rule of the list is in P
abbrev pub RulesIn : (ℕ → Type 0) → List Sym → Type 0
RulesIn P [] = Unit {0}
RulesIn P (rule A ∷ a) = P A × RulesIn P a
RulesIn P (token t ∷ a) = RulesIn P a

-- P holds no more than productive rules, and is closed under the productions
pub record IsProductiveTable (G : Grammar) (P : ℕ → Type 0) : Type 0 where
  pub productive : (A : ℕ) → P A → IsProductive G A
  pub closed : (p A : ℕ) → IsOf G p A → RulesIn P (body_of G p) → P A

-- such a set is exact, for rules and for lists
pub record ProductiveIsExact (G : Grammar) (P : ℕ → Type 0) : Type 0 where
  pub rule_productive : (A : ℕ) → P A ↔ IsProductive G A
  pub list_productive : (a : List Sym) → RulesIn P a ↔ ((w : List ℕ) × DerivesTokens G a w)

-- as where a program keeps it as bits
pub record ProductiveTablesAreExact : Type 0 where
  pub exact : (G : Grammar) (productive : ℕ → Bool) → IsProductiveTable G (λ A. IsTrue (productive A)) → ProductiveIsExact G (λ A. IsTrue (productive A))

-- where each rule has a production, each rule that a body names derives some token list exactly where each rule does
pub record AllRulesProductive : Type 0 where
  pub agree : (G : Grammar) → WellFormed G → ((A : ℕ) → A < G.rules → (p : ℕ) × IsOf G p A) → AllProductive G ↔ ((A : ℕ) → A < G.rules → IsProductive G A)
