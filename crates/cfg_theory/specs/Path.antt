-- The rules that one rule reaches, from a set of the rules as a program computes it.
use Rattle.std.specs.Prelude.{ℕ, ◌↔◌, Bool, IsTrue}
use Rattle.cfg_theory.specs.Grammar.{Grammar}
use Rattle.cfg_theory.specs.Derivation.{Refers, HasPath}

-- P holds no more than rules that A reaches, and is closed under references
pub record IsReachTable (G : Grammar) (A : ℕ) (P : ℕ → Type 0) : Type 0 where
  pub reached : (B : ℕ) → P B → HasPath G A B
  pub named : (B : ℕ) → Refers G A B → P B
  pub closed : (B C : ℕ) → P B → Refers G B C → P C

-- such a set is exact, as where a program keeps it as bits
pub record PathTablesAreExact : Type 0 where
  pub exact : (G : Grammar) (A : ℕ) (path : ℕ → Bool) → IsReachTable G A (λ B. IsTrue (path B)) → (B : ℕ) → IsTrue (path B) ↔ HasPath G A B
