-- A set of rules that a rule reaches, closed under references, holds all that it reaches.
use Rattle.std.proofs.Common.{ℕ}
use Rattle.cfg_theory.specs.Grammar.{Grammar}
use Rattle.cfg_theory.specs.Derivation.{Refers, HasPath}
use Rattle.cfg_theory.specs.Path.{IsReachTable, PathTablesAreExact}

-- one more reference at the end
pub path_on : (G : Grammar) {A B C : ℕ} → HasPath G A B → Refers G B C → HasPath G A C
path_on G (HasPath.one r) s = HasPath.more r (HasPath.one s)
path_on G (HasPath.more r h) s = HasPath.more r (path_on G h s)

module _ (G : Grammar) (A : ℕ) (P : ℕ → Type 0) (table : IsReachTable G A P) where
  further : {B C : ℕ} → P B → HasPath G B C → P C
  further {B} {C} b (HasPath.one r) = table.closed B C b r
  further {B} {C} b (HasPath.more {B = D} r h) = further (table.closed B D b r) h

  pub reached_in_table : {B : ℕ} → HasPath G A B → P B
  reached_in_table {B} (HasPath.one r) = table.named B r
  reached_in_table {B} (HasPath.more {B = D} r h) = further (table.named D r) h

pub path_tables_exact : PathTablesAreExact
path_tables_exact = record { exact = λ G A path h B. (h.reached B, reached_in_table G A _ h) }
