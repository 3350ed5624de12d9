-- A pair has one first place that doesn't fit, if it has any.
use Rattle.std.specs.Prelude.{◌≡◌, ℕ}
use Rattle.cfg_theory.specs.Grammar.{Grammar}
use Rattle.state_table.specs.Graphs.{GraphValue}
use Rattle.state_table.specs.TableValues.{TableValue}
use Rattle.state_table.specs.Tables.{CountsAgree, automaton_of}
use Rattle.lrpar.specs.Safety.{PairCell, IsLeastMisfit}

pub record LeastMisfitsAreOne : Type 0 where
  pub one : (G : Grammar) (g : GraphValue) (t : TableValue) (s r : ℕ) (c k : PairCell) → IsLeastMisfit (CountsAgree G g t) G (automaton_of g t) s c → IsLeastMisfit (CountsAgree G g t) G (automaton_of g t) r k → (s ≡ r) × (c ≡ k)
