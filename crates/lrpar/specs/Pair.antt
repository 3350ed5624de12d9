-- What a checked pair of a graph and a table is.
use Rattle.std.specs.Prelude.{ℕ}
use Rattle.cfg_theory.specs.Grammar.{Grammar}
use Rattle.lr_theory.specs.Automaton.{Safe}
use Rattle.lr_theory.specs.Chains.{ChainsWithin}
use Rattle.state_table.specs.Graphs.{GraphValue}
use Rattle.state_table.specs.TableValues.{TableValue}
use Rattle.state_table.specs.Tables.{CountsAgree, automaton_of}

-- a graph and a table that are safe for a grammar
pub record IsSafePair (G : Grammar) (g : GraphValue) (v : TableValue) : Type 0 where
  pub counts : CountsAgree G g v
  pub safe : Safe G (automaton_of g v)

-- and whose chains of reductions are within the cap
pub record IsChecked (G : Grammar) (g : GraphValue) (v : TableValue) (limit : ℕ) : Type 0 where
  pub safe_pair : IsSafePair G g v
  pub chains : ChainsWithin G (automaton_of g v) limit
