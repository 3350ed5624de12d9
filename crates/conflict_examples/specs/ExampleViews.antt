-- Examples as contracts see them.
use Rattle.std.specs.Prelude.{ℕ, List, map, reverse}
use Rattle.cfg_base.specs.declared.symbol.PIdx.{PIdx}
use Rattle.cfg_base.specs.declared.symbol.SIdx.{SIdx}
use Rattle.cfg_numbered.specs.Symbols.{syms_of, numbers_of}
use Rattle.cfg_numbered.specs.Value.{GrammarValue}
use Rattle.state_table.specs.Graphs.{GraphValue}
use Rattle.conflict_examples.specs.Spines.{Item, Shown, Example}
use Rattle.conflict_examples.specs.declared.examples.ActionExample.{ActionExample}
use Rattle.conflict_examples.specs.declared.examples.ConflictExample.{ConflictExample}

abbrev pub open_item : {S : Type 0} → (S → ℕ) → PIdx S × SIdx S → Item
open_item number e = record { production = number e.0.0; dot = number e.1.0 }

-- the innermost first
abbrev pub spine_of : {S : Type 0} → (S → ℕ) → List (PIdx S × SIdx S) → List Item
spine_of number items = reverse (map (open_item number) items)

abbrev pub shown_of : {S : Type 0} → (S → ℕ) → ActionExample S → Shown
shown_of number a = record { spine = spine_of number a.spine.items; steps = numbers_of number a.steps.items }

-- the last symbol first
abbrev pub example_of : {S : Type 0} → (S → ℕ) → ConflictExample S → Example
example_of number x = record { string = reverse (syms_of number x.symbols.items); token = number x.token.0; first = shown_of number x.first; second = shown_of number x.second }

-- a grammar and a graph
pub record FinderValue : Type 0 where
  pub grammar : GrammarValue
  pub graph : GraphValue
