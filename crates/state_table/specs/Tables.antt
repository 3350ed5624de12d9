-- The table of a grammar's graph, why none is given, and both against canonical LR(1).
use Rattle.std.specs.Prelude.{◌≡◌, ℕ, ◌+◌, ◌<◌, ◌≤◌, ◌^◌, [], length, get_or, Contains}
use Rattle.cfg_theory.specs.Grammar.{Grammar}
use Rattle.cfg_numbered.specs.Value.{GrammarValue}
use Rattle.lr_theory.specs.Automaton.{Automaton}
use Rattle.lr_theory.specs.Building.{IsGraph}
use Rattle.lr_theory.specs.Canonical.{shift, reduce, accept}
use Rattle.lr_theory.specs.Graph.{Graph}
use Rattle.lr_theory.specs.GraphLaws.{AllTied, Holds}
use Rattle.lr_theory.specs.Sizes.{GrowsPast, StaysWithin, cell_count}
use Rattle.table_theory.specs.CellLaws.{ContestedOn, IsTold}
use Rattle.table_theory.specs.Cells.{Conflicts}
use Rattle.table_theory.specs.TableCells.{IsBuilt, listed_conflicts}
use Rattle.state_table.specs.CellViews.{precedences_of}
use Rattle.state_table.specs.Graphs.{GraphValue, graph_of}
use Rattle.state_table.specs.TableValues.{TableValue, action_at, goto_at}

-- the graph with the table's cells and gotos
abbrev pub automaton_of : GraphValue → TableValue → Automaton
automaton_of g t = record { graph = graph_of g; closed = g.closed; action = action_at t; goto = goto_at t }

-- the counts of grammar, graph and table agree
pub record CountsAgree (G : Grammar) (g : GraphValue) (t : TableValue) : Type 0 where
  pub states : t.states ≡ length g.cores
  pub tokens : t.tokens ≡ G.tokens
  pub rules : t.rules ≡ G.rules
  pub productions : t.productions ≡ length G.productions
  pub start : t.start ≡ g.start

-- a row of cells and one of gotos for each state, each of one width
pub record HasFullRows (t : TableValue) : Type 0 where
  pub actions : length t.actions ≡ t.states
  pub gotos : length t.gotos ≡ t.states
  pub cells : (s : ℕ) → s < t.states → length (get_or t.actions s []) ≡ t.tokens
  pub targets : (s : ℕ) → s < t.states → length (get_or t.gotos s []) ≡ t.rules

-- a table that was made of the grammar and this graph
pub record IsTableOf (v : GrammarValue) (g : GraphValue) (t : TableValue) : Type 0 where
  pub built : IsBuilt v.grammar (precedences_of v) (automaton_of g t)
  pub counts : CountsAgree v.grammar g t
  pub rows : HasFullRows t
  pub conflicts : t.conflicts ≡ listed_conflicts v.grammar (precedences_of v) (automaton_of g t)
  -- as many cells as can be counted
  pub room : cell_count v.grammar (graph_of g) < 2 ^ 64

-- why no table is given
pub data Refusal : Type 0 where
  -- more states than there are numbers, so many
  states : ℕ → Refusal
  -- where a text has ended, this production reduces too
  told : ℕ → Refusal
  -- more cells than can be counted
  cells : Refusal
  memory : Refusal

abbrev pub NoneIsTold : Grammar → Type 0
NoneIsTold G = (p : ℕ) → IsTold G p → ⊥

-- a graph has no table; a production is told before cells are counted
abbrev pub IsTableRefusal : GrammarValue → GraphValue → Refusal → Type 0
IsTableRefusal v g (Refusal.states n) = ⊥
IsTableRefusal v g (Refusal.told p) = IsTold v.grammar p
IsTableRefusal v g Refusal.cells = NoneIsTold v.grammar × (2 ^ 64 ≤ cell_count v.grammar (graph_of g))
IsTableRefusal v g Refusal.memory = Unit {0}

-- a grammar has none, where states have numbers up to `top`: the first of these, in this order
abbrev pub IsRefusal : ℕ → GrammarValue → Refusal → Type 0
IsRefusal top v (Refusal.states n) = (n ≡ top + 1) × GrowsPast v.grammar top
IsRefusal top v (Refusal.told p) = StaysWithin v.grammar top × IsTold v.grammar p
IsRefusal top v Refusal.cells = StaysWithin v.grammar top × NoneIsTold v.grammar × ((g : Graph) × IsGraph v.grammar g × (2 ^ 64 ≤ cell_count v.grammar g))
IsRefusal top v Refusal.memory = Unit {0}

-- the same with no word of the building: more item sets than there are numbers, each tied to canonical LR(1) and any
-- two of one core crossing; accept contested by the production; a graph with too many cells that holds the canonical items
abbrev pub HasCanonicalCause : Grammar → ℕ → Refusal → Type 0
HasCanonicalCause G top (Refusal.states n) = (g : Graph) × (top < length g.cores) × AllTied G g
HasCanonicalCause G top (Refusal.told p) = (t : ℕ) × ContestedOn G t accept (reduce p)
HasCanonicalCause G top Refusal.cells = (g : Graph) × (2 ^ 64 ≤ cell_count G g) × Holds G g
HasCanonicalCause G top Refusal.memory = Unit {0}

-- each listed conflict is a canonical one: a shift against a reduction on its own token, a pair of reductions on some token
pub record AreContested (G : Grammar) (c : Conflicts) : Type 0 where
  pub shift_reduce : (s t p : ℕ) → Contains c.shift_reduce (t, p, s) → ContestedOn G t shift (reduce p)
  pub pair : (s t p q : ℕ) → Contains c.reduce_reduce (t, p, q, s) → (p < q) × ((u : ℕ) × ContestedOn G u (reduce p) (reduce q))
