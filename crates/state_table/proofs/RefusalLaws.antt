-- Refusals against tables and against each other.
use Rattle.std.proofs.Common.{◌≡◌, ◌≢◌, ℕ, ◌+◌, ◌*◌, refl, sym, ap, ◌∙◌, arith}
use Rattle.cfg_theory.specs.Grammar.{Grammar, WellFormed}
use Rattle.cfg_numbered.specs.Value.{GrammarValue}
use Rattle.lr_theory.specs.Building.{IsGraph}
use Rattle.lr_theory.specs.Graph.{Graph}
use Rattle.lr_theory.specs.Sizes.{StaysWithin, cell_count}
use Rattle.lr_theory.proofs.Sizes.{building_sizes}
use Rattle.lr_theory.proofs.UniqueGraph.{graph_same}
use Rattle.table_theory.proofs.Refusals.{told_same}
use Rattle.state_table.specs.Graphs.{GraphValue, graph_of}
use Rattle.state_table.specs.TableValues.{TableValue}
use Rattle.state_table.specs.Tables.{IsRefusal, IsTableOf, Refusal}
use Rattle.state_table.proofs.CanonicalTables.{table_tells_none}

-- graphs of a grammar have one count of cells
same_cells : (G : Grammar) (g h : Graph) → WellFormed G → IsGraph G g → IsGraph G h → cell_count G g ≡ cell_count G h
same_cells G g h good x y = ap (λ n. n * (G.tokens + G.rules)) (graph_same G good g h x y).count

-- a grammar that has a table isn't refused, but for want of memory
pub refused_has_no_table : (top : ℕ) (v : GrammarValue) (g : GraphValue) (t : TableValue) (r : Refusal) → WellFormed v.grammar → StaysWithin v.grammar top → IsTableOf v g t → IsRefusal top v r → r ≡ Refusal.memory
refused_has_no_table top v g t (Refusal.states n) good stays is h = absurd (building_sizes.apart v.grammar top h.1 stays)
refused_has_no_table top v g t (Refusal.told p) good stays is h = absurd (table_tells_none v g t good is p h.1)
refused_has_no_table top v g t Refusal.cells good stays is (within, none, (other, graph, big)) =
    absurd (let few = is.room in let e = same_cells v.grammar other (graph_of g) good graph is.built.graph in omega (arith, few, big, e))
refused_has_no_table top v g t Refusal.memory good stays is h = refl

-- and what a grammar is refused with is one, but for want of memory
pub one_refusal : (top : ℕ) (v : GrammarValue) (r s : Refusal) → WellFormed v.grammar → IsRefusal top v r → IsRefusal top v s → r ≢ Refusal.memory → s ≢ Refusal.memory → r ≡ s
one_refusal top v (Refusal.states m) (Refusal.states n) good h k x y = ap Refusal.states (h.0 ∙ sym k.0)
one_refusal top v (Refusal.states m) (Refusal.told p) good h k x y = absurd (building_sizes.apart v.grammar top h.1 k.0)
one_refusal top v (Refusal.states m) Refusal.cells good h k x y = absurd (building_sizes.apart v.grammar top h.1 k.0)
one_refusal top v (Refusal.told p) (Refusal.states n) good h k x y = absurd (building_sizes.apart v.grammar top k.1 h.0)
one_refusal top v (Refusal.told p) (Refusal.told q) good h k x y = ap Refusal.told (told_same v.grammar good p q h.1 k.1)
one_refusal top v (Refusal.told p) Refusal.cells good h k x y = absurd (k.1 p h.1)
one_refusal top v Refusal.cells (Refusal.states n) good h k x y = absurd (building_sizes.apart v.grammar top k.1 h.0)
one_refusal top v Refusal.cells (Refusal.told p) good h k x y = absurd (h.1 p k.1)
one_refusal top v Refusal.cells Refusal.cells good h k x y = refl
one_refusal top v Refusal.memory s good h k x y = absurd (x refl)
one_refusal top v (Refusal.states m) Refusal.memory good h k x y = absurd (y refl)
one_refusal top v (Refusal.told p) Refusal.memory good h k x y = absurd (y refl)
one_refusal top v Refusal.cells Refusal.memory good h k x y = absurd (y refl)
