-- A grammar with its precedences has one table and one list of conflicts.
use Rattle.std.proofs.Common.{◌≡◌, ℕ, zero, suc, ◌<◌, ◌++◌, List, length, Option, Some, None, refl, sym, ap, ap₂, ◌∙◌, arith}
use Rattle.std.proofs.Math.Decide.{dec_lt}
use Rattle.cfg_theory.specs.Grammar.{Sym, rule, Grammar, WellFormed}
use Rattle.lr_theory.specs.Graph.{IsState, Graph, SameGraph}
use Rattle.lr_theory.specs.Building.{IsGraph}
use Rattle.lr_theory.specs.Automaton.{Automaton}
use Rattle.lr_theory.proofs.UniqueGraph.{graph_same}
use Rattle.table_theory.specs.Cells.{Precedences, cell_of, gathered, pairs_at, shifts_at, reduce_reduce_list, shift_reduce_list, some_conflicts}
use Rattle.table_theory.specs.TableCells.{candidates_of, listed_conflicts, IsBuilt, BuiltIsUnique}
use Rattle.table_theory.proofs.CellUnique.{unique}
use Rattle.table_theory.proofs.TableCells.{candidates}

same_gathered : {A : Type 0} (f g : ℕ → List A) (n : ℕ) → ((k : ℕ) → k < n → f k ≡ g k) → gathered f n ≡ gathered g n
same_gathered f g zero h = refl
same_gathered f g (suc n) h = ap₂ (λ x y. x ++ y) (same_gathered f g n (λ k lt. h k (omega arith))) (h n (omega arith))

-- outside of a graph there is no edge
no_edge : (G : Grammar) (g : Graph) → IsGraph G g → (s : ℕ) (X : Sym) → (IsState g s → ⊥) → (o : Option ℕ) → g.edge s X ≡ o → o ≡ None
no_edge G g is s X out None e = refl
no_edge G g is s X out (Some q) e = absurd (out (let x = is.pruned.outside s q X e in omega (arith, is.pruned.size)))

module _ (G : Grammar) (precedences : Precedences) (a b : Automaton) (good : WellFormed G) (x : IsBuilt G precedences a) (y : IsBuilt G precedences b) where
  same : SameGraph a.graph b.graph
  same = graph_same G good a.graph b.graph x.graph y.graph

  state_there : (s : ℕ) → IsState a.graph s → IsState b.graph s
  state_there s h = omega (arith, same.count)

  state_back : (s : ℕ) → IsState b.graph s → IsState a.graph s
  state_back s h = omega (arith, same.count)

  same_candidates : (s t : ℕ) → IsState a.graph s → t < G.tokens → candidates_of G a s t ≡ candidates_of G b s t
  same_candidates s t state range = unique G a.graph b.graph same s t state (candidates_of G a s t) (candidates_of G b s t) (candidates G precedences a x s t state range) (candidates G precedences b y s t (state_there s state) range)

  same_action : (s t : ℕ) → a.action s t ≡ b.action s t
  same_action s t = by (dec_lt s (length a.graph.cores)) (dec_lt t G.tokens)
    where
      by : Dec (s < length a.graph.cores) → Dec (t < G.tokens) → a.action s t ≡ b.action s t
      by (yes state) (yes range) = x.cells.inside s t state range ∙ ap (cell_of precedences t) (same_candidates s t state range) ∙ sym (y.cells.inside s t (state_there s state) range)
      by (yes state) (no past) = x.cells.past_tokens s t past ∙ sym (y.cells.past_tokens s t past)
      by (no out) _ = x.cells.past_states s t out ∙ sym (y.cells.past_states s t (λ state. out (state_back s state)))

  same_goto : (s A : ℕ) → a.goto s A ≡ b.goto s A
  same_goto s A = by (dec_lt s (length a.graph.cores))
    where
      by : Dec (s < length a.graph.cores) → a.goto s A ≡ b.goto s A
      by (yes state) = x.cells.gotos s A ∙ same.edges s (rule A) state ∙ sym (y.cells.gotos s A)
      by (no out) = x.cells.gotos s A ∙ no_edge G a.graph x.graph s (rule A) out (a.graph.edge s (rule A)) refl ∙
          sym (no_edge G b.graph y.graph s (rule A) (λ state. out (state_back s state)) (b.graph.edge s (rule A)) refl) ∙ sym (y.cells.gotos s A)

  same_pairs : reduce_reduce_list (candidates_of G a) (length a.graph.cores) G.tokens ≡ reduce_reduce_list (candidates_of G b) (length a.graph.cores) G.tokens
  same_pairs = same_gathered _ _ (length a.graph.cores) (λ s state. same_gathered _ _ G.tokens (λ t range. ap (λ c. pairs_at s t c.reductions) (same_candidates s t state range)))

  same_shifts : shift_reduce_list precedences (candidates_of G a) (length a.graph.cores) G.tokens ≡ shift_reduce_list precedences (candidates_of G b) (length a.graph.cores) G.tokens
  same_shifts = same_gathered _ _ (length a.graph.cores) (λ s state. same_gathered _ _ G.tokens
      (λ t range. ap (λ c. shifts_at s t c.reductions c.edge (precedences.of_token t) precedences.of_production) (same_candidates s t state range)))

  same_list : listed_conflicts G precedences a ≡ listed_conflicts G precedences b
  same_list = ap₂ some_conflicts same_pairs same_shifts ∙
      ap (λ n. some_conflicts (reduce_reduce_list (candidates_of G b) n G.tokens) (shift_reduce_list precedences (candidates_of G b) n G.tokens)) same.count

pub unique_law : BuiltIsUnique
unique_law = record { action = same_action; goto = same_goto; listed = same_list }
