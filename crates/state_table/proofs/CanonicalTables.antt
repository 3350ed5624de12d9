-- The table of a grammar's graph, and its refusals, against canonical LR(1).
use Rattle.std.proofs.Common.{ℕ, ◌<◌, ◌↔◌, List, [], ◌∷◌, length, get_or, Option, sym, ap, subst}
use Rattle.std.specs.Prelude.{IsSome, IsNone, IfSome, Contains}
use Rattle.std.proofs.lemmas.List.{get_or_default}
use Rattle.cfg_theory.specs.Grammar.{Sym, Grammar, WellFormed, body_of}
use Rattle.cfg_numbered.specs.Value.{GrammarValue}
use Rattle.lr_theory.specs.Automaton.{Automaton, Complete}
use Rattle.lr_theory.specs.Canonical.{Present, Look, shift, reduce, accept, Contest}
use Rattle.lr_theory.specs.Graph.{IsState, Finished, Conflict}
use Rattle.lr_theory.specs.GraphLaws.{Holds}
use Rattle.lr_theory.specs.Sizes.{StaysWithin}
use Rattle.lr_theory.proofs.GraphLaws.{building_law, graph_finished, graph_law}
use Rattle.lr_theory.proofs.TableLaws.{automaton_is_safe}
use Rattle.table_theory.specs.Cells.{Conflicts, ReduceReduce, ShiftReduce, NoPrecedences, AreCandidates, StateAllows, reduce_reduce_list, shift_reduce_list, some_conflicts}
use Rattle.table_theory.specs.CellLaws.{IsTold, SomeContested, ContestedOn}
use Rattle.table_theory.specs.TableCells.{candidates_of}
use Rattle.table_theory.proofs.CellLaws.{lists_law, listed_law, told_law}
use Rattle.table_theory.proofs.TableCells.{built_law, list_law}
use Rattle.state_table.specs.CellViews.{precedences_of}
use Rattle.state_table.specs.ConflictTexts.{ConflictsInRange}
use Rattle.state_table.specs.Graphs.{GraphValue, IsGraphOf, graph_of}
use Rattle.state_table.specs.TableValues.{TableValue}
use Rattle.state_table.specs.Tables.{AreContested, HasCanonicalCause, IsRefusal, IsTableOf, IsTableRefusal, NoneIsTold, Refusal, automaton_of}

-- the graph holds the canonical items
pub graph_holds : (G : Grammar) (g : GraphValue) → WellFormed G → IsGraphOf G g → Holds G (graph_of g)
graph_holds G g good is = graph_law.graph_holds G (graph_of g) good is.graph

if_some : (xs : List ReduceReduce) (ys : List ShiftReduce) (P : Conflicts → Type 0) → P (record { reduce_reduce = xs; shift_reduce = ys }) → IfSome (some_conflicts xs ys) P
if_some [] [] P h = tt
if_some [] (y ∷ ys) P h = h
if_some (x ∷ xs) ys P h = h

at_own : {X : Type 0} (xs : List X) (k : ℕ) (d : X) → k < length xs → Contains xs (get_or xs k d)
at_own xs k d lt = (k, lt, get_or_default xs k (get_or xs k d) d lt)

-- ---- a table

module _ (v : GrammarValue) (g : GraphValue) (t : TableValue) (good : WellFormed v.grammar) (is : IsTableOf v g t) where
  abbrev machine : Automaton
  machine = automaton_of g t

  abbrev pairs : List ReduceReduce
  pairs = reduce_reduce_list (candidates_of v.grammar machine) (length g.cores) v.grammar.tokens

  abbrev shifts : List ShiftReduce
  shifts = shift_reduce_list (precedences_of v) (candidates_of v.grammar machine) (length g.cores) v.grammar.tokens

  -- some conflict is listed exactly where canonical LR(1) is contested
  pub exact : NoPrecedences (precedences_of v) → IsSome t.conflicts ↔ SomeContested v.grammar
  exact none = subst (λ (o : Option Conflicts). IsSome o ↔ SomeContested v.grammar) (sym is.conflicts) (list_law.some v.grammar (precedences_of v) machine good is.built none)

  -- and none where each item's action stands in its cell
  pub unlisted : NoPrecedences (precedences_of v) → Complete v.grammar machine ↔ IsNone t.conflicts
  unlisted none = subst (λ (o : Option Conflicts). Complete v.grammar machine ↔ IsNone o) (sym is.conflicts) (list_law.unlisted v.grammar (precedences_of v) machine good is.built none)

  done : Finished v.grammar (graph_of g)
  done = graph_finished v.grammar (graph_of g) good is.built.graph

  are : AreCandidates v.grammar (graph_of g) (candidates_of v.grammar machine)
  are = built_law.candidates v.grammar (precedences_of v) machine is.built

  pair_conflict : (s u p q : ℕ) → Contains pairs (u, p, q, s) → (p < q) × Conflict v.grammar (graph_of g) s u (reduce p) (reduce q)
  pair_conflict s u p q c =
      let (state, range, lists) = ((lists_law.contain v.grammar (graph_of g) (precedences_of v) (candidates_of v.grammar machine)).pair s u p q).0 c in
      (listed_law.listed v.grammar (graph_of g) (precedences_of v) (candidates_of v.grammar machine) done are).pair s u p q state range lists

  shift_conflict : (s u p : ℕ) → Contains shifts (u, p, s) → (u < v.grammar.tokens) × Conflict v.grammar (graph_of g) s u shift (reduce p)
  shift_conflict s u p c =
      let (state, range, lists) = ((lists_law.contain v.grammar (graph_of g) (precedences_of v) (candidates_of v.grammar machine)).shift_reduce s u p).0 c in
      (range, (listed_law.listed v.grammar (graph_of g) (precedences_of v) (candidates_of v.grammar machine) done are).shift_reduce s u p state range lists)

  -- what is listed is contested
  pub contested : IfSome t.conflicts (AreContested v.grammar)
  contested =
      let listed = list_law.listed v.grammar (precedences_of v) machine good is.built in
      subst (λ (o : Option Conflicts). IfSome o (AreContested v.grammar)) (sym is.conflicts) (if_some pairs shifts (AreContested v.grammar) (record {
        shift_reduce = λ s u p c. listed.shift_reduce s u p c;
        pair = λ s u p q c. ((pair_conflict s u p q c).0, listed.pair s u p q c);
      }))

  in_range : (s u p : ℕ) → IsState (graph_of g) s → StateAllows v.grammar (graph_of g) s u (reduce p) → p < length v.grammar.productions
  in_range s u p state a =
      let l = ((is.built.closed.is s state).looks p (length (body_of v.grammar p)) u).0 a.1 in
      ((automaton_is_safe.safe v.grammar machine good (built_law.automaton v.grammar (precedences_of v) machine good is.built)).in_range s p (length (body_of v.grammar p)) (record { lookaheads = l.lookaheads; at = l.at })).0

  -- tokens and productions of what is listed are the grammar's
  pub conflicts_in_range : IfSome t.conflicts (ConflictsInRange v)
  conflicts_in_range = subst (λ (o : Option Conflicts). IfSome o (ConflictsInRange v)) (sym is.conflicts) (if_some pairs shifts (ConflictsInRange v) (record {
    shifts = λ k d lt.
        (let e : ShiftReduce = get_or shifts k d in
        let (range, c) = shift_conflict e.2 e.0 e.1 (at_own shifts k d lt) in
        (range, in_range e.2 e.0 e.1 c.state c.contest.other));
    pairs = λ k d lt.
        (let e : ReduceReduce = get_or pairs k d in
        let c = (pair_conflict e.3 e.0 e.1 e.2 (at_own pairs k d lt)).1 in
        (in_range e.3 e.0 e.1 c.state c.contest.one, in_range e.3 e.0 e.2 c.state c.contest.other));
  }))

  -- accept and a reduction are never contested
  pub unrefused : (w : List Sym) (u p : ℕ) → Contest v.grammar (Present v.grammar w) (Look v.grammar w) u accept (reduce p) → ⊥
  unrefused w u p c = list_law.unrefused v.grammar (precedences_of v) machine good is.built u p (w, c)

  -- and no production is told
  pub table_tells_none : NoneIsTold v.grammar
  table_tells_none p h = is.built.not_refused p ((told_law.told v.grammar (graph_of g) (candidates_of v.grammar machine) good is.built.graph are p).1 h)

-- ---- refusals

told_contested : (G : Grammar) (p : ℕ) → IsTold G p → (u : ℕ) × ContestedOn G u accept (reduce p)
told_contested G p h = (
  h.end,
  (
    h.symbol ∷ [],
    record {
      differ = λ e. cc;
      one = (h.is_end, subst (Present G (h.symbol ∷ []) G.start) (sym (ap length h.body)) h.complete);
      other = (h.other, h.look);
    },
  ),
)

-- the refusal of a graph of the grammar is one of the grammar
pub refusal_of_graph : (top : ℕ) (v : GrammarValue) (g : GraphValue) (r : Refusal) → StaysWithin v.grammar top → IsGraphOf v.grammar g → IsTableRefusal v g r → IsRefusal top v r
refusal_of_graph top v g (Refusal.states n) stays is h = absurd h
refusal_of_graph top v g (Refusal.told p) stays is h = (stays, h)
refusal_of_graph top v g Refusal.cells stays is h = (stays, h.0, (graph_of g, is.graph, h.1))
refusal_of_graph top v g Refusal.memory stays is h = tt

-- and has a canonical cause
pub refusal_cause : (top : ℕ) (v : GrammarValue) (r : Refusal) → WellFormed v.grammar → IsRefusal top v r → HasCanonicalCause v.grammar top r
refusal_cause top v (Refusal.states n) good h = (h.1.moment.graph, h.1.past, building_law.underway v.grammar h.1.moment good h.1.underway)
refusal_cause top v (Refusal.told p) good h = told_contested v.grammar p h.1
refusal_cause top v Refusal.cells good (stays, none, (g, is, big)) = (g, big, graph_law.graph_holds v.grammar g good is)
refusal_cause top v Refusal.memory good h = tt
