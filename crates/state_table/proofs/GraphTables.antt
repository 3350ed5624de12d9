-- A table by the rows of a graph's states is the grammar's, and a state that is contested has it refused.
use Rattle.std.proofs.Common.{◌≡◌, ℕ, ◌<◌, ◌≤◌, ◌^◌, inl, inr, Bool, true, false, ◌&&◌, nat_eq, List, [], ◌∷◌, length, get_or, Option, Some, None, refl, sym, ap, ap₂, ◌∙◌, arith, eq-eqb}
use Rattle.std.proofs.lemmas.Bool.{cases_lt}
use Rattle.std.proofs.lemmas.List.{get_or_past}
use Rattle.cfg_theory.specs.Grammar.{Sym, rule, token, Grammar, WellFormed, end_token}
use Rattle.cfg_numbered.specs.Value.{GrammarValue}
use Rattle.lr_theory.specs.Automaton.{Action}
use Rattle.lr_theory.specs.Sizes.{cell_count}
use Rattle.table_theory.specs.Cells.{Candidates, AreCandidates, Refuses, NotRefused, candidates_in, reductions_in, accepts_in, cell_of, gathered, pairs_at, shifts_at, some_conflicts, reduce_reduce_list, shift_reduce_list}
use Rattle.table_theory.specs.CellLaws.{IsTold}
use Rattle.table_theory.specs.TableCells.{listed_conflicts, candidates_of}
use Rattle.table_theory.proofs.CellLaws.{told_law}
use Rattle.table_theory.proofs.CellMaps.{maps_law}
use Rattle.state_table.specs.CellRows.{IsContested, first_of, pairs_in, shifts_in}
use Rattle.state_table.specs.CellViews.{precedences_of}
use Rattle.state_table.specs.GraphParts.{parts_in, targets_in}
use Rattle.state_table.specs.Graphs.{GraphValue, IsGraphOf, graph_of, target_in}
use Rattle.state_table.specs.TableRows.{IsTableBy}
use Rattle.state_table.specs.TableValues.{TableValue, action_at, goto_at}
use Rattle.state_table.specs.Tables.{CountsAgree, HasFullRows, IsTableOf, NoneIsTold, automaton_of}
use Rattle.state_table.proofs.Gathered.{gathered_same}
use Rattle.state_table.proofs.GraphParts.{candidates_are, reductions_are, rule_target, target_row}
use Rattle.state_table.proofs.RowEnds.{at_none}

-- ---- refusals

begins : (l : List ℕ) (p : ℕ) → first_of l ≡ Some p → (rest : List ℕ) × (l ≡ p ∷ rest)
begins [] p e = cc
begins (q ∷ l) p e = let f : q ≡ p = cc in (l, ap (λ x. x ∷ l) f)

and_made : (a b : Bool) → a ≡ true → b ≡ true → a && b ≡ true
and_made true b x y = y
and_made false b x y = cc

and_right : (a b : Bool) → a && b ≡ true → b ≡ true
and_right true b h = h
and_right false b h = cc

module _ (G : Grammar) (g : GraphValue) (is : IsGraphOf G g) (good : WellFormed G) where
  -- the candidates for each cell
  abbrev cs : ℕ → ℕ → Candidates
  cs s t = candidates_in G (get_or g.closed s []) ((graph_of g).edge s (token t)) t

  pub are_candidates : AreCandidates G (graph_of g) cs
  are_candidates s t state range = let closes = is.closes in maps_law.candidates G (graph_of g) s t (get_or g.closed s []) (is.fits.1 s [] (omega (arith, state, closes))).ordered (is.closed s state)

  refuses : (s p : ℕ) → s < length g.cores → IsContested G (parts_in G g s) p → Refuses G (graph_of g) cs p
  refuses s p lt h =
      let (rest, e) = begins (reductions_in G (end_token G) (get_or g.closed s [])) p (ap first_of (sym (reductions_are G (end_token G) (get_or g.closed s []))) ∙ h.1) in
      record {
        state = s;
        is_state = lt;
        end = end_token G;
        is_end = refl;
        accepts = and_made (nat_eq (end_token G) (end_token G)) (accepts_in G (get_or g.closed s [])) (eq-eqb (end_token G) (end_token G) refl) h.0;
        rest = rest;
        least = e;
      }

  contested : (p : ℕ) (r : Refuses G (graph_of g) cs p) → IsContested G (parts_in G g r.state) p
  contested p r = (
    and_right (nat_eq r.end (end_token G)) (accepts_in G (get_or g.closed r.state [])) r.accepts,
    ap first_of (reductions_are G (end_token G) (get_or g.closed r.state []) ∙ (ap (λ t. reductions_in G t (get_or g.closed r.state [])) (sym r.is_end) ∙ r.least)),
  )

  -- a contested state's production is the one that is told
  pub told_of_contested : (s p : ℕ) → s < length g.cores → IsContested G (parts_in G g s) p → IsTold G p
  told_of_contested s p lt h = (told_law.told G (graph_of g) cs good is.graph are_candidates p).0 (refuses s p lt h)

  -- and where no state is contested, none is told
  pub not_refused : ((s p : ℕ) → s < length g.cores → IsContested G (parts_in G g s) p → ⊥) → NotRefused G (graph_of g) cs
  not_refused none p r = none r.state p r.is_state (contested p r)

  pub none_told : ((s p : ℕ) → s < length g.cores → IsContested G (parts_in G g s) p → ⊥) → NoneIsTold G
  none_told none p h = not_refused none p ((told_law.told G (graph_of g) cs good is.graph are_candidates p).1 h)

-- ---- the table

module _ (v : GrammarValue) (g : GraphValue) (t : TableValue) (good : WellFormed v.grammar) (is : IsGraphOf v.grammar g) (by : IsTableBy v.grammar (precedences_of v) (parts_in v.grammar g) (targets_in g) (length g.cores) t) (counts : CountsAgree v.grammar g t) (rows : HasFullRows t) where
  inside : (s u : ℕ) → s < length g.cores → u < v.grammar.tokens → action_at t s u ≡ cell_of (precedences_of v) u (candidates_of v.grammar (automaton_of g t) s u)
  inside s u ls lu = by.action s u ls lu ∙ ap (cell_of (precedences_of v) u) (candidates_are v.grammar g s u)

  -- outside of the rows
  past_states : (s u : ℕ) → length g.cores ≤ s → action_at t s u ≡ Action.error
  past_states s u le = let a = rows.actions in let c = counts.states in ap (λ (r : List Action). get_or r u Action.error) (get_or_past t.actions s [] (omega (arith, a, c, le)))

  past_tokens : (s u : ℕ) → v.grammar.tokens ≤ u → action_at t s u ≡ Action.error
  past_tokens s u le = elim (cases_lt s (length g.cores)) [
    | inl lt ↦ (let c = counts.states in let w = rows.cells s (omega (arith, c, lt)) in let e = counts.tokens in get_or_past (get_or t.actions s []) u Action.error (omega (arith, w, e, le)))
    | inr ge ↦ past_states s u ge
  ]

  no_goto : (s A : ℕ) → length g.cores ≤ s → goto_at t s A ≡ None
  no_goto s A le = let a = rows.gotos in let c = counts.states in ap (λ (r : List (Option ℕ)). get_or r A None) (get_or_past t.gotos s [] (omega (arith, a, c, le)))

  no_edge : (s A : ℕ) → length g.cores ≤ s → (graph_of g).edge s (rule A) ≡ None
  no_edge s A le = let lists = is.lists in ap (λ (es : List (Sym × ℕ)). target_in es (rule A)) (get_or_past g.edges s [] (omega (arith, lists, le)))

  gotos : (s A : ℕ) → goto_at t s A ≡ (graph_of g).edge s (rule A)
  gotos s A = elim (cases_lt s (length g.cores)) [
    | inl ls ↦ elim (cases_lt A v.grammar.rules) [
      | inl la ↦ by.goto s A ls la ∙ rule_target (get_or g.edges s []) A
      | inr ge ↦ (
          let c = counts.states in
          let w = rows.targets s (omega (arith, c, ls)) in
          let e = counts.rules in
          get_or_past (get_or t.gotos s []) A None (omega (arith, w, e, ge)) ∙ (sym (at_none (targets_in g s) A v.grammar.rules (target_row v.grammar g is good s).below ge) ∙ rule_target (get_or g.edges s []) A))
    ]
    | inr ge ↦ no_goto s A ge ∙ sym (no_edge s A ge)
  ]

  -- the lists of conflicts
  same_pairs : gathered (λ s. pairs_in s (parts_in v.grammar g s) v.grammar.tokens) (length g.cores) ≡ reduce_reduce_list (candidates_of v.grammar (automaton_of g t)) (length g.cores) v.grammar.tokens
  same_pairs = gathered_same _ _ (length g.cores) (λ s ls. gathered_same _ _ v.grammar.tokens (λ u lu. ap (λ (l : List ℕ). pairs_at s u l) (reductions_are v.grammar u (get_or g.closed s []))))

  same_shifts : gathered (λ s. shifts_in (precedences_of v) s (parts_in v.grammar g s) v.grammar.tokens) (length g.cores) ≡ shift_reduce_list (precedences_of v) (candidates_of v.grammar (automaton_of g t)) (length g.cores) v.grammar.tokens
  same_shifts = gathered_same _ _ (length g.cores) (λ s ls. gathered_same _ _ v.grammar.tokens
      (λ u lu. ap (λ (c : Candidates). shifts_at s u c.reductions c.edge ((precedences_of v).of_token u) (precedences_of v).of_production) (candidates_are v.grammar g s u)))

  pub listed : t.conflicts ≡ listed_conflicts v.grammar (precedences_of v) (automaton_of g t)
  listed = by.conflicts ∙ ap₂ some_conflicts same_pairs same_shifts

  pub table_of : ((s p : ℕ) → s < length g.cores → IsContested v.grammar (parts_in v.grammar g s) p → ⊥) → cell_count v.grammar (graph_of g) < 2 ^ 64 → IsTableOf v g t
  table_of none room = record {
    built = record {
      graph = is.graph;
      closed = record { count = is.closes; is = is.closed };
      cells = record {
        order = λ s lt. (let closes = is.closes in (is.fits.1 s [] (omega (arith, lt, closes))).ordered);
        inside = inside;
        past_states = λ s u out. past_states s u (omega (arith, out));
        past_tokens = λ s u out. past_tokens s u (omega (arith, out));
        gotos = gotos;
      };
      not_refused = not_refused v.grammar g is good none;
    };
    counts = counts;
    rows = rows;
    conflicts = listed;
    room = room;
  }
