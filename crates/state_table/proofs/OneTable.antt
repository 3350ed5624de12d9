-- A grammar has one graph, and a graph one table, as lists.
use Rattle.std.proofs.Common.{◌≡◌, ℕ, ◌<◌, List, [], length, get_or, Option, None, sym, ap, ◌∙◌, arith}
use Rattle.std.proofs.lemmas.List.{ext_get_or}
use Rattle.cfg_theory.specs.Grammar.{Sym, Grammar, WellFormed}
use Rattle.cfg_numbered.specs.Value.{GrammarValue}
use Rattle.lr_theory.specs.Automaton.{Action}
use Rattle.lr_theory.specs.Itemset.{ItemSet}
use Rattle.lr_theory.specs.Graph.{SameGraph}
use Rattle.lr_theory.proofs.GraphLists.{graph_lists_are_one}
use Rattle.lr_theory.proofs.UniqueGraph.{graph_same}
use Rattle.table_theory.specs.Cells.{Conflicts}
use Rattle.table_theory.proofs.TableUnique.{unique_law}
use Rattle.state_table.specs.CellViews.{precedences_of}
use Rattle.state_table.specs.Graphs.{GraphValue, IsGraphOf, graph_of}
use Rattle.state_table.specs.TableValues.{TableValue, action_at, goto_at}
use Rattle.state_table.specs.Tables.{IsTableOf, automaton_of}
use Rattle.state_table.proofs.EdgeLists.{same_edges}

module _ (G : Grammar) (g h : GraphValue) (good : WellFormed G) (x : IsGraphOf G g) (y : IsGraphOf G h) where
  same : SameGraph (graph_of g) (graph_of h)
  same = graph_same G good (graph_of g) (graph_of h) x.graph y.graph

  same_count : length g.cores ≡ length h.cores
  same_count = same.count

  same_cores : g.cores ≡ h.cores
  same_cores = graph_lists_are_one.cores G (graph_of g) (graph_of h) good x.graph y.graph (λ s lt. x.fits.0 s [] lt) (λ s lt. y.fits.0 s [] lt)

  same_closed : g.closed ≡ h.closed
  same_closed = ext_get_or [] g.closed h.closed (x.closes ∙ (same_count ∙ sym y.closes)) (λ s lt.
      let a = x.closes in
      let b = y.closes in
      let n = same_count in
      let here : s < length g.cores = omega (arith, lt, a) in
      graph_lists_are_one.closed G (graph_of g) (graph_of h) good x.graph y.graph s (get_or g.closed s []) (get_or h.closed s []) here
      (x.closed s here) (y.closed s (omega (arith, here, n))) (x.fits.1 s [] lt) (y.fits.1 s [] (omega (arith, here, n, b))))

  same_lists_of_edges : g.edges ≡ h.edges
  same_lists_of_edges = ext_get_or [] g.edges h.edges (x.lists ∙ (same_count ∙ sym y.lists)) (λ s lt.
      let a = x.lists in
      same_edges (get_or g.edges s []) (get_or h.edges s []) (x.ascend s) (y.ascend s) (λ X. same.edges s X (omega (arith, lt, a))))

  pub same_graphs : g ≡ h
  same_graphs =
      let made : List ItemSet → List ItemSet → ℕ → List (List (Sym × ℕ)) → GraphValue = λ cores closed start edges. record { cores = cores; closed = closed; start = start; edges = edges } in
      ap (λ c. made c g.closed g.start g.edges) same_cores ∙ (ap (λ c. made h.cores c g.start g.edges) same_closed ∙ (ap (λ s. made h.cores h.closed s g.edges) (x.start ∙ sym y.start) ∙ ap (λ e. made h.cores h.closed h.start e) same_lists_of_edges))

module _ (v : GrammarValue) (g : GraphValue) (t u : TableValue) (good : WellFormed v.grammar) (x : IsTableOf v g t) (y : IsTableOf v g u) where
  same_states : t.states ≡ u.states
  same_states = x.counts.states ∙ sym y.counts.states

  same_tokens : t.tokens ≡ u.tokens
  same_tokens = x.counts.tokens ∙ sym y.counts.tokens

  same_rules : t.rules ≡ u.rules
  same_rules = x.counts.rules ∙ sym y.counts.rules

  same_action : (s k : ℕ) → action_at t s k ≡ action_at u s k
  same_action s k = unique_law.action v.grammar (precedences_of v) (automaton_of g t) (automaton_of g u) good x.built y.built s k

  same_goto : (s A : ℕ) → goto_at t s A ≡ goto_at u s A
  same_goto s A = x.built.cells.gotos s A ∙ sym (y.built.cells.gotos s A)

  same_actions : t.actions ≡ u.actions
  same_actions = ext_get_or [] t.actions u.actions (x.rows.actions ∙ (same_states ∙ sym y.rows.actions)) (λ s lt.
      let a = x.rows.actions in
      let n = same_states in
      let here : s < t.states = omega (arith, lt, a) in
      ext_get_or Action.error (get_or t.actions s []) (get_or u.actions s []) (x.rows.cells s here ∙ (same_tokens ∙ sym (y.rows.cells s (omega (arith, here, n))))) (λ k w. same_action s k))

  same_gotos : t.gotos ≡ u.gotos
  same_gotos = ext_get_or [] t.gotos u.gotos (x.rows.gotos ∙ (same_states ∙ sym y.rows.gotos)) (λ s lt.
      let a = x.rows.gotos in
      let n = same_states in
      let here : s < t.states = omega (arith, lt, a) in
      ext_get_or None (get_or t.gotos s []) (get_or u.gotos s []) (x.rows.targets s here ∙ (same_rules ∙ sym (y.rows.targets s (omega (arith, here, n))))) (λ A w. same_goto s A))

  pub same_tables : t ≡ u
  same_tables =
      let made : ℕ → ℕ → ℕ → ℕ → ℕ → List (List Action) → List (List (Option ℕ)) → Option Conflicts → TableValue =
      λ states tokens rules productions start actions gotos conflicts. record { states = states; tokens = tokens; rules = rules; productions = productions; start = start; actions = actions; gotos = gotos; conflicts = conflicts } in
      ap (λ n. made n t.tokens t.rules t.productions t.start t.actions t.gotos t.conflicts) same_states
      ∙ (ap (λ n. made u.states n t.rules t.productions t.start t.actions t.gotos t.conflicts) same_tokens
      ∙ (ap (λ n. made u.states u.tokens n t.productions t.start t.actions t.gotos t.conflicts) same_rules
      ∙ (ap (λ n. made u.states u.tokens u.rules n t.start t.actions t.gotos t.conflicts) (x.counts.productions ∙ sym y.counts.productions)
      ∙ (ap (λ n. made u.states u.tokens u.rules u.productions n t.actions t.gotos t.conflicts) (x.counts.start ∙ sym y.counts.start)
      ∙ (ap (λ l. made u.states u.tokens u.rules u.productions u.start l t.gotos t.conflicts) same_actions
      ∙ (ap (λ l. made u.states u.tokens u.rules u.productions u.start u.actions l t.conflicts) same_gotos
      ∙ ap (λ c. made u.states u.tokens u.rules u.productions u.start u.actions u.gotos c) (x.conflicts ∙ sym y.conflicts)))))))
