-- What fits at a state, put together from its parts.
use Rattle.std.proofs.Common.{◌≡◌, ℕ, zero, suc, ◌<◌, ◌≤◌, ◌⊎◌, inl, inr, ⊎_elim, Bool, true, false, List, [], ◌∷◌, length, get_or, Option, Some, None, refl, sym, ap, ◌∙◌, subst, arith}
use Rattle.std.specs.Prelude.{slice_get}
use Rattle.std.proofs.lemmas.Bool.{cases_lt}
use Rattle.cfg_theory.specs.Grammar.{Sym, rule, token, Grammar, WellFormed, body_of}
use Rattle.lr_theory.specs.Automaton.{Action, shift, reduce, accept, error, Automaton, ClosedItem, closed_of, Safe}
use Rattle.lr_theory.specs.Itemset.{ItemSet, HasItem, entry_at}
use Rattle.state_table.specs.Graphs.{GraphValue, IsGraphValue, graph_of, target_in}
use Rattle.state_table.specs.TableValues.{TableValue, action_at, goto_at}
use Rattle.state_table.specs.Tables.{CountsAgree, HasFullRows, automaton_of}
use Rattle.lrpar.specs.Ranges.{IsTable}
use Rattle.lrpar.specs.Reducing.{IsTableFor}
use Rattle.lrpar.specs.Safety.{ItemFits, ItemsFit, ActionFits, TokenFits, RuleFits, PairCell, counts, items, on_token, on_rule, CellFits, CellBefore, IsLeastMisfit}
use Rattle.lrpar.specs.Fitting.{JustifiesAction, NoneBad, BadToken, BadRule, HasGotos, AreFlags, closed_at}
use Rattle.lrpar.proofs.CarriedItems.{target_within}
use Rattle.lrpar.proofs.Edging.{found_edge}

past_or : {X : Type 0} (xs : List X) (i : ℕ) (d : X) → length xs ≤ i → get_or xs i d ≡ d
past_or [] i d le = refl
past_or (x ∷ xs) zero d le = absurd (omega (arith, le))
past_or (x ∷ xs) (suc i) d le = past_or xs i d (omega (arith, le))

none_some : (q : ℕ) → None ≡ Some q → ⊥
none_some q e = cc

module _ (v : TableValue) (rows : HasFullRows v) where
  action_row : (s t : ℕ) → s < v.states → v.tokens ≤ t → action_at v s t ≡ error
  action_row s t lt le = let n = rows.cells s lt in past_or (get_or v.actions s []) t error (omega (arith, n, le))

  goto_row : (s A : ℕ) → s < v.states → v.rules ≤ A → goto_at v s A ≡ None
  goto_row s A lt le = let n = rows.targets s lt in past_or (get_or v.gotos s []) A None (omega (arith, n, le))

  no_actions : (s t : ℕ) → v.states ≤ s → action_at v s t ≡ error
  no_actions s t le = let n = rows.actions in ap (λ (l : List Action). get_or l t error) (past_or v.actions s [] (omega (arith, n, le)))

  no_gotos : (s A : ℕ) → v.states ≤ s → goto_at v s A ≡ None
  no_gotos s A le = let n = rows.gotos in ap (λ (l : List (Option ℕ)). get_or l A None) (past_or v.gotos s [] (omega (arith, n, le)))

  pub no_action : (s t : ℕ) → (v.states ≤ s) ⊎ (v.tokens ≤ t) → action_at v s t ≡ error
  no_action s t (inl le) = no_actions s t le
  no_action s t (inr le) = ⊎_elim (λ lt. action_row s t lt le) (λ past. no_actions s t past) (cases_lt s v.states)

  pub no_goto : (s A : ℕ) → (v.states ≤ s) ⊎ (v.rules ≤ A) → goto_at v s A ≡ None
  no_goto s A (inl le) = no_gotos s A le
  no_goto s A (inr le) = ⊎_elim (λ lt. goto_row s A lt le) (λ past. no_gotos s A past) (cases_lt s v.states)

module _ (G : Grammar) (a : Automaton) (s t : ℕ) where
  is_for : (k : Action) → ActionFits G a s t k → JustifiesAction G (closed_of a s) (a.graph.edge s (token t)) t k
  is_for (shift q) h = h
  is_for (reduce p) h = h
  is_for accept h = h
  is_for error h = h

  of_for : (k : Action) → JustifiesAction G (closed_of a s) (a.graph.edge s (token t)) t k → ActionFits G a s t k
  of_for (shift q) h = h
  of_for (reduce p) h = h
  of_for accept h = h
  of_for error h = h

module _ (G : Grammar) (g : GraphValue) (v : TableValue) (rows : HasFullRows v) (s : ℕ) where
  pub token_fits : (t : ℕ) → (t < v.tokens → JustifiesAction G (closed_at g s) (target_in (get_or g.edges s []) (token t)) t (action_at v s t)) × NoneBad (get_or g.edges s []) token (BadToken g.start) t → TokenFits G (automaton_of g v) s t
  token_fits t h = record {
    action = ⊎_elim
        (λ within. of_for G (automaton_of g v) s t (action_at v s t) (h.0 within))
        (λ past. subst (ActionFits G (automaton_of g v) s t) (sym (no_action v rows s t (inr past))) tt)
        (cases_lt t v.tokens);
    apart = λ e. h.1 g.start e refl;
  }

  pub token_parts : (t : ℕ) → TokenFits G (automaton_of g v) s t → (t < v.tokens → JustifiesAction G (closed_at g s) (target_in (get_or g.edges s []) (token t)) t (action_at v s t)) × NoneBad (get_or g.edges s []) token (BadToken g.start) t
  token_parts t h = (λ within. is_for G (automaton_of g v) s t (action_at v s t) h.action, λ q e bad. h.apart (e ∙ ap Some bad))

  edge_past : (A : ℕ) (o : Option ℕ) → target_in (get_or g.edges s []) (rule A) ≡ o → NoneBad (get_or g.edges s []) rule (BadRule g.start v.rules) A → v.rules ≤ A → target_in (get_or g.edges s []) (rule A) ≡ None
  edge_past A None e none le = e
  edge_past A (Some q) e none le = absurd (none q e (inr le))

  pub rule_fits : (A : ℕ) → ((A < v.rules → goto_at v s A ≡ target_in (get_or g.edges s []) (rule A)) × NoneBad (get_or g.edges s []) rule (BadRule g.start v.rules) A) × HasGotos G (closed_at g s) v s A → RuleFits G (automaton_of g v) s A
  rule_fits A h = record {
    goto = ⊎_elim
        (λ within. h.0.0 within)
        (λ past. no_goto v rows s A (inr past) ∙ sym (edge_past A (target_in (get_or g.edges s []) (rule A)) refl h.0.1 past))
        (cases_lt A v.rules);
    apart = λ e. h.0.1 g.start e (inl refl);
    has_goto = λ p item other head. h.1 p 0 item refl other head;
  }

  bad_rule : (A q : ℕ) → RuleFits G (automaton_of g v) s A → target_in (get_or g.edges s []) (rule A) ≡ Some q → BadRule g.start v.rules A q → ⊥
  bad_rule A q h e (inl same) = h.apart (e ∙ ap Some same)
  bad_rule A q h e (inr past) = none_some q (sym (no_goto v rows s A (inr past)) ∙ h.goto ∙ e)

  pub rule_parts : (A : ℕ) → RuleFits G (automaton_of g v) s A → ((A < v.rules → goto_at v s A ≡ target_in (get_or g.edges s []) (rule A)) × NoneBad (get_or g.edges s []) rule (BadRule g.start v.rules) A) × HasGotos G (closed_at g s) v s A
  rule_parts A h = (
    (λ within. h.goto, λ q e bad. bad_rule A q h e bad),
    λ p d item start other head. h.has_goto p (subst (HasItem (closed_at g s) p) start item) other head,
  )

module _ (G : Grammar) (g : GraphValue) (v : TableValue) (top : ℕ) (graph : IsGraphValue top g) where
  -- an edge leads from a state to a state
  pub edge_within : (s q : ℕ) (X : Sym) → (graph_of g).edge s X ≡ Some q → q < length g.cores
  edge_within s q X e =
      let f = found_edge (get_or g.edges s []) X q e in
      target_within (length g.cores) (get_or g.edges s []) f.0 (X, q) (graph.targets s) f.1

  no_edge : (s : ℕ) (X : Sym) → length g.cores ≤ s → (graph_of g).edge s X ≡ None
  no_edge s X le = let n = graph.edges in ap (λ (l : List (Sym × ℕ)). target_in l X) (past_or g.edges s [] (omega (arith, n, le)))

  pub edge_from : (s q : ℕ) (X : Sym) → (graph_of g).edge s X ≡ Some q → s < length g.cores
  edge_from s q X e = ⊎_elim (λ lt. lt) (λ le. absurd (none_some q (sym (no_edge s X le) ∙ e))) (cases_lt s (length g.cores))

  no_items : (s p d : ℕ) → length g.cores ≤ s → ClosedItem (automaton_of g v) s p d → ⊥
  unfolding entry_at
  no_items s p d le h =
      let n = graph.closed in
      let none : closed_at g s ≡ [] = past_or g.closed s [] (omega (arith, n, le)) in
      let at = h.at in
      cc (ap (λ (l : ItemSet). entry_at l p d) (sym none) ∙ at)

  -- an item is one of a state
  pub item_from : (s p d : ℕ) → ClosedItem (automaton_of g v) s p d → s < length g.cores
  item_from s p d h = ⊎_elim (λ lt. lt) (λ le. absurd (no_items s p d le h)) (cases_lt s (length g.cores))

  -- where there is no state all fits
  pub past_fits : HasFullRows v → CountsAgree G g v → (s : ℕ) → length g.cores ≤ s → ItemsFit G (automaton_of g v) s × ((t : ℕ) → TokenFits G (automaton_of g v) s t) × ((A : ℕ) → RuleFits G (automaton_of g v) s A)
  past_fits rows agree s le =
      let past : v.states ≤ s = omega (arith, agree.states, le) in (
        record {
          each = λ p d h. absurd (no_items s p d le h);
          carried = λ r X p d e h. absurd (no_items s p (suc d) le h);
        },
        λ t. record {
          action = subst (ActionFits G (automaton_of g v) s t) (sym (no_action v rows s t (inl past))) tt;
          apart = λ e. none_some g.start (sym (no_edge s (token t) le) ∙ e);
        },
        λ A. record {
          goto = no_goto v rows s A (inl past) ∙ sym (no_edge s (rule A) le);
          apart = λ e. none_some g.start (sym (no_edge s (rule A) le) ∙ e);
          has_goto = λ p h other head. absurd (no_items s p 0 le h);
        },
      )

  -- what a table of a safe pair names is in range
  pub table_of : HasFullRows v → CountsAgree G g v → Safe G (automaton_of g v) → IsTable v
  table_of rows agree safe = record {
    start = let e = agree.start in let n = agree.states in let lt = graph.start in omega (arith, e, n, lt);
    shifts = λ s t q e. let lt = edge_within s q (token t) (safe.shifts s t q e).0 in let n = agree.states in omega (arith, n, lt);
    reduces = λ s t p e. let lt = (safe.in_range s p (length (body_of G p)) (safe.reduces s t p e).0).0 in let n = agree.productions in omega (arith, n, lt);
    targets = λ s A q e. let lt = edge_within s q (rule A) (sym (safe.gotos s A) ∙ e) in let n = agree.states in omega (arith, n, lt);
    no_action = no_action v rows;
    no_goto = no_goto v rows;
  }

  pub table_for_of : HasFullRows v → CountsAgree G g v → WellFormed G → Safe G (automaton_of g v) → IsTableFor G v
  table_for_of rows agree well safe = record {
    well_formed = well;
    is_table = table_of rows agree safe;
    tokens = agree.tokens;
    rules = agree.rules;
    productions = agree.productions;
  }

  -- the items of a state that isn't flagged, and of one that is
  pub items_fit_of : (s : ℕ) (flags : List Bool) → AreFlags G g (length g.cores) flags → slice_get flags s ≡ Some false → ((p d : ℕ) → HasItem (closed_at g s) p d → ItemFits G (automaton_of g v) s p d) → ItemsFit G (automaton_of g v) s
  items_fit_of s flags are e each = record {
    each = each;
    carried = λ r X p d edge h. are.clear r X s (edge_from r s X edge) edge e p d h;
  }

  pub flagged_fails : (s : ℕ) (flags : List Bool) → AreFlags G g (length g.cores) flags → slice_get flags s ≡ Some true → ItemsFit G (automaton_of g v) s → ⊥
  flagged_fails s flags are e fit =
      let u = are.told s e in
      u.fails (λ p d h. fit.carried u.from u.on p d u.edge h)

-- the parts before one
module _ (agree : Type 0) (yes : agree) (G : Grammar) (a : Automaton) (s : ℕ) where
  pub before_items : (k : PairCell) → CellBefore k items → CellFits agree G a s k
  before_items counts h = λ _. yes
  before_items items h = absurd h
  before_items (on_token t) h = absurd h
  before_items (on_rule A) h = absurd h

  pub before_token : (u : ℕ) → ItemsFit G a s → ((t : ℕ) → t < u → TokenFits G a s t) → (k : PairCell) → CellBefore k (on_token u) → CellFits agree G a s k
  before_token u fit below counts h = λ _. yes
  before_token u fit below items h = fit
  before_token u fit below (on_token t) h = below t h
  before_token u fit below (on_rule A) h = absurd h

  pub before_rule : (B : ℕ) → ItemsFit G a s → ((t : ℕ) → TokenFits G a s t) → ((A : ℕ) → A < B → RuleFits G a s A) → (k : PairCell) → CellBefore k (on_rule B) → CellFits agree G a s k
  before_rule B fit tokens below counts h = λ _. yes
  before_rule B fit tokens below items h = fit
  before_rule B fit tokens below (on_token t) h = tokens t
  before_rule B fit tokens below (on_rule A) h = below A h

  pub all_cells : ItemsFit G a s × ((t : ℕ) → TokenFits G a s t) × ((A : ℕ) → RuleFits G a s A) → (k : PairCell) → CellFits agree G a s k
  all_cells h counts = λ _. yes
  all_cells h items = h.0
  all_cells h (on_token t) = h.1 t
  all_cells h (on_rule A) = h.2 A

no_cell : (k : PairCell) → CellBefore k counts → ⊥
no_cell counts h = h
no_cell items h = h
no_cell (on_token t) h = h
no_cell (on_rule A) h = h

-- counts come first
pub counts_misfit : (agree : Type 0) (G : Grammar) (a : Automaton) (s : ℕ) → s ≡ 0 → (agree → ⊥) → IsLeastMisfit agree G a s counts
counts_misfit agree G a s e fails = record {
  misfit = λ h. fails (h e);
  states_before = λ r k lt. absurd (omega (arith, lt, e));
  cells_before = λ k h. absurd (no_cell k h);
}
