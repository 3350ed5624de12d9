-- What a table keeps of a state, against its items and edges.
use Rattle.std.proofs.Common.{◌≡◌, ℕ, ◌+◌, ◌<◌, ◌≤◌, inl, inr, List, [], length, get_or, Option, Some, None, refl, sym, ap, ◌∙◌, subst, arith}
use Rattle.std.specs.Prelude.{slice_get}
use Rattle.std.proofs.lemmas.Bool.{cases_lt}
use Rattle.std.proofs.lemmas.Option.{slice_get-get_or, slice_get_within, some_pair_parts}
use Rattle.cfg_theory.specs.Grammar.{Sym, rule, token, Grammar}
use Rattle.lr_theory.specs.Automaton.{Action, error}
use Rattle.lr_theory.specs.Itemset.{ItemSet}
use Rattle.state_table.specs.Graphs.{AreInOrder, target_in, SymBefore}
use Rattle.state_table.specs.Rows.{at_of}
use Rattle.state_table.specs.SparseRows.{full_cells, full_targets, IsCellRow, IsTargetRow}
use Rattle.state_table.specs.TableValues.{TableValue, action_at, goto_at}
use Rattle.lrpar.specs.Fitting.{LeastNot, JustifiesAction, Passed, AreEdges}
use Rattle.lrpar.proofs.Edging.{found_edge, order_at, passed_none, passed_on, target_of}
use Rattle.lrpar.proofs.RowWalks.{RowTo, row_none, row_more, rises_at, found_at, at_there, cell_inside, cell_there, before_cell, all_cells, goto_of_row, goto_nowhere}

-- ---- actions

module _ (G : Grammar) (items : ItemSet) (es : List (Sym × ℕ)) (v : TableValue) (s : ℕ) where
  abbrev pub FitsOn : ℕ → Type 0
  FitsOn t = t < v.tokens → JustifiesAction G items (target_in es (token t)) t (action_at v s t)

  errors_fit : (t : ℕ) → action_at v s t ≡ error → FitsOn t
  errors_fit t e lt = subst (JustifiesAction G items (target_in es (token t)) t) (sym e) tt

-- the cells before the i-th fit, and the edges before the place are passed by the others
pub record ActionsTo (G : Grammar) (items : ItemSet) (es : List (Sym × ℕ)) (v : TableValue) (s : ℕ) (row : List (ℕ × Action)) (place i : ℕ) : Type 0 where
  pub passed : (k t : ℕ) (a : Action) → i ≤ k → slice_get row k ≡ Some (t, a) → Passed es place (token t)
  pub below : RowTo row (FitsOn G items es v s) i

module _ (G : Grammar) (items : ItemSet) (es : List (Sym × ℕ)) (v : TableValue) (s : ℕ) (row : List (ℕ × Action)) (whole : get_or v.actions s [] ≡ full_cells v.tokens row) (is : IsCellRow v.tokens row) where
  abbrev Fits : ℕ → Type 0
  Fits = FitsOn G items es v s

  abbrev To : ℕ → ℕ → Type 0
  To = ActionsTo G items es v s row

  pub actions_none : To 0 0
  actions_none = record { passed = λ k t a le at. passed_none es (token t); below = row_none row Fits }

  -- as it is read at the edge that was found
  at_edge : (t n : ℕ) (a : Action) (o : Option ℕ) → n ≡ t → o ≡ target_in es (token n) → JustifiesAction G items o n a → JustifiesAction G items (target_in es (token t)) t a
  at_edge t n a o e eo h = subst (λ m. JustifiesAction G items (target_in es (token m)) m a) e (subst (λ p. JustifiesAction G items p n a) eo h)

  from_edge : (t n : ℕ) (a : Action) (o : Option ℕ) → n ≡ t → o ≡ target_in es (token n) → JustifiesAction G items (target_in es (token t)) t a → JustifiesAction G items o n a
  from_edge t n a o e eo h = subst (λ p. JustifiesAction G items p n a) (sym eo) (subst (λ m. JustifiesAction G items (target_in es (token m)) m a) (sym e) h)

  pub actions_more : (place new i t n : ℕ) (a : Action) (o : Option ℕ) → To place i → slice_get row i ≡ Some (t, a) → n ≡ t → Passed es new (token n) → o ≡ target_in es (token n) → JustifiesAction G items o n a → To new (i + 1)
  actions_more place new i t n a o h at e passed eo fits = record {
    passed = λ k u b le atk.
        let lt = rises_at row i k (t, a) (u, b) is.rises at atk (omega (arith, le)) in
        passed_on es (token n) (token u) new (omega (arith, e, lt)) passed;
    below = row_more row Fits i t a h.below at (λ lt. subst (JustifiesAction G items (target_in es (token t)) t) (sym (cell_there v s row whole is i t a at)) (at_edge t n a o e eo fits));
  }

  pub actions_least : (place i t n : ℕ) (a : Action) (o : Option ℕ) → To place i → slice_get row i ≡ Some (t, a) → n ≡ t → o ≡ target_in es (token n) → (JustifiesAction G items o n a → ⊥) → LeastNot Fits (Some n)
  actions_least place i t n a o h at e eo fails = (
    λ fits. fails (from_edge t n a o e eo (subst (JustifiesAction G items (target_in es (token t)) t) (cell_there v s row whole is i t a at) (subst Fits e fits (cell_inside v s row whole is i t a at)))),
    λ m lt. before_cell v s row whole is Fits (errors_fit G items es v s) i t a h.below at m (omega (arith, lt, e)),
  )

  pub actions_all : (place i : ℕ) → To place i → length row ≤ i → LeastNot Fits None
  actions_all place i h le = all_cells v s row whole is Fits (errors_fit G items es v s) i h.below le

-- ---- gotos

module _ (es : List (Sym × ℕ)) (row : List (ℕ × ℕ)) where
  -- the gotos before the i-th are edges
  abbrev pub EdgesTo : ℕ → Type 0
  EdgesTo i = (k A q : ℕ) → k < i → slice_get row k ≡ Some (A, q) → slice_get es k ≡ Some (rule A, q)

  pub edges_more : (i A q : ℕ) → EdgesTo i → slice_get row i ≡ Some (A, q) → slice_get es i ≡ Some (rule A, q) → EdgesTo (i + 1)
  edges_more i A q h at edge k B r lt atk = elim (cases_lt k i) [
    | inl less ↦ h k B r less atk
    | inr ge ↦
        let e : k ≡ i = omega (arith, lt, ge) in
        let same = some_pair_parts A B q r (sym at ∙ ap (slice_get row) (sym e) ∙ atk) in
        ap (slice_get es) e ∙ edge ∙ ap (λ (C : ℕ). Some (rule C, q)) same.0 ∙ ap (λ (p : ℕ). Some (rule B, p)) same.1
  ]

  pub are_edges : (rules i : ℕ) → EdgesTo i → length row ≤ i → ((A q : ℕ) → slice_get es (length row) ≡ Some (rule A, q) → A < rules → ⊥) → AreEdges row es rules
  are_edges rules i h le ends = record { same = λ k A q at. (let w = slice_get_within row k (A, q) at in h k A q (omega (arith, w, le)) at); ends = ends }

before_rule : (X : Sym) (A : ℕ) → SymBefore X (rule A) → (B : ℕ) × (X ≡ rule B) × (B < A)
before_rule (rule B) A h = (B, refl, h)
before_rule (token t) A h = absurd h

module _ (es : List (Sym × ℕ)) (order : AreInOrder es) (v : TableValue) (s : ℕ) (row : List (ℕ × ℕ)) (whole : get_or v.gotos s [] ≡ full_targets v.rules row) (is : IsTargetRow v.rules row) (are : AreEdges row es v.rules) where
  -- an edge on a rule below the count is a goto
  edge_is_goto : (k A q : ℕ) → slice_get es k ≡ Some (rule A, q) → A < v.rules → at_of row A ≡ None → ⊥
  edge_is_goto k A q at lt none = elim (cases_lt k (length row)) [
    | inl inside ↦
        let e = get_or row k (0, 0) in
        let there : slice_get row k ≡ Some e = slice_get-get_or row k (0, 0) inside in
        let same = some_pair_parts (rule A) (rule e.0) q e.1 (sym at ∙ are.same k e.0 e.1 there) in
        let number : A ≡ e.0 = cc in
        cc (sym none ∙ ap (at_of row) number ∙ at_there row k e.0 e.1 is.rises there)
    | inr past ↦ elim (cases_lt (length row) k) [
      | inl more ↦
          let w = slice_get_within es k (rule A, q) at in
          let f = get_or es (length row) (rule A, q) in
          let there : slice_get es (length row) ≡ Some f = slice_get-get_or es (length row) (rule A, q) (omega (arith, more, w)) in
          let b = before_rule f.0 A (order_at es (length row) k f (rule A, q) order there at more) in
          are.ends b.0 f.1 (there ∙ ap (λ (X : Sym). Some (X, f.1)) b.1) (let l = b.2 in omega (arith, l, lt))
      | inr le ↦ let e : k ≡ length row = omega (arith, past, le) in are.ends A q (ap (slice_get es) (sym e) ∙ at) lt
    ]
  ]

  by_goto : (A : ℕ) (o p : Option ℕ) → A < v.rules → at_of row A ≡ o → target_in es (rule A) ≡ p → goto_at v s A ≡ target_in es (rule A)
  by_goto A None None lt e f = goto_nowhere v s row whole is A e ∙ sym f
  by_goto A None (Some q) lt e f = let k = found_edge es (rule A) q f in absurd (edge_is_goto k.0 A q k.1 lt e)
  by_goto A (Some q) p lt e f =
      let k = found_at row A q e in
      goto_of_row v s row whole is A lt ∙ e ∙ sym (target_of es k.0 (rule A) q order (are.same k.0 A q k.1))

  pub gotos_all : LeastNot (λ A. A < v.rules → goto_at v s A ≡ target_in es (rule A)) None
  gotos_all A lt = by_goto A (at_of row A) (target_in es (rule A)) lt refl refl
