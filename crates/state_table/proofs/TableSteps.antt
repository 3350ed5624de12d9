-- One state more in a table, and the table of all.
use Rattle.std.proofs.Common.{◌≡◌, ℕ, ◌+◌, ◌<◌, List, [], ◌∷◌, ◌++◌, length, get_or, map, Option, refl, sym, ap, ◌∙◌, subst, arith}
use Rattle.std.specs.List.{range_with_len}
use Rattle.std.proofs.lemmas.List.{get_or-map, length-map}
use Rattle.std.proofs.lemmas.List.FromFn.{map-range_with_len_more, get_or-map-range_with_len, length-map-range_with_len}
use Rattle.cfg_theory.specs.Grammar.{Grammar}
use Rattle.lr_theory.specs.Automaton.{Action}
use Rattle.table_theory.specs.Cells.{Precedences, gathered, some_conflicts}
use Rattle.state_table.specs.Rows.{at_of}
use Rattle.state_table.specs.CellRows.{PartsValue, cells_by, filled_row, pairs_in, shifts_in}
use Rattle.state_table.specs.SparseRows.{or_error, full_cells, full_targets, SparseTable, IsCellRow, IsTargetRow, full}
use Rattle.state_table.specs.TableRows.{RowsValue, AreRowsOf, IsTableBy}
use Rattle.state_table.specs.Tables.{HasFullRows}
use Rattle.state_table.proofs.FilledRows.{is_cell_row, at_filled}
use Rattle.state_table.proofs.FullRows.{cell_read, goto_read}
use Rattle.state_table.proofs.Gathered.{gathered_put}

module _ (G : Grammar) (precedences : Precedences) (parts : ℕ → PartsValue) (targets : ℕ → List (ℕ × ℕ)) where
  pub state_added : (s : ℕ) (old new : RowsValue) (P : PartsValue) (T : List (ℕ × ℕ)) (row : List (ℕ × Action)) → parts s ≡ P → targets s ≡ T → row ≡ filled_row (cells_by G precedences P) G.tokens →
      new.actions ≡ old.actions ++ row ∷ [] → new.gotos ≡ old.gotos ++ T ∷ [] → new.pairs ≡ old.pairs ++ pairs_in s P G.tokens → new.shifts ≡ old.shifts ++ shifts_in precedences s P G.tokens →
      AreRowsOf G precedences parts targets s old → AreRowsOf G precedences parts targets (s + 1) new
  state_added s old new P T row eP eT er ea eg ep es was =
      let f : ℕ → List (ℕ × Action) = λ k. filled_row (cells_by G precedences (parts k)) G.tokens in
      record {
        actions = ea ∙ (ap (λ (l : List (List (ℕ × Action))). l ++ row ∷ []) was.actions ∙ (ap (λ (r : List (ℕ × Action)). map f (range_with_len 0 s) ++ r ∷ []) (er ∙ ap (λ (x : PartsValue). filled_row (cells_by G precedences x) G.tokens) (sym eP)) ∙ sym (map-range_with_len_more f 0 s s (omega arith))));
        gotos = eg ∙ (ap (λ (l : List (List (ℕ × ℕ))). l ++ T ∷ []) was.gotos ∙ (ap (λ (r : List (ℕ × ℕ)). map targets (range_with_len 0 s) ++ r ∷ []) (sym eT) ∙ sym (map-range_with_len_more targets 0 s s (omega arith))));
        pairs = gathered_put (λ (k : ℕ). pairs_in k (parts k) G.tokens) s s [] old.pairs new.pairs was.pairs refl (ep ∙ ap (λ (x : PartsValue). old.pairs ++ pairs_in s x G.tokens) (sym eP));
        shifts = gathered_put (λ (k : ℕ). shifts_in precedences k (parts k) G.tokens) s s [] old.shifts new.shifts was.shifts refl (es ∙ ap (λ (x : PartsValue). old.shifts ++ shifts_in precedences s x G.tokens) (sym eP));
      }

  pub rows_begun : (r : RowsValue) → r.actions ≡ [] → r.gotos ≡ [] → r.pairs ≡ [] → r.shifts ≡ [] → AreRowsOf G precedences parts targets 0 r
  rows_begun r ea eg ep es = record { actions = ea; gotos = eg; pairs = ep; shifts = es }

  module _ (n : ℕ) (r : RowsValue) (are : AreRowsOf G precedences parts targets n r) where
    actions_at : (s : ℕ) → s < n → get_or r.actions s [] ≡ filled_row (cells_by G precedences (parts s)) G.tokens
    actions_at s lt = ap (λ (l : List (List (ℕ × Action))). get_or l s []) are.actions ∙ get_or-map-range_with_len (λ (k : ℕ). filled_row (cells_by G precedences (parts k)) G.tokens) 0 n s s [] lt (omega arith)

    gotos_at : (s : ℕ) → s < n → get_or r.gotos s [] ≡ targets s
    gotos_at s lt = ap (λ (l : List (List (ℕ × ℕ))). get_or l s []) are.gotos ∙ get_or-map-range_with_len targets 0 n s s [] lt (omega arith)

    pub actions_length : length r.actions ≡ n
    actions_length = ap (λ (l : List (List (ℕ × Action))). length l) are.actions ∙ length-map-range_with_len (λ (k : ℕ). filled_row (cells_by G precedences (parts k)) G.tokens) 0 n

    pub gotos_length : length r.gotos ≡ n
    gotos_length = ap (λ (l : List (List (ℕ × ℕ))). length l) are.gotos ∙ length-map-range_with_len targets 0 n

    pub rows_are_cells : (s : ℕ) → s < n → IsCellRow G.tokens (get_or r.actions s [])
    rows_are_cells s lt = subst (IsCellRow G.tokens) (sym (actions_at s lt)) (is_cell_row (cells_by G precedences (parts s)) G.tokens)

    pub rows_are_targets : ((s : ℕ) → s < n → IsTargetRow G.rules (targets s)) → (s : ℕ) → s < n → IsTargetRow G.rules (get_or r.gotos s [])
    rows_are_targets fit s lt = subst (IsTargetRow G.rules) (sym (gotos_at s lt)) (fit s lt)

    pub table_by : (T : SparseTable) → T.actions ≡ r.actions → T.gotos ≡ r.gotos → T.tokens ≡ G.tokens → T.rules ≡ G.rules → T.conflicts ≡ some_conflicts r.pairs r.shifts → IsTableBy G precedences parts targets n (full T)
    table_by T ea eg et er ec = record {
      action = λ s t ls lt.
          let m = ap (λ (l : List (List (ℕ × Action))). length l) ea ∙ actions_length in
          cell_read T s t (omega (arith, m, ls)) (omega (arith, et, lt))
          ∙ (ap (λ (l : List (List (ℕ × Action))). or_error (at_of (get_or l s []) t)) ea ∙ (ap (λ (l : List (ℕ × Action)). or_error (at_of l t)) (actions_at s ls) ∙ at_filled (cells_by G precedences (parts s)) G.tokens t lt));
      goto = λ s A ls lt.
          let m = ap (λ (l : List (List (ℕ × ℕ))). length l) eg ∙ gotos_length in
          goto_read T s A (omega (arith, m, ls)) (omega (arith, er, lt))
          ∙ (ap (λ (l : List (List (ℕ × ℕ))). at_of (get_or l s []) A) eg ∙ ap (λ (l : List (ℕ × ℕ)). at_of l A) (gotos_at s ls));
      conflicts = ec ∙ (ap (λ p. some_conflicts p r.shifts) are.pairs ∙ ap (λ p. some_conflicts (gathered (λ (k : ℕ). pairs_in k (parts k) G.tokens) n) p) are.shifts);
    }

-- the rows of a table that keeps the filled cells alone are full
pub full_rows : (T : SparseTable) → length T.actions ≡ T.states → length T.gotos ≡ T.states → HasFullRows (full T)
full_rows T ea eg = record {
  actions = length-map T.actions (full_cells T.tokens) ∙ ea;
  gotos = length-map T.gotos (full_targets T.rules) ∙ eg;
  cells = λ s lt. ap (λ (r : List Action). length r) (get_or-map (full_cells T.tokens) T.actions s [] [] (omega (arith, ea, lt))) ∙ length-map-range_with_len (λ (u : ℕ). or_error (at_of (get_or T.actions s []) u)) 0 T.tokens;
  targets = λ s lt. ap (λ (r : List (Option ℕ)). length r) (get_or-map (full_targets T.rules) T.gotos s [] [] (omega (arith, eg, lt))) ∙ length-map-range_with_len (λ (B : ℕ). at_of (get_or T.gotos s []) B) 0 T.rules;
}
