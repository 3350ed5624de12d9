-- The edges of a state stay in order while others grow or come.
use Rattle.std.proofs.Common.{◌≡◌, ℕ, ◌<◌, inl, inr, true, List, [], ◌∷◌, ◌++◌, length, set, sym, ap, ◌∙◌, subst, get_or-set_same, get_or-set_other}
use Rattle.std.proofs.lemmas.Bool.{cases_eq}
use Rattle.std.proofs.lemmas.List.{get_or_append_left}
use Rattle.std.specs.Prelude.{Bool}
use Rattle.state_table.specs.ItemRows.{join_rows}
use Rattle.lrtable.specs.States.{Edge, StateValue, no_state, state_at, AscendEdges, grown_at}

pub ascends_kept : (states mid : List StateValue) (s : ℕ) → AscendEdges (state_at states s).edges → mid ≡ states → AscendEdges (state_at mid s).edges
ascends_kept states mid s h e = subst (λ (l : List StateValue). AscendEdges (state_at l s).edges) (sym e) h

-- a state that grows leaves the edges
pub edges_grown : (states : List StateValue) (k s : ℕ) (rows : List (List Bool)) → k < length states → (state_at (grown_at states k rows) s).edges ≡ (state_at states s).edges
edges_grown states k s rows lt = elim (cases_eq s k) [
  | inl q ↦ ap (λ n. (state_at (set states k v) n).edges) q ∙ ap (λ (x : StateValue). x.edges) (get_or-set_same states k v no_state lt) ∙ ap (λ n. (state_at states n).edges) (sym q)
  | inr ne ↦ ap (λ (x : StateValue). x.edges) (get_or-set_other states k s v no_state ne)
]
  where
    v : StateValue
    v = record { core = record { items = (state_at states k).core.items; rows = join_rows (state_at states k).core.rows rows }; edges = (state_at states k).edges; todo = true }

pub ascends_grown : (states mid : List StateValue) (k s : ℕ) (rows : List (List Bool)) → k < length states → AscendEdges (state_at states s).edges → mid ≡ grown_at states k rows → AscendEdges (state_at mid s).edges
ascends_grown states mid k s rows lt h e = subst (λ (l : List StateValue). AscendEdges (state_at l s).edges) (sym e) (subst (λ (es : List Edge). AscendEdges es) (sym (edges_grown states k s rows lt)) h)

pub ascends_pushed : (states mid : List StateValue) (s : ℕ) (v : StateValue) → s < length states → AscendEdges (state_at states s).edges → mid ≡ states ++ v ∷ [] → AscendEdges (state_at mid s).edges
ascends_pushed states mid s v lt h e = subst (λ (l : List StateValue). AscendEdges (state_at l s).edges) (sym e) (subst (λ (x : StateValue). AscendEdges x.edges) (sym (get_or_append_left states (v ∷ []) no_state s lt)) h)
