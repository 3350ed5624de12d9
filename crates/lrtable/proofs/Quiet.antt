-- States below which none is to be taken.
use Rattle.std.proofs.Common.{◌≡◌, ℕ, ◌<◌, ◌≤◌, inl, inr, Bool, true, false, List, [], ◌∷◌, ◌++◌, length, set, sym, ap, ◌∙◌, subst, arith, length-set, length-append, get_or-set_same, get_or-set_other}
use Rattle.std.proofs.lemmas.Bool.{cases_Bool, cases_eq}
use Rattle.std.proofs.lemmas.List.{get_or_append_left}
use Rattle.cfg_theory.specs.Grammar.{Sym}
use Rattle.state_table.specs.ItemRows.{join_rows}
use Rattle.lrtable.specs.States.{StateValue, no_state, state_at, IsLinked, AreQuiet, grown_at}
use Rattle.lrtable.specs.Stepping.{set_off}

-- an edge
pub quiet_linked : (states new : List StateValue) (s : ℕ) (X : Sym) (k n : ℕ) → s < length states → IsLinked states s X k new → AreQuiet states n → AreQuiet new n
quiet_linked states new s X k n lt l h = λ r below. ap (λ (u : List StateValue). (state_at u r).todo) l.value ∙ elim (cases_eq r s) [
  | inl e ↦ ap (λ m. (state_at (set states s v) m).todo) e ∙ ap (λ (x : StateValue). x.todo) (get_or-set_same states s v no_state lt) ∙ ap (λ m. (state_at states m).todo) (sym e) ∙ h r below
  | inr ne ↦ ap (λ (x : StateValue). x.todo) (get_or-set_other states s r v no_state ne) ∙ h r below
]
  where
    v : StateValue
    v = record { core = (state_at states s).core; edges = l.edges; todo = (state_at states s).todo }

-- a state that grows, at or above the new bound
quiet_grown : (states : List StateValue) (k : ℕ) (rows : List (List Bool)) (n m : ℕ) → m ≤ n → m ≤ k → AreQuiet states n → AreQuiet (grown_at states k rows) m
quiet_grown states k rows n m less low h = λ r below. ap (λ (x : StateValue). x.todo) (get_or-set_other states k r v no_state (λ e. omega (arith, e, below, low))) ∙ h r (omega (arith, below, less))
  where
    v : StateValue
    v = record { core = record { items = (state_at states k).core.items; rows = join_rows (state_at states k).core.rows rows }; edges = (state_at states k).edges; todo = true }

-- a set that joins a state, which grows or doesn't
pub quiet_joined : (states mid new : List StateValue) (s : ℕ) (X : Sym) (k : ℕ) (rows : List (List Bool)) (grew : Bool) (n m : ℕ) → s < length states → (grew ≡ false → mid ≡ states) → (grew ≡ true → mid ≡ grown_at states k rows) → m ≤ n → (grew ≡ true → m ≤ k) →
    IsLinked mid s X k new → AreQuiet states n → AreQuiet new m
quiet_joined states mid new s X k rows grew n m lt kept grown less low linked h = elim (cases_Bool grew) [
  | inl g ↦ (let e = grown g in quiet_linked mid new s X k m (let z = ap length e in let y = length-set states k v in omega (arith, z, y, lt)) linked (subst (λ (l : List StateValue). AreQuiet l m) (sym e) (quiet_grown states k rows n m less (low g) h)))
  | inr g ↦ (let e = kept g in quiet_linked mid new s X k m (let z = ap length e in omega (arith, z, lt)) linked (subst (λ (l : List StateValue). AreQuiet l m) (sym e) (λ r below. h r (omega (arith, below, less)))))
]
  where
    v : StateValue
    v = record { core = record { items = (state_at states k).core.items; rows = join_rows (state_at states k).core.rows rows }; edges = (state_at states k).edges; todo = true }

-- a state more, above the bound
pub quiet_added : (states mid new : List StateValue) (s : ℕ) (X : Sym) (k : ℕ) (v : StateValue) (n : ℕ) → s < length states → mid ≡ states ++ v ∷ [] → n ≤ length states → IsLinked mid s X k new → AreQuiet states n → AreQuiet new n
quiet_added states mid new s X k v n lt e le linked h = quiet_linked mid new s X k n in_mid linked (subst (λ (l : List StateValue). AreQuiet l n) (sym e) (λ r below. ap (λ (x : StateValue). x.todo) (get_or_append_left states (v ∷ []) no_state r (omega (arith, below, le))) ∙ h r below))
  where
    in_mid : s < length mid
    in_mid = let z = ap length e in let y = length-append states (v ∷ []) in omega (arith, z, y, lt)

-- the state that is taken
pub quiet_off : (states : List StateValue) (s n : ℕ) → AreQuiet states n → n ≤ s → AreQuiet (set_off states s) n
quiet_off states s n h le = λ r below. ap (λ (x : StateValue). x.todo) (get_or-set_other states s r (record { core = (state_at states s).core; edges = (state_at states s).edges; todo = false }) no_state (λ e. omega (arith, e, below, le))) ∙ h r below
