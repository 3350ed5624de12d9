-- Rows of states in whose cells one thing alone may stand.
use Rattle.std.proofs.Common.{◌≡◌, ℕ, ◌+◌, ◌<◌, ◌≤◌, inl, inr, Bool, true, false, ◌&&◌, nat_eq, cond, List, [], ◌∷◌, ◌++◌, length, get_or, Option, Some, None, refl, sym, ap, ◌∙◌, arith}
use Rattle.std.proofs.lemmas.Bool.{cases_eq, cases_lt}
use Rattle.std.proofs.lemmas.List.{get_or_default}
use Rattle.cfg_theory.specs.Grammar.{Grammar, end_token}
use Rattle.vob.specs.Sets.{is_set}
use Rattle.lr_theory.specs.Automaton.{Action}
use Rattle.table_theory.specs.Cells.{Precedences, cell_by, pairs_at, shifts_at}
use Rattle.state_table.specs.CellRows.{AreApart, HasOnlyShifts, OfProduction, OfToken, PartsValue, ReductionValue, StandsAt, cells_by, filled, filled_row, lone_cells, pairs_in, pairs_on, reductions_on, shift_to, shifts_in, shifts_on}
use Rattle.state_table.specs.Cursors.{IsCursor}
use Rattle.state_table.specs.Rows.{Rises, at_of}
use Rattle.state_table.proofs.BlankCells.{cursor_skip, gathered_skip, grown_skip}
use Rattle.state_table.proofs.Cursors.{same_number}
use Rattle.state_table.proofs.Gathered.{gathered_put, gathered_same}
use Rattle.state_table.proofs.RowsAt.{at_nowhere}

-- ---- an index that goes on

-- no number lies between two at which it stands
none_between : (row : List (ℕ × ℕ)) (index n m t : ℕ) → IsCursor row index n → IsCursor row index m → n ≤ t → t < m → at_of row t ≡ None
none_between row index n m t a b le lt = at_nowhere row t (λ i d w e. elim (cases_lt i index) [
  | inl l ↦ (let x = a.before i d l w in omega (arith, x, e, le))
  | inr ge ↦ (let x = b.rest i d ge w in omega (arith, x, e, lt))
])

cursor_on : (row : List (ℕ × ℕ)) (index n m : ℕ) → n ≤ m → ((i : ℕ) (d : ℕ × ℕ) → index ≤ i → i < length row → m ≤ (get_or row i d).0) → IsCursor row index n → IsCursor row index m
cursor_on row index n m le h a = record { before = λ i d l w. (let x = a.before i d l w in omega (arith, x, le)); rest = h }

-- the numbers from an index on aren't less than the one that stands there
from_here : (row : List (ℕ × ℕ)) (i : ℕ) (y : ℕ × ℕ) → Rises row → i < length row → y ≡ get_or row i y → (j : ℕ) (d : ℕ × ℕ) → i ≤ j → j < length row → y.0 ≤ (get_or row j d).0
from_here row i y up lt at j d ge w = elim (cases_eq j i) [
  | inl e ↦ (let f = ap (λ k. (get_or row k d).0) e in let a = number_at in omega (arith, f, a))
  | inr o ↦ (let u = up i j d (omega (arith, ge, o)) w in let a = number_at in omega (arith, u, a))
] where
  number_at : (get_or row i d).0 ≡ y.0
  number_at = ap (λ (z : ℕ × ℕ). z.0) (get_or_default row i d y lt ∙ sym at)

module _ (cells : ℕ → Action) (shifts : List (ℕ × ℕ)) where
  stands_on : (index n m : ℕ) (row : List (ℕ × Action)) → n ≤ m → HasOnlyShifts cells shifts n m → IsCursor shifts index m → StandsAt cells shifts n index row → StandsAt cells shifts m index row
  stands_on index n m row le only at is = record {
    filled = grown_skip (λ (t : ℕ). filled t (cells t)) [] row n m le (λ t a b. ap (filled t) (only t a b ∙ ap shift_to (none_between shifts index n m t is.cursor at a b))) is.filled;
    cursor = at;
  }

  -- one cell more
  pub cell_put : (t : ℕ) (a : Action) (old new : List (ℕ × Action)) → cells t ≡ a → old ≡ filled_row cells t → new ≡ old ++ filled t a → new ≡ filled_row cells (t + 1)
  cell_put t a old new e was now = gathered_put (λ (u : ℕ). filled u (cells u)) t t [] old new was refl (now ∙ ap (λ (b : Action). old ++ filled t b) (sym e))

  -- the row has some of the shifts from n on
  abbrev pub HasSome : ℕ → ℕ → ℕ → List (ℕ × Action) → Type 0
  HasSome n end i row = (m : ℕ) × (n ≤ m) × (m ≤ end) × StandsAt cells shifts m i row

  module _ (up : Rises shifts) (n end i : ℕ) (only : HasOnlyShifts cells shifts n end) (row : List (ℕ × Action)) (has : HasSome n end i row) where
    pub past_all : length shifts ≤ i → StandsAt cells shifts end i row
    past_all past =
        let (m, le, most, is) = has in
        stands_on i m end row most (λ t a b. only t (omega (arith, a, le)) b) (cursor_on shifts i m end most (λ j d ge w. absurd (omega (arith, ge, w, past))) is.cursor) is

    module _ (y : ℕ × ℕ) (lt : i < length shifts) (at : y ≡ get_or shifts i y) where
      pub before_next : end ≤ y.0 → StandsAt cells shifts end i row
      before_next far =
          let (m, le, most, is) = has in
          stands_on i m end row most (λ t a b. only t (omega (arith, a, le)) b) (cursor_on shifts i m end most (λ j d ge w. (let x = from_here shifts i y up lt at j d ge w in omega (arith, x, far))) is.cursor) is

      pub shift_put : y.0 < end → (new : List (ℕ × Action)) → new ≡ row ++ (y.0, Action.shift y.1) ∷ [] → HasSome n end (i + 1) new
      shift_put near new now =
          let (m, le, most, is) = has in
          let low : m ≤ y.0 = (let x = is.cursor.rest i y (omega arith) lt in let e = ap (λ (z : ℕ × ℕ). z.0) at in omega (arith, x, e)) in
          let on : StandsAt cells shifts y.0 i row = stands_on i m y.0 row low (λ t a b. only t (omega (arith, a, le)) (omega (arith, b, near))) (cursor_on shifts i m y.0 low (from_here shifts i y up lt at) is.cursor) is in
          let s = same_number shifts i y.0 y up on.cursor lt at refl in
          (y.0 + 1, omega (arith, le, low), omega (arith, near), record { filled = cell_put y.0 (Action.shift y.1) row new (only y.0 (omega (arith, le, low)) near ∙ ap shift_to s.0) on.filled now; cursor = s.1 })

-- ---- one reduction beside shifts

module _ (p : ℕ) (looks : List Bool) (shifts : List (ℕ × ℕ)) where
  pub unset_shifts : (n m : ℕ) → ((t : ℕ) → n ≤ t → t < m → is_set looks t ≡ false) → HasOnlyShifts (lone_cells p looks shifts) shifts n m
  unset_shifts n m h t a b = ap (λ (c : Bool). cond c (Action.reduce p) (shift_to (at_of shifts t))) (h t a b)

  pub lone_put : (t index : ℕ) (old new : List (ℕ × Action)) → Rises shifts → AreApart looks shifts → is_set looks t ≡ true → StandsAt (lone_cells p looks shifts) shifts t index old → new ≡ old ++ (t, Action.reduce p) ∷ [] → StandsAt (lone_cells p looks shifts) shifts (t + 1) index new
  lone_put t index old new up apart set is now = record {
    filled = cell_put (lone_cells p looks shifts) shifts t (Action.reduce p) old new (ap (λ (c : Bool). cond c (Action.reduce p) (shift_to (at_of shifts t))) set) is.filled now;
    cursor = cursor_skip shifts index t (t + 1) up (omega arith) (λ k a b. (let e : k ≡ t = omega (arith, a, b) in ap (at_of shifts) e ∙ apart t set)) is.cursor;
  }

-- ---- the cells of a state that doesn't accept

abbrev pub lone : ℕ → List Bool → List ReductionValue
lone p looks = record { production = p; looks = looks } ∷ []

and_false : (b : Bool) → (b && false) ≡ false
and_false true = refl
and_false false = refl

shift_by : (o : Option ℕ) (a : OfToken) (b : OfProduction) → shift_to o ≡ cell_by false [] o a b
shift_by None a b = refl
shift_by (Some k) a b = refl

lone_by : (c : Bool) (p : ℕ) (o : Option ℕ) (a : OfToken) (b : OfProduction) → (c ≡ true → o ≡ None) → cond c (Action.reduce p) (shift_to o) ≡ cell_by false (cond c (p ∷ []) []) o a b
lone_by true p o a b h = ap (λ (q : Option ℕ). cell_by false (p ∷ []) q a b) (sym (h refl))
lone_by false p o a b h = shift_by o a b

one_pair : (c : Bool) (p s t : ℕ) → pairs_at s t (cond c (p ∷ []) []) ≡ []
one_pair true p s t = refl
one_pair false p s t = refl

one_shift : (c : Bool) (p s t : ℕ) (o : Option ℕ) (a : OfToken) (b : OfProduction) → (c ≡ true → o ≡ None) → shifts_at s t (cond c (p ∷ []) []) o a b ≡ []
one_shift true p s t o a b h = ap (λ (q : Option ℕ). shifts_at s t (p ∷ []) q a b) (h refl)
one_shift false p s t o a b h = refl

module _ (G : Grammar) (precedences : Precedences) (x : PartsValue) where
  -- its rows, cell by cell
  pub row_by : (cells : ℕ → Action) → x.accepts ≡ false → ((t : ℕ) → cells t ≡ cell_by false (reductions_on x.reductions t) (at_of x.shifts t) (precedences.of_token t) precedences.of_production) → (n : ℕ) → filled_row cells n ≡ filled_row (cells_by G precedences x) n
  row_by cells quiet h n = gathered_same (λ (t : ℕ). filled t (cells t)) (λ (t : ℕ). filled t (cells_by G precedences x t)) n (λ t lt. ap (filled t) (h t
      ∙ sym (ap (λ (b : Bool). cell_by b (reductions_on x.reductions t) (at_of x.shifts t) (precedences.of_token t) precedences.of_production) (ap (λ (b : Bool). nat_eq t (end_token G) && b) quiet ∙ and_false (nat_eq t (end_token G))))))

  module _ (none : x.reductions ≡ []) where
    pub shifts_row : x.accepts ≡ false → (n : ℕ) → filled_row (λ t. shift_to (at_of x.shifts t)) n ≡ filled_row (cells_by G precedences x) n
    shifts_row quiet n = row_by (λ t. shift_to (at_of x.shifts t)) quiet (λ t. shift_by (at_of x.shifts t) (precedences.of_token t) precedences.of_production ∙ ap (λ rs. cell_by false (reductions_on rs t) (at_of x.shifts t) (precedences.of_token t) precedences.of_production) (sym none)) n

    pub shifts_no_pairs : (s n : ℕ) → pairs_in s x n ≡ []
    shifts_no_pairs s n = gathered_skip (pairs_on s x) 0 n (omega arith) (λ t a b. ap (λ rs. pairs_at s t (reductions_on rs t)) none)

    pub shifts_no_shifts : (s n : ℕ) → shifts_in precedences s x n ≡ []
    shifts_no_shifts s n = gathered_skip (shifts_on precedences s x) 0 n (omega arith) (λ t a b. ap (λ rs. shifts_at s t (reductions_on rs t) (at_of x.shifts t) (precedences.of_token t) precedences.of_production) none)

  module _ (p : ℕ) (looks : List Bool) (one : x.reductions ≡ record { production = p; looks = looks } ∷ []) (apart : AreApart looks x.shifts) where
    pub lone_row : x.accepts ≡ false → (n : ℕ) → filled_row (lone_cells p looks x.shifts) n ≡ filled_row (cells_by G precedences x) n
    lone_row quiet n = row_by (lone_cells p looks x.shifts) quiet (λ t. lone_by (is_set looks t) p (at_of x.shifts t) (precedences.of_token t) precedences.of_production (apart t) ∙ ap (λ rs. cell_by false (reductions_on rs t) (at_of x.shifts t) (precedences.of_token t) precedences.of_production) (sym one)) n

    pub lone_no_pairs : (s n : ℕ) → pairs_in s x n ≡ []
    lone_no_pairs s n = gathered_skip (pairs_on s x) 0 n (omega arith) (λ t a b. ap (λ rs. pairs_at s t (reductions_on rs t)) one ∙ one_pair (is_set looks t) p s t)

    pub lone_no_shifts : (s n : ℕ) → shifts_in precedences s x n ≡ []
    lone_no_shifts s n = gathered_skip (shifts_on precedences s x) 0 n (omega arith) (λ t a b. ap (λ rs. shifts_at s t (reductions_on rs t) (at_of x.shifts t) (precedences.of_token t) precedences.of_production) one ∙ one_shift (is_set looks t) p s t (at_of x.shifts t) (precedences.of_token t) precedences.of_production (apart t))

-- ---- a list of one, and of none

pub single : {A : Type 0} (xs : List A) (x : A) → length xs ≡ 1 → x ≡ get_or xs 0 x → xs ≡ x ∷ []
single [] x e at = absurd (omega (arith, e))
single (y ∷ []) x e at = ap (λ z. z ∷ []) (sym at)
single (y ∷ z ∷ xs) x e at = absurd (omega (arith, e))

pub no_item : {A : Type 0} (xs : List A) → length xs ≡ 0 → xs ≡ []
no_item [] e = refl
no_item (x ∷ xs) e = absurd (omega (arith, e))
