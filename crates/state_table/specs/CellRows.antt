-- The row of cells of a state: by its reductions, its edges on tokens, and whether it accepts.
use Rattle.std.specs.Prelude.{◌≡◌, ◌⊎◌, ℕ, ◌<◌, ◌≤◌, Bool, true, false, ◌&&◌, cond, nat_eq, List, [], ◌∷◌, length, Option, Some, None}
use Rattle.std.specs.List.{AllByRecursion}
use Rattle.cfg_theory.specs.Grammar.{Grammar, end_token}
use Rattle.vob.specs.Sets.{is_set}
use Rattle.lr_theory.specs.Automaton.{Action}
use Rattle.table_theory.specs.Cells.{Precedence, Precedences, Candidates, ReduceReduce, ShiftReduce, shift_or_reduce, unsettled_entry, gathered, pairs_at, shifts_at, cell_of}
use Rattle.state_table.specs.Cursors.{IsCursor}
use Rattle.state_table.specs.Rows.{Rises, at_of}

-- the precedence of a token, and those of the productions
abbrev pub OfToken : Type 0
OfToken = Option Precedence

abbrev pub OfProduction : Type 0
OfProduction = ℕ → Option Precedence

-- a complete item: its production and its lookaheads
pub record ReductionValue : Type 0 where
  pub production : ℕ
  pub looks : List Bool

-- what a state has for its row: the complete items of other productions than the start's, its edges on tokens, and
-- whether it has the complete start production
pub record PartsValue : Type 0 where
  pub reductions : List ReductionValue
  pub shifts : List (ℕ × ℕ)
  pub accepts : Bool

-- the productions that reduce on the token, in their order
abbrev pub reductions_on : List ReductionValue → ℕ → List ℕ
reductions_on [] t = []
reductions_on (r ∷ rs) t = cond (is_set r.looks t) (r.production ∷ reductions_on rs t) (reductions_on rs t)

abbrev pub first_of : List ℕ → Option ℕ
first_of [] = None
first_of (p ∷ ps) = Some p

-- what may stand in the cell of the token
abbrev pub candidates_on : Grammar → PartsValue → ℕ → Candidates
candidates_on G x t = record { reductions = reductions_on x.reductions t; edge = at_of x.shifts t; accepts = nat_eq t (end_token G) && x.accepts }

-- a cell by the first reduction
abbrev pub cell_from : Bool → Option ℕ → Option ℕ → OfToken → OfProduction → Action
cell_from true first edge a b = Action.accept
cell_from false None None a b = Action.error
cell_from false None (Some target) a b = Action.shift target
cell_from false (Some p) None a b = Action.reduce p
cell_from false (Some p) (Some target) a b = shift_or_reduce target p a (b p)

-- the entry of a shift/reduce by the first reduction
abbrev pub shifts_from : ℕ → ℕ → Option ℕ → Option ℕ → OfToken → OfProduction → List ShiftReduce
shifts_from s t None edge a b = []
shifts_from s t (Some p) None a b = []
shifts_from s t (Some p) (Some target) a b = unsettled_entry (t, p, s) a (b p)

-- the pair of a further reduction with the first one, if there is one
abbrev pub pair_with : Option ℕ → ℕ → ℕ → ℕ → List ReduceReduce
pair_with None s t p = []
pair_with (Some first) s t p = (t, first, p, s) ∷ []

-- a cell beside its token, unless it is an error
abbrev pub filled : ℕ → Action → List (ℕ × Action)
filled t (Action.shift k) = (t, Action.shift k) ∷ []
filled t (Action.reduce p) = (t, Action.reduce p) ∷ []
filled t Action.accept = (t, Action.accept) ∷ []
filled t Action.error = []

-- the filled ones of n cells
abbrev pub filled_row : (ℕ → Action) → ℕ → List (ℕ × Action)
filled_row cells n = gathered (λ t. filled t (cells t)) n

-- the cells of the state
abbrev pub cells_by : Grammar → Precedences → PartsValue → ℕ → Action
cells_by G precedences x t = cell_of precedences t (candidates_on G x t)

-- its listed pairs of reductions on a token, and on the first n
abbrev pub pairs_on : ℕ → PartsValue → ℕ → List ReduceReduce
pairs_on s x t = pairs_at s t (reductions_on x.reductions t)

abbrev pub pairs_in : ℕ → PartsValue → ℕ → List ReduceReduce
pairs_in s x n = gathered (λ t. pairs_on s x t) n

-- and its listed shift/reduces
abbrev pub shifts_on : Precedences → ℕ → PartsValue → ℕ → List ShiftReduce
shifts_on precedences s x t = shifts_at s t (reductions_on x.reductions t) (at_of x.shifts t) (precedences.of_token t) precedences.of_production

abbrev pub shifts_in : Precedences → ℕ → PartsValue → ℕ → List ShiftReduce
shifts_in precedences s x n = gathered (λ t. shifts_on precedences s x t) n

-- the parts are of a grammar: productions are its own, and edges stand in order
pub record FitsParts (G : Grammar) (x : PartsValue) : Type 0 where
  pub productions : AllByRecursion (λ r. r.production < length G.productions) x.reductions
  pub rises : Rises x.shifts

-- it accepts, and p is the first reduction on the end token
abbrev pub IsContested : Grammar → PartsValue → ℕ → Type 0
IsContested G x p = (x.accepts ≡ true) × (first_of (reductions_on x.reductions (end_token G)) ≡ Some p)

-- nothing stands in the cell of the token
pub record IsBlank (G : Grammar) (x : PartsValue) (t : ℕ) : Type 0 where
  pub reductions : reductions_on x.reductions t ≡ []
  pub edge : at_of x.shifts t ≡ None
  pub no_end : t ≡ end_token G → ⊥

-- one thing alone may stand in a cell: the shift of its edge, or one reduction
abbrev pub IsPlain : List ℕ → Option ℕ → Action → Type 0
IsPlain reductions edge a = ((k : ℕ) × (reductions ≡ []) × (edge ≡ Some k) × (a ≡ Action.shift k)) ⊎ ((p : ℕ) × (reductions ≡ p ∷ []) × (edge ≡ None) × (a ≡ Action.reduce p))

-- the cell of an edge alone
abbrev pub shift_to : Option ℕ → Action
shift_to None = Action.error
shift_to (Some k) = Action.shift k

-- the cells of a state that reduces by p on the tokens of a set and shifts on others
abbrev pub lone_cells : ℕ → List Bool → List (ℕ × ℕ) → ℕ → Action
lone_cells p looks shifts t = cond (is_set looks t) (Action.reduce p) (shift_to (at_of shifts t))

-- no edge stands on a token of the set
abbrev pub AreApart : List Bool → List (ℕ × ℕ) → Type 0
AreApart looks shifts = (t : ℕ) → is_set looks t ≡ true → at_of shifts t ≡ None

-- from n up to before m there are shifts alone
abbrev pub HasOnlyShifts : (ℕ → Action) → List (ℕ × ℕ) → ℕ → ℕ → Type 0
HasOnlyShifts cells shifts n m = (t : ℕ) → n ≤ t → t < m → cells t ≡ shift_to (at_of shifts t)

-- a row has the cells of the tokens before n, and an index in the edges stands at n
pub record StandsAt (cells : ℕ → Action) (shifts : List (ℕ × ℕ)) (n index : ℕ) (row : List (ℕ × Action)) : Type 0 where
  pub filled : row ≡ filled_row cells n
  pub cursor : IsCursor shifts index n
