-- Testing repairs on the states of a run: an overlay over its stack, and what turns on one token come to.
use Rattle.std.specs.Prelude.{◌≡◌, ◌≢◌, ◌<◌, ◌≤◌, ℕ, Bool, true, false, List, [], ◌∷◌, ◌++◌, reverse, take, length, Option, Some, None}
use Rattle.cfg_theory.specs.Grammar.{Grammar}
use Rattle.lr_theory.specs.Automaton.{Action, shift, accept, error, Automaton}
use Rattle.lr_theory.specs.Chains.{reduction}
use Rattle.state_table.specs.TableValues.{TableValue}
use Rattle.state_table.specs.declared.stidx.StIdx.{StIdx}
use Rattle.lrpar.specs.Reducing.{states_of, AreStates}
use Rattle.lrpar.specs.declared.overlay.Overlay.{Overlay}

-- the stack that an overlay stands for, from its top on: its own states over those that are kept of the base
abbrev pub overlaid : {S : Type 0} → (S → ℕ) → List (StIdx S) → Overlay S → List ℕ
overlaid number base o = reverse (states_of number o.over.items) ++ reverse (take o.kept (states_of number base))

-- an overlay over a base of the table's states, which leaves some
pub record IsOver {S : Type 0} (number : S → ℕ) (v : TableValue) (base : List (StIdx S)) (o : Overlay S) : Type 0 where
  pub within : o.kept ≤ length base
  pub are_states : AreStates v (overlaid number base o)
  pub some : 0 < length (overlaid number base o)

abbrev pub first_of : List ℕ → Option ℕ
first_of [] = None
first_of (s ∷ ss) = Some s

abbrev pub action_on : Automaton → ℕ → List ℕ → Action
action_on a t [] = error
action_on a t (s ∷ ss) = a.action s t

-- reductions on t lead from one stack to the other
pub data Leads (G : Grammar) (a : Automaton) (t : ℕ) : List ℕ → List ℕ → Type 0 where
  none : {ss : List ℕ} → Leads G a t ss ss
  first : {ss ss'' : List ℕ} (ss' : List ℕ) → reduction G a t ss ≡ Some ss' → Leads G a t ss' ss'' → Leads G a t ss ss''

-- and no further one comes
pub record Rests (G : Grammar) (a : Automaton) (t : ℕ) (ss ss' : List ℕ) : Type 0 where
  pub leads : Leads G a t ss ss'
  pub last : reduction G a t ss' ≡ None

-- after reductions t is shifted
pub record ShiftsTo (G : Grammar) (a : Automaton) (t : ℕ) (ss ss' : List ℕ) : Type 0 where
  pub reduced : List ℕ
  pub rests : Rests G a t ss reduced
  pub target : ℕ
  pub cell : action_on a t reduced ≡ shift target
  pub states : ss' ≡ target ∷ reduced

-- or it isn't
pub record ShiftsNot (G : Grammar) (a : Automaton) (t : ℕ) (ss : List ℕ) : Type 0 where
  pub reduced : List ℕ
  pub rests : Rests G a t ss reduced
  pub cell : (q : ℕ) → action_on a t reduced ≢ shift q

abbrev pub TellsShift : Grammar → Automaton → ℕ → List ℕ → List ℕ → Bool → Type 0
TellsShift G a t ss ss' true = ShiftsTo G a t ss ss'
TellsShift G a t ss ss' false = ShiftsNot G a t ss

-- whether after reductions on the end token the run accepts
abbrev pub TellsAccept : Grammar → Automaton → ℕ → List ℕ → Bool → Type 0
TellsAccept G a t ss true = (ss' : List ℕ) × Rests G a t ss ss' × (action_on a t ss' ≡ accept)
TellsAccept G a t ss false = (ss' : List ℕ) × Rests G a t ss ss' × (action_on a t ss' ≢ accept)
