-- How reductions on a token end: how many leave the front of a stack, and which one goes below it.
use Rattle.std.specs.Prelude.{◌≡◌, ◌<◌, ◌≤◌, ◌+◌, ◌-◌, ℕ, List, [], ◌∷◌, ◌++◌, drop, length, Option, None, Some, slice_get}
use Rattle.std.specs.declared.alloc.Global.{Global}
use Rattle.std.specs.declared.vec.Vec.{Vec}
use Rattle.cfg_theory.specs.Grammar.{Grammar}
use Rattle.lr_theory.specs.Automaton.{Automaton}
use Rattle.lr_theory.specs.Chains.{goto_from, Reductions}
use Rattle.state_table.specs.Graphs.{GraphValue}
use Rattle.state_table.specs.TableValues.{TableValue}
use Rattle.state_table.specs.Tables.{automaton_of}
use Rattle.lrpar.specs.declared.endings.Ending.{Ending}
use Rattle.lrpar.specs.declared.endings.Last.{Last}
use Rattle.lrpar.specs.declared.endings.Link.{Link}
use Rattle.lrpar.specs.declared.endings.Found.{Found}
use Rattle.lrpar.specs.declared.endings.Found.TheVariants as found

-- a state and a token of the table
pub record IsCell (v : TableValue) (q t : ℕ) : Type 0 where
  pub state : q < v.states
  pub token : t < v.tokens

-- after count reductions the front is another, whatever is below
abbrev pub LeadsTo : Grammar → Automaton → ℕ → List ℕ → ℕ → List ℕ → Type 0
LeadsTo G a t from count to = (below : List ℕ) (n : ℕ) → Reductions G a t n (from ++ below) → Reductions G a t (n - count) (to ++ below)

-- the next one after count of them is by p: it leaves these states of those below
abbrev pub GoesBelow : Grammar → Automaton → ℕ → List ℕ → ℕ → ℕ → (List ℕ → List ℕ) → Type 0
GoesBelow G a t from count p left = (below : List ℕ) (n : ℕ) → Reductions G a t n (from ++ below) → count < n →
    (ss : List ℕ) × (goto_from G a p (left below) ≡ Some ss) × Reductions G a t (n - (count + 1)) ss

-- at most count of them come, or the next one takes states below off
abbrev pub EndsBy : {S : Type 0} → (S → ℕ) → Grammar → Automaton → ℕ → List ℕ → ℕ → Option (Last S) → Type 0
EndsBy number G a t from count None = (below : List ℕ) (n : ℕ) → Reductions G a t n (from ++ below) → n ≤ count
EndsBy number G a t from count (Some e) = GoesBelow G a t from count (number e.pidx.0) (drop e.below)

-- the ending on t of what begins with this front
pub record IsEnding {S : Type 0} (number : S → ℕ) (G : Grammar) (v : TableValue) (t : ℕ) (from : List ℕ) (e : Ending S) : Type 0 where
  pub token : number e.tidx.0 ≡ t
  pub production : (x : Last S) → e.last ≡ Some x → number x.pidx.0 < length G.productions
  pub ends : (g : GraphValue) → EndsBy number G (automaton_of g v) t from e.count e.last

-- a link that reductions on t come to from this front
pub record IsLink {S : Type 0} (number : S → ℕ) (G : Grammar) (v : TableValue) (t : ℕ) (from : List ℕ) (l : Link S) : Type 0 where
  pub state : number l.state.0 < v.states
  pub above : number l.above.0 < v.states
  pub leads : (g : GraphValue) → LeadsTo G (automaton_of g v) t from l.count (number l.above.0 ∷ number l.state.0 ∷ [])

-- a link on the state q, or an ending
abbrev pub IsFound : {S : Type 0} → (S → ℕ) → Grammar → TableValue → ℕ → ℕ → List ℕ → Found S → Type 0
IsFound number G v t q from (found.Goes l) = (number l.state.0 ≡ q) × IsLink number G v t from l
IsFound number G v t q from (found.Ends e) = IsEnding number G v t from e

-- links that begin with their lower states alone
abbrev pub AreLinks : {S : Type 0} → (S → ℕ) → Grammar → TableValue → ℕ → List (Link S) → Type 0
AreLinks {S} number G v t links = (k : ℕ) (l : Link S) → slice_get links k ≡ Some l → IsLink number G v t (number l.state.0 ∷ []) l

-- endings of the state s
abbrev pub AreEndingsOf : {S : Type 0} → (S → ℕ) → Grammar → TableValue → ℕ → List (Option (Ending S)) → Type 0
AreEndingsOf {S} number G v s row = (k : ℕ) (e : Ending S) → slice_get row k ≡ Some (Some e) → IsEnding number G v (number e.tidx.0) (s ∷ []) e

-- endings of each state
pub record AreEndings {S : Type 0} (number : S → ℕ) (G : Grammar) (v : TableValue) (rows : List (Vec (Option (Ending S)) Global)) : Type 0 where
  pub count : length rows ≡ v.states
  pub each : (s : ℕ) (row : Vec (Option (Ending S)) Global) → slice_get rows s ≡ Some row → AreEndingsOf number G v s row.items
