-- The states of a building with the lists by which a core is found, and what the steps that add to them keep.
use Rattle.std.specs.Prelude.{◌≡◌, ℕ, ◌+◌, ◌<◌, ◌≤◌, true, false, List, length, map}
use Rattle.cfg_theory.specs.Grammar.{Grammar}
use Rattle.lrtable.specs.declared.pager.Buffers.{Buffers}
use Rattle.lrtable.specs.declared.states.Builder.{Builder}
use Rattle.lrtable.specs.Closers.{IsReady}
use Rattle.lrtable.specs.Handling.{AreReached, left_in}
use Rattle.lrtable.specs.MovedItems.{AreEmpty}
use Rattle.lrtable.specs.States.{StateValue, AreBuckets, AreQuiet, state_at}
use Rattle.lrtable.specs.StateViews.{lists_of, value_of}

abbrev pub states_in : {S : Type 0} → (S → ℕ) → Builder S → List StateValue
states_in number b = map (value_of number) b.states.items

abbrev pub lists_in : {S : Type 0} → Builder S → List (List (List ℕ))
lists_in b = lists_of b.begins.items

-- the lists are those of the states, which are few enough, and the state that is taken is one
pub record IsBuilder {S : Type 0} (number : S → ℕ) (limit : ℕ) (b : Builder S) : Type 0 where
  pub from : b.from < length b.states.items
  pub cursor : b.cursor ≤ length b.states.items
  pub buckets : AreBuckets (states_in number b) (lists_in b)
  pub few : length b.states.items ≤ limit

-- sets of the state that is taken were placed
pub record GoesOn {S : Type 0} (number : S → ℕ) (old new : Builder S) : Type 0 where
  pub from : new.from ≡ old.from
  pub more : length old.states.items ≤ length new.states.items
  pub less : new.cursor ≤ old.cursor
  pub quiet : AreQuiet (states_in number old) old.cursor → AreQuiet (states_in number new) new.cursor

-- what holds between two steps
pub record IsUnderWay {S : Type 0} (number : S → ℕ) (limit : ℕ) (G : Grammar) (b : Builder S) : Type 0 where
  pub builder : IsBuilder number limit b
  pub reached : AreReached G (states_in number b)
  pub quiet : AreQuiet (states_in number b) b.cursor

-- a state was taken, and less is left
pub record IsStep {S : Type 0} (number : S → ℕ) (limit : ℕ) (G : Grammar) (old new : Builder S) : Type 0 where
  pub under_way : IsUnderWay number limit G new
  pub less : left_in G limit (states_in number new) < left_in G limit (states_in number old)

-- the first state that is to be taken
pub record IsFirstDue {S : Type 0} (number : S → ℕ) (b : Builder S) (n : ℕ) : Type 0 where
  pub within : n < length b.states.items
  pub todo : (state_at (states_in number b) n).todo ≡ true
  pub lowest : (r : ℕ) → r < n → (state_at (states_in number b) r).todo ≡ false

-- what steps are made with is of the grammar's sizes, and the goto sets are empty
pub record AreClear {S : Type 0} (G : Grammar) (b : Buffers S) : Type 0 where
  pub ready : IsReady G b.closer
  pub hints : length b.was.hints.items ≡ length G.productions
  pub empty : AreEmpty (G.rules + G.tokens) b.sets.items
  pub wide : length b.marks.bits ≡ G.rules + G.tokens
