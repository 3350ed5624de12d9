-- What may come next on the states of a run.
use Rattle.std.specs.Prelude.{◌≡◌, ◌≢◌, ◌<◌, ◌≤◌, ℕ, Bool, true, false, List, [], length, get_or, slice_get, Option, None, Some, Vec}
use Rattle.std.specs.declared.alloc.Global.{Global}
use Rattle.cfg_theory.specs.Grammar.{Grammar, end_token}
use Rattle.lr_theory.specs.Automaton.{Automaton}
use Rattle.lr_theory.specs.Machine.{Config}
use Rattle.state_table.specs.declared.stidx.StIdx.{StIdx}
use Rattle.vob.specs.Packed.{Contents}
use Rattle.lrpar.specs.NextTokens.{Reaches, HasError, AreNext}
use Rattle.lrpar.specs.Reducing.{stack_of}
use Rattle.lrpar.specs.Replay.{TellsShift, TellsAccept}

-- all are of tokens of the grammar other than the end
abbrev pub AreInside : {L : Type 0} → Grammar → (L → ℕ) → List L → Type 0
AreInside {L} G tok lexemes = (k : ℕ) (y : L) → slice_get lexemes k ≡ Some y → tok y < end_token G

abbrev pub TellsInside : {L : Type 0} → Grammar → (L → ℕ) → List L → Bool → Type 0
TellsInside G tok lexemes true = AreInside G tok lexemes
TellsInside {L} G tok lexemes false = (k : ℕ) × (y : L) × (slice_get lexemes k ≡ Some y) × (end_token G ≤ tok y)

-- an answer to whether a token may come next on these states
pub record TellsNext (G : Grammar) (a : Automaton) (t : ℕ) (ss : List ℕ) (told : Bool) : Type 0 where
  pub shifts : t ≢ end_token G → (ss' : List ℕ) × TellsShift G a t ss ss' told
  pub ends : t ≡ end_token G → TellsAccept G a (end_token G) ss told

-- a bit for each token, and those below n tell whether it may
pub record TellBelow (G : Grammar) (a : Automaton) (ss : List ℕ) (n : ℕ) (bits : List Bool) : Type 0 where
  pub count : length bits ≡ G.tokens
  pub each : (t : ℕ) → t < n → TellsNext G a t ss (get_or bits t false)

-- the states to which the run on the lexemes comes, or the lexemes have an error
abbrev pub TellsStates : {S L : Type 0} → (S → ℕ) → Grammar → Automaton → (L → ℕ) → List L → Option (Vec (StIdx S) Global) → Type 0
TellsStates number G a tok lexemes None = HasError G a tok lexemes
TellsStates {L = L} number G a tok lexemes (Some ss) = (c : Config L) × Reaches G a tok lexemes [] c × (c.states ≡ stack_of number ss.items)

-- the bits of the tokens that may come there
abbrev pub TellsAfter : {L : Type 0} → Grammar → Automaton → (L → ℕ) → List L → Option Contents → Type 0
TellsAfter G a tok lexemes None = HasError G a tok lexemes
TellsAfter {L} G a tok lexemes (Some v) = AreInside G tok lexemes × (c : Config L) × Reaches G a tok lexemes [] c × AreNext G a tok c v.bits
