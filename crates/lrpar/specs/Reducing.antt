-- Reductions on a stack whose top is last.
use Rattle.std.specs.Prelude.{◌≡◌, ◌<◌, ◌≤◌, ℕ, Bool, true, false, ◌+◌, List, [], ◌∷◌, map, reverse, length, Option, None, Some, slice_get}
use Rattle.cfg_theory.specs.Grammar.{Grammar, WellFormed, body_of}
use Rattle.lr_theory.specs.Automaton.{Action, shift, reduce, accept, error, Automaton}
use Rattle.lr_theory.specs.Chains.{reduction, Reductions, ChainsWithin}
use Rattle.lr_theory.specs.LongChains.{Chain, GoesPast, Passes, ChainBefore, IsLeastChain}
use Rattle.cfg_base.specs.declared.symbol.PIdx.{PIdx}
use Rattle.cfg_base.specs.declared.symbol.RIdx.{RIdx}
use Rattle.lrpar.specs.declared.chains.LongChain.{LongChain}
use Rattle.lrpar.specs.declared.unit_chains.Short.{Short}
use Rattle.lrpar.specs.declared.unit_chains.Short.TheVariants as shorts
use Rattle.state_table.specs.TableValues.{TableValue, action_at}
use Rattle.lrpar.specs.Ranges.{IsTable}
use Rattle.state_table.specs.declared.stidx.StIdx.{StIdx}
use Rattle.cfg_base.specs.declared.symbol.TIdx.{TIdx}

-- the numbers of a stack's states
abbrev pub states_of : {S : Type 0} → (S → ℕ) → List (StIdx S) → List ℕ
states_of number ss = map (λ q. number q.0) ss

-- and from its top on, as the machine has them
abbrev pub stack_of : {S : Type 0} → (S → ℕ) → List (StIdx S) → List ℕ
stack_of number ss = reverse (states_of number ss)

-- the table is one, the grammar is well formed, and their counts agree
pub record IsTableFor (G : Grammar) (v : TableValue) : Type 0 where
  pub well_formed : WellFormed G
  pub is_table : IsTable v
  pub tokens : v.tokens ≡ G.tokens
  pub rules : v.rules ≡ G.rules
  pub productions : v.productions ≡ length G.productions

-- each state of the list is one of the table's
pub record AreStates (v : TableValue) (ss : List ℕ) : Type 0 where
  pub each : (k q : ℕ) → slice_get ss k ≡ Some q → q < v.states

-- one reduction was made, or none can be made that leaves a state
abbrev pub ReducesTo : Grammar → Automaton → ℕ → List ℕ → List ℕ → Bool → Type 0
ReducesTo G a t ss ss' true = reduction G a t ss ≡ Some ss'
ReducesTo G a t ss ss' false = reduction G a t ss ≡ None

-- the stack that a chain begins with, from its top on: the state alone, or with another one above it
abbrev pub chain_stack : ℕ → Option ℕ → List ℕ
chain_stack p None = p ∷ []
chain_stack p (Some q) = q ∷ p ∷ []

-- its top, and how many states it has
abbrev pub chain_top : ℕ → Option ℕ → ℕ
chain_top p None = p
chain_top p (Some q) = q

abbrev pub chain_depth : Option ℕ → ℕ
chain_depth None = 1
chain_depth (Some q) = 2

-- no reduction by the action leaves one of so many states
abbrev pub BeginsNone : Grammar → ℕ → Action → Type 0
BeginsNone G depth (shift q) = Unit {0}
BeginsNone G depth (reduce p) = depth ≤ length (body_of G p)
BeginsNone G depth accept = Unit {0}
BeginsNone G depth error = Unit {0}

-- more than limit reductions come on t
abbrev pub IsLong : Grammar → Automaton → ℕ → ℕ → Option ℕ → ℕ → Type 0
IsLong G a limit p above t = Reductions G a t (limit + 1) (chain_stack p above)

-- an answer to whether they do
abbrev pub TellsLong : Grammar → Automaton → ℕ → ℕ → Option ℕ → ℕ → Bool → Type 0
TellsLong G a limit p above t true = IsLong G a limit p above t
TellsLong G a limit p above t false = IsLong G a limit p above t → ⊥

-- the least token on which they do, or none
abbrev pub TellsToken : Grammar → Automaton → ℕ → ℕ → ℕ → Option ℕ → Option ℕ → Type 0
TellsToken G a limit tokens p above None = (t : ℕ) → t < tokens → IsLong G a limit p above t → ⊥
TellsToken G a limit tokens p above (Some u) = (u < tokens) × IsLong G a limit p above u × ((t : ℕ) → t < u → IsLong G a limit p above t → ⊥)

-- an answer that none is long, whatever the token
abbrev pub TellsQuiet : Grammar → Automaton → ℕ → ℕ → Option ℕ → Bool → Type 0
TellsQuiet G a limit p above true = (t : ℕ) → IsLong G a limit p above t → ⊥
TellsQuiet G a limit p above false = Unit {0}

abbrev pub token_number : {S : Type 0} → (S → ℕ) → Option (TIdx S) → Option ℕ
token_number number None = None
token_number number (Some t) = Some (number t.0)

-- the same stack with its top last
abbrev pub chain_states : ℕ → Option ℕ → List ℕ
chain_states p None = p ∷ []
chain_states p (Some q) = p ∷ q ∷ []

abbrev pub rule_number : {S : Type 0} → (S → ℕ) → Option (RIdx S) → Option ℕ
rule_number number None = None
rule_number number (Some r) = Some (number r.0)

abbrev pub chain_of : {S : Type 0} → (S → ℕ) → LongChain S → Chain
chain_of number c = record { state = number c.state.0; rule = rule_number number c.ridx; token = number c.tidx.0 }

-- the least chain of the state that passes, or that none does
abbrev pub TellsOf : {S : Type 0} → (S → ℕ) → Grammar → Automaton → ℕ → ℕ → Option (LongChain S) → Type 0
TellsOf number G a limit p None = (d : Chain) → d.state ≡ p → Passes G a limit d → ⊥
TellsOf number G a limit p (Some c) = (number c.state.0 ≡ p) × Passes G a limit (chain_of number c) × ((d : Chain) → d.state ≡ p → Passes G a limit d → ChainBefore d (chain_of number c) → ⊥)

-- the least of the chains with a rule, or that none of these passes
abbrev pub TellsAbove : {S : Type 0} → (S → ℕ) → Grammar → Automaton → ℕ → ℕ → Option (LongChain S) → Type 0
TellsAbove number G a limit p None = (R t : ℕ) → GoesPast G a limit p (Some R) t → ⊥
TellsAbove {S} number G a limit p (Some c) = (number c.state.0 ≡ p) × ((R : RIdx S) × (c.ridx ≡ Some R)) × Passes G a limit (chain_of number c) × ((R t : ℕ) → GoesPast G a limit p (Some R) t → ChainBefore (record { state = p; rule = Some R; token = t }) (chain_of number c) → ⊥)

-- the least chain of all that passes, or that all are within the limit
abbrev pub TellsChain : {S : Type 0} → (S → ℕ) → Grammar → Automaton → ℕ → Option (LongChain S) → Type 0
TellsChain number G a limit None = ChainsWithin G a limit
TellsChain number G a limit (Some c) = IsLeastChain G a limit (chain_of number c)

-- which reductions of at most one symbol a state makes: none, by one production of one symbol alone, or whatever
abbrev pub ShortAt : {S : Type 0} → (S → ℕ) → Grammar → TableValue → ℕ → Short S → Type 0
ShortAt number G v q shorts.Nothing = (t p : ℕ) → action_at v q t ≡ reduce p → 1 < length (body_of G p)
ShortAt number G v q (shorts.Unit i) = (number i.0 < length G.productions) × (length (body_of G (number i.0)) ≡ 1) × ((t p : ℕ) → action_at v q t ≡ reduce p → length (body_of G p) ≤ 1 → p ≡ number i.0)
ShortAt number G v q shorts.Other = Unit {0}

-- the same of the first n productions of a list
abbrev pub ShortIn : {S : Type 0} → (S → ℕ) → Grammar → List (PIdx S) → ℕ → Short S → Type 0
ShortIn {S} number G ps n shorts.Nothing = (k : ℕ) (i : PIdx S) → k < n → slice_get ps k ≡ Some i → 1 < length (body_of G (number i.0))
ShortIn {S} number G ps n (shorts.Unit j) = (number j.0 < length G.productions) × (length (body_of G (number j.0)) ≡ 1) × ((k : ℕ) (i : PIdx S) → k < n → slice_get ps k ≡ Some i → length (body_of G (number i.0)) ≤ 1 → number i.0 ≡ number j.0)
ShortIn number G ps n shorts.Other = Unit {0}

-- that of each state
pub record AreShorts {S : Type 0} (number : S → ℕ) (G : Grammar) (v : TableValue) (xs : List (Short S)) : Type 0 where
  pub count : length xs ≡ v.states
  pub each : (k : ℕ) (x : Short S) → slice_get xs k ≡ Some x → ShortAt number G v k x
