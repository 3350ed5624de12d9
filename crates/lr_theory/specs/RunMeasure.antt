-- A number that each step of a run lessens: the measure of a loop that runs a machine.
use Rattle.std.specs.Prelude.{◌≡◌, ℕ, zero, suc, ◌+◌, ◌*◌, ◌<◌, List, length}
use Rattle.cfg_theory.specs.Grammar.{Sym, Grammar, HasStart}
use Rattle.lr_theory.specs.Automaton.{Automaton, Safe}
use Rattle.lr_theory.specs.Machine.{Config, Outcome, going, accepted, failed, stuck, step}
use Rattle.lr_theory.specs.Stack.{Stands}
use Rattle.lr_theory.specs.Chains.{ChainsWithin}

-- a run of this many lexemes on this many states makes fewer steps
abbrev pub most_steps : ℕ → ℕ → ℕ → ℕ
most_steps cap zero height = height * (cap + 1) + 1
most_steps cap (suc n) height = height * (cap + 1) + 1 + most_steps cap n (height * (cap + 2) + 1)

abbrev pub one_more : {L : Type 0} → Outcome L → (Config L → ℕ) → ℕ
one_more (going c) f = suc (f c)
one_more (accepted t) f = 1
one_more (failed c) f = 1
one_more stuck f = 1

-- how many steps come, counted up to n
abbrev pub steps_within : {L : Type 0} → Grammar → Automaton → (L → ℕ) → ℕ → Config L → ℕ
steps_within G a tok zero c = 0
steps_within G a tok (suc n) c = one_more (step G a tok c) (steps_within G a tok n)

-- what is left of a run
unfoldable pub steps_left : {L : Type 0} → Grammar → Automaton → (L → ℕ) → ℕ → Config L → ℕ
steps_left G a tok cap c = steps_within G a tok (most_steps cap (length c.rest) (length c.states)) c

-- each step lessens it: the measure of a loop that runs
pub record RunsShorten (L : Type 0) : Type 0 where
  pub shorten : (G : Grammar) (a : Automaton) (tok : L → ℕ) (x : Sym) (cap : ℕ) (input : List L) (c d : Config L) → Safe G a → HasStart G x →
      ChainsWithin G a cap → Stands G a tok input c → step G a tok c ≡ going d → steps_left G a tok cap d < steps_left G a tok cap c
