-- The tokens that may come next.
use Rattle.std.specs.Prelude.{◌≡◌, ◌≢◌, ℕ, ◌<◌, ◌⊎◌, ◌↔◌, List, [], ◌∷◌, ◌++◌, map}
use Rattle.std.specs.List.{AllByRecursion}
use Rattle.cfg_theory.specs.Grammar.{Sym, Grammar, end_token, HasStart, IsEnd}
use Rattle.cfg_theory.specs.Derivation.{AllProductive, IsSentence, BeginsSentence}
use Rattle.cfg_theory.specs.Tree.{Tree, leaf}
use Rattle.lr_theory.specs.Automaton.{Automaton, Safe}
use Rattle.lr_theory.specs.Machine.{Config, going, accepted, run, start_config}
use Rattle.lr_theory.specs.Stack.{Stands, stack_yield}
use Rattle.lr_theory.specs.ViablePrefix.{HasPresent}
use Rattle.lr_theory.specs.ErrorPlaces.{IsReady}
use Rattle.lr_theory.specs.Repair.{with_rest}
use Rattle.lr_theory.specs.Chains.{ChainsWithin}

-- from the stack of c the lexeme y is shifted, or at the end the run accepts
abbrev pub Shifts : {L : Type 0} → Grammar → Automaton → (L → ℕ) → Config L → L → Type 0
Shifts {L} G a tok c y = (n : ℕ) × (d : Config L) × (run G a tok n (with_rest c (y ∷ [])) ≡ going d) × (d.rest ≡ [])

abbrev pub Ends : {L : Type 0} → Grammar → Automaton → (L → ℕ) → Config L → Type 0
Ends {L} G a tok c = (n : ℕ) × (t : Tree L) × (run G a tok n (with_rest c []) ≡ accepted t)

-- the stack of c is that right after a lexeme was shifted, or the one at the start
abbrev pub IsFresh : {L : Type 0} → Automaton → Config L → Type 0
IsFresh {L} a c = ((y : L) × (ts : List (Tree L)) × (c.trees ≡ leaf y ∷ ts)) ⊎ ((c.trees ≡ []) × (c.states ≡ a.graph.start ∷ []))

-- on any safe machine: what is shifted goes on with a beginning of a sentence, and where the run accepts it is one
pub record NextTokensAreSound (L : Type 0) : Type 0 where
  pub sound : (G : Grammar) (a : Automaton) (tok : L → ℕ) (x : Sym) (input : List L) (c : Config L) (y : L) → Safe G a → HasStart G x → HasPresent G a → AllProductive G →
      Stands G a tok input c → tok y ≢ end_token G → Shifts G a tok c y → BeginsSentence G x (map tok (stack_yield c.trees ++ y ∷ []))
  pub sound_end : (G : Grammar) (a : Automaton) (tok : L → ℕ) (x : Sym) (input : List L) (c : Config L) → Safe G a → HasStart G x →
      Stands G a tok input c → Ends G a tok c → IsSentence G x (map tok (stack_yield c.trees))

-- on a complete one whose chains are bounded, from the stack right after a shift: exactly these
pub record NextTokensAreExact (L : Type 0) : Type 0 where
  pub exact : (G : Grammar) (a : Automaton) (tok : L → ℕ) (x : Sym) (cap : ℕ) (input : List L) (c : Config L) (y : L) → IsReady G a x → ChainsWithin G a cap → HasPresent G a → AllProductive G →
      AllByRecursion (λ z. tok z ≢ end_token G) input → Stands G a tok input c → IsFresh a c → tok y ≢ end_token G → Shifts G a tok c y ↔ BeginsSentence G x (map tok (stack_yield c.trees ++ y ∷ []))
  pub exact_end : (G : Grammar) (a : Automaton) (tok : L → ℕ) (x : Sym) (cap : ℕ) (input : List L) (c : Config L) → IsReady G a x → ChainsWithin G a cap → HasPresent G a → AllProductive G →
      AllByRecursion (λ z. tok z ≢ end_token G) input → Stands G a tok input c → IsFresh a c → Ends G a tok c ↔ IsSentence G x (map tok (stack_yield c.trees))
