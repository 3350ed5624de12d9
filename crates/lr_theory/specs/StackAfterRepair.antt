-- The stack right after a repair and the next shift.
use Rattle.std.specs.Prelude.{◌≡◌, ℕ, ◌<◌, List, ◌∷◌, ◌++◌}
use Rattle.cfg_theory.specs.Grammar.{Sym, Grammar}
use Rattle.cfg_theory.specs.Tree.{Tree, leaf}
use Rattle.cfg_theory.specs.Derivation.{AllProductive}
use Rattle.lr_theory.specs.Automaton.{Automaton}
use Rattle.lr_theory.specs.Machine.{Config, going, run, start_config}
use Rattle.lr_theory.specs.Stack.{stack_yield, Stands}
use Rattle.lr_theory.specs.ViablePrefix.{HasPresent}
use Rattle.lr_theory.specs.ErrorPlaces.{IsReady}
use Rattle.lr_theory.specs.Repair.{Edit, with_rest, Takes}

-- from c the machine comes to d, and here first are no more than these lexemes left
pub record IsFirstWith {L : Type 0} (G : Grammar) (a : Automaton) (tok : L → ℕ) (left : List L) (c d : Config L) : Type 0 where
  pub steps : ℕ
  pub comes : run G a tok steps c ≡ going d
  pub rest : d.rest ≡ left
  pub first : (n : ℕ) (b : Config L) → n < steps → run G a tok n c ≡ going b → b.rest ≡ left → ⊥

-- where a complete machine's rules all derive some text
pub record RepairsAreFresh (L : Type 0) : Type 0 where
  -- a stack that stands and whose last tree is a lexeme is that of a run from the start
  pub shifted : (G : Grammar) (a : Automaton) (tok : L → ℕ) (x : Sym) (input : List L) (c : Config L) (y : L) (ts : List (Tree L)) → IsReady G a x → HasPresent G a →
      AllProductive G → Stands G a tok input c → c.trees ≡ leaf y ∷ ts → (n : ℕ) × (run G a tok n (start_config a input) ≡ going c)
  -- so after a repair, right when the lexeme behind it is shifted, the stack is that of a run from the start on the lexemes as repaired
  pub next_shift : (G : Grammar) (a : Automaton) (tok : L → ℕ) (make : ℕ → List L → L) (x : Sym) (input : List L) (d : Config L) (es : List Edit) → IsReady G a x →
      HasPresent G a → AllProductive G → Stands G a tok input d → (k : Takes G a tok make d es) → (y : L) (ys : List L) → k.left ≡ y ∷ ys →
      (c : Config L) × IsFirstWith G a tok ys (with_rest d (k.put ++ k.left)) c × ((ts : List (Tree L)) × (c.trees ≡ leaf y ∷ ts)) ×
      ((n : ℕ) × (run G a tok n (start_config a (stack_yield d.trees ++ (k.put ++ k.left))) ≡ going c))
