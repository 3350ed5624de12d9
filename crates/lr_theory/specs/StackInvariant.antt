-- What a machine reaches stands: its states lie along edges, and its trees spell what was consumed.
use Rattle.std.specs.Prelude.{◌≢◌, ℕ, List, ◌++◌, Option}
use Rattle.std.specs.List.{AllByRecursion}
use Rattle.cfg_theory.specs.Grammar.{end_token, Sym, Grammar, HasStart}
use Rattle.cfg_theory.specs.Tree.{Tree}
use Rattle.lr_theory.specs.Automaton.{Automaton, Safe}
use Rattle.lr_theory.specs.Machine.{Config, run, start_config}
use Rattle.lr_theory.specs.Stack.{stack_yield, Stands, IsGood}
use Rattle.lr_theory.specs.Repair.{Edit, with_rest, Takes, Parses}

pub record StacksStand (L : Type 0) : Type 0 where
  -- the start does, and so what a run from there comes to
  pub start : (G : Grammar) (a : Automaton) (tok : L → ℕ) (input : List L) → AllByRecursion (λ y. tok y ≢ end_token G) input → Stands G a tok input (start_config a input)
  pub from_start : (G : Grammar) (a : Automaton) (tok : L → ℕ) (x : Sym) (input : List L) (n : ℕ) → Safe G a → HasStart G x →
      AllByRecursion (λ y. tok y ≢ end_token G) input → IsGood G a tok x input (run G a tok n (start_config a input))
  -- or a run from any stack that does
  pub on : (G : Grammar) (a : Automaton) (tok : L → ℕ) (x : Sym) (input : List L) (n : ℕ) (c : Config L) → Safe G a → HasStart G x →
      Stands G a tok input c → IsGood G a tok x input (run G a tok n c)
  -- after a repair the stack does on the lexemes as repaired
  pub repaired : (G : Grammar) (a : Automaton) (tok : L → ℕ) (make : ℕ → List L → L) (input : List L) (d : Config L) (es : List Edit) →
      Stands G a tok input d → (k : Takes G a tok make d es) → Stands G a tok (stack_yield d.trees ++ (k.put ++ k.left)) (with_rest d (k.put ++ k.left))
  -- so at each error of a parse with repairs it does on the lexemes as repaired so far
  pub errors : (G : Grammar) (a : Automaton) (tok : L → ℕ) (make : ℕ → List L → L) (offers : Config L → List (List Edit)) (x : Sym) (input : List L)
      (r : Option (Tree L)) (errors : List (Config L)) (lexemes : List L) → Safe G a → HasStart G x → AllByRecursion (λ y. tok y ≢ end_token G) input →
      Parses L G a tok make offers (start_config a input) r errors lexemes → AllByRecursion (λ d. Stands G a tok (stack_yield d.trees ++ d.rest) d) errors
