-- What a machine reaches stands.
use Rattle.std.proofs.Common.{◌≡◌, ℕ, List, [], ◌++◌, Option, refl, sym, subst}
use Rattle.std.specs.List.{AllByRecursion}
use Rattle.cfg_theory.specs.Grammar.{Sym, Grammar, HasStart}
use Rattle.cfg_theory.specs.Tree.{Tree}
use Rattle.lr_theory.specs.Automaton.{Automaton, Safe}
use Rattle.lr_theory.specs.Machine.{Config, failed, run}
use Rattle.lr_theory.specs.Stack.{stack_yield, Stands, IsGood}
use Rattle.lr_theory.specs.Repair.{Edit, Parses, accepts, gives_up, repairs}
use Rattle.lr_theory.specs.StackInvariant.{StacksStand}
use Rattle.lr_theory.proofs.Sound.{run_is_good, start_stands}
use Rattle.lr_theory.proofs.Repair.{stands_on}

module _ (L : Type 0) (G : Grammar) (a : Automaton) (tok : L → ℕ) (make : ℕ → List L → L) (offers : Config L → List (List Edit)) (x : Sym) (safe : Safe G a) (has_start : HasStart G x) where
  -- on what it spells
  spelt : (input : List L) (d : Config L) → Stands G a tok input d → Stands G a tok (stack_yield d.trees ++ d.rest) d
  spelt input d h = record { path = h.path; are_trees = h.are_trees; spells = refl; no_end = h.no_end }

  error_stands : (input : List L) (n : ℕ) (c d : Config L) → run G a tok n c ≡ failed d → Stands G a tok input c → Stands G a tok input d
  error_stands input n c d e h = subst (IsGood G a tok x input) e (run_is_good L G a tok safe x has_start input n c h)

  abbrev Standing : List (Config L) → Type 0
  Standing errors = AllByRecursion (λ d. Stands G a tok (stack_yield d.trees ++ d.rest) d) errors

  errors_stand : {c : Config L} {r : Option (Tree L)} {errors : List (Config L)} {lexemes : List L} → Parses L G a tok make offers c r errors lexemes → (input : List L) → Stands G a tok input c → Standing errors
  errors_stand (accepts n t h i j k) input stands = subst Standing (sym j) tt
  errors_stand {c} (gives_up n d h i j k l) input stands = subst Standing (sym k) (spelt input d (error_stands input n c d h stands), tt)
  errors_stand {c} (repairs n d es more h first j p) input stands =
      let here = error_stands input n c d h stands in
      subst Standing (sym j) (spelt input d here, errors_stand p (stack_yield d.trees ++ (first.takes.put ++ first.takes.left)) (stands_on L G a tok make offers input d es first.takes here))

pub stacks_stand : (L : Type 0) → StacksStand L
stacks_stand L = record {
  start = λ G a tok input no_end. record { path = refl; are_trees = tt; spells = refl; no_end = no_end };
  from_start = λ G a tok x input n safe has no_end. run_is_good L G a tok safe x has input n _ (start_stands L G a tok safe x has input no_end);
  on = λ G a tok x input n c safe has stands. run_is_good L G a tok safe x has input n c stands;
  repaired = λ G a tok make input d es stands k. stands_on L G a tok make (λ c. []) input d es k stands;
  errors = λ G a tok make offers x input r errors lexemes safe has no_end p. errors_stand L G a tok make offers x safe has p input (start_stands L G a tok safe x has input no_end);
}
