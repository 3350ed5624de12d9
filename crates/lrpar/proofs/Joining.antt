-- Runs on stacks, one after another.
use Rattle.std.proofs.Common.{◌≡◌, ◌≢◌, ℕ, ◌+◌, ◌<◌, suc, List, [], ◌∷◌, Some, reverse, ◌∙◌, refl, sym, ap, arith}
use Rattle.std.specs.Prelude.{slice_get}
use Rattle.std.specs.List.{AllByRecursion}
use Rattle.cfg_theory.specs.Grammar.{Grammar, WellFormed, start_symbol, end_token}
use Rattle.cfg_theory.proofs.Start.{well_formed_start}
use Rattle.lr_theory.specs.Automaton.{Safe}
use Rattle.lr_theory.proofs.Sound.{start_stands}
use Rattle.cfg_theory.specs.Tree.{Tree}
use Rattle.lr_theory.specs.Machine.{Config, failed, run, start_config}
use Rattle.lr_theory.proofs.RunTermination.{run_append}
use Rattle.state_table.specs.Graphs.{GraphValue}
use Rattle.state_table.specs.TableValues.{TableValue}
use Rattle.parse_trees.specs.Lex.{Lex, token_by}
use Rattle.state_table.specs.Tables.{automaton_of}
use Rattle.lrpar.specs.Run.{StandFor, GoesOn, AcceptsBy, FailsOn}
use Rattle.parse_trees.specs.Lexemes.{AreLexemes}
use Rattle.lrpar.specs.Reducing.{states_of}
use Rattle.lrpar.specs.declared.stacks.Stacks.{Stacks}

module _ {S L V : Type 0} (number : S → ℕ) (lex : L → Lex) (G : Grammar) (g : GraphValue) (v : TableValue) (holds : V → List (Tree L) → Type 0) (input : List L) where
  pub goes_none : (d : Config L) (s : Stacks S V) (rest : List L) → StandFor number lex G g v holds input s d → d.rest ≡ rest → GoesOn number lex G g v holds input 0 d s rest
  goes_none d s rest stand is = record { config = d; goes = refl; stand = stand; rest_is = is }

  -- the lexemes to come under another name
  pub rest_same : (steps : ℕ) (d : Config L) (s : Stacks S V) (xs ys : List L) → xs ≡ ys → GoesOn number lex G g v holds input steps d s xs → GoesOn number lex G g v holds input steps d s ys
  rest_same steps d s xs ys e k = record { config = k.config; goes = k.goes; stand = k.stand; rest_is = k.rest_is ∙ e }

  pub fails_same : (steps : ℕ) (d : Config L) (s : Stacks S V) (xs ys : List L) → xs ≡ ys → FailsOn number lex G g v holds input steps d s xs → FailsOn number lex G g v holds input steps d s ys
  fails_same steps d s xs ys e k = record { config = k.config; fails = k.fails; stand = k.stand; rest_is = k.rest_is ∙ e }

  module _ (steps : ℕ) (d : Config L) (s : Stacks S V) (rest : List L) (k : GoesOn number lex G g v holds input steps d s rest) where
    pub goes_more : (n : ℕ) (s' : Stacks S V) (rest' : List L) → GoesOn number lex G g v holds input n k.config s' rest' → GoesOn number lex G g v holds input (steps + n) d s' rest'
    goes_more n s' rest' j = record { config = j.config; goes = run_append L G (automaton_of g v) (token_by lex) steps n d k.config k.goes ∙ j.goes; stand = j.stand; rest_is = j.rest_is }

    pub accepts_more : (n : ℕ) (values : V) → AcceptsBy lex G g v holds n k.config values → AcceptsBy lex G g v holds (steps + n) d values
    accepts_more n values j = record { tree = j.tree; accepts = run_append L G (automaton_of g v) (token_by lex) steps n d k.config k.goes ∙ j.accepts; held = j.held }

    pub fails_more : (n : ℕ) (s' : Stacks S V) (rest' : List L) → FailsOn number lex G g v holds input n k.config s' rest' → FailsOn number lex G g v holds input (steps + n) d s' rest'
    fails_more n s' rest' j = record { config = j.config; fails = run_append L G (automaton_of g v) (token_by lex) steps n d k.config k.goes ∙ j.fails; stand = j.stand; rest_is = j.rest_is }

    pub fails_now : (s' : Stacks S V) → run G (automaton_of g v) (token_by lex) 1 k.config ≡ failed k.config → StandFor number lex G g v holds input s' k.config → FailsOn number lex G g v holds input (steps + 1) d s' rest
    fails_now s' e stand = record { config = k.config; fails = run_append L G (automaton_of g v) (token_by lex) steps 1 d k.config k.goes ∙ e; stand = stand; rest_is = k.rest_is }

no_end_of : {L : Type 0} (tok : L → ℕ) (e : ℕ) (xs : List L) → ((k : ℕ) (x : L) → slice_get xs k ≡ Some x → tok x < e) → AllByRecursion (λ y. tok y ≢ e) xs
no_end_of tok e [] h = tt
no_end_of tok e (x ∷ xs) h = let lt = h 0 x refl in (λ same. omega (arith, lt, same), no_end_of tok e xs (λ k y s. h (suc k) y s))

module _ {S L V : Type 0} (number : S → ℕ) (lex : L → Lex) (G : Grammar) (g : GraphValue) (v : TableValue) (holds : V → List (Tree L) → Type 0) (well_formed : WellFormed G) (safe : Safe G (automaton_of g v)) (lexemes : List L) (are : AreLexemes G lex lexemes) where
  -- the stacks of the start stand for the machine's start
  pub start_stand : (s : Stacks S V) (start : ℕ) → states_of number s.states.items ≡ start ∷ [] → start ≡ g.start → holds s.values [] → StandFor number lex G g v holds lexemes s (start_config (automaton_of g v) lexemes)
  start_stand s start is same held = record {
    states = ap (λ q. q ∷ []) (sym same) ∙ ap reverse (sym is);
    stands = start_stands L G (automaton_of g v) (token_by lex) safe (start_symbol G) (well_formed_start G well_formed) lexemes (no_end_of (token_by lex) (end_token G) lexemes are.inside);
    held = held;
  }
