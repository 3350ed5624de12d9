-- A parse under way goes on after a repair, accepts or gives up.
use Rattle.std.proofs.Common.{◌≡◌, ◌≤◌, ◌+◌, ℕ, List, [], ◌∷◌, ◌++◌, length, None, Some, true, false, refl, sym, ◌∙◌, subst, arith, append-nil, length-append}
use Rattle.std.specs.List.{AllByRecursion}
use Rattle.cfg_theory.specs.Grammar.{Grammar}
use Rattle.cfg_theory.specs.Tree.{Tree}
use Rattle.lr_theory.specs.Automaton.{Automaton}
use Rattle.lr_theory.specs.Machine.{Config, accepted, failed, run, start_config}
use Rattle.lr_theory.specs.Stack.{stack_yield}
use Rattle.lr_theory.specs.Repair.{Edit, Takes, with_rest}
use Rattle.lr_theory.specs.HandedRepairs.{ParsesWith, ComesTo}
use Rattle.lr_theory.specs.OfferedRepairs.{AreRepairs}
use Rattle.lr_theory.proofs.HandedRepairs.{handed_is_offered, parses_go_on}
use Rattle.lr_theory.proofs.OfferedRepairs.{repairs_are_offered}
use Rattle.lr_theory.proofs.Repair.{repairs_are_sound}
use Rattle.lr_theory.proofs.RunTermination.{run_append}
use Rattle.state_table.specs.Graphs.{GraphValue}
use Rattle.state_table.specs.TableValues.{TableValue}
use Rattle.state_table.specs.Tables.{automaton_of}
use Rattle.parse_trees.specs.Lex.{Lex, token_by}
use Rattle.lrpar.specs.Parses.{ErrorValue, IsToldError, AllThree, HoldsValue, IsParsed}
use Rattle.lrpar.specs.Parsing.{IsMendedBy, Underway}
use Rattle.lrpar.specs.Run.{StandFor, FailsOn, AcceptsBy}
use Rattle.lrpar.specs.declared.stacks.Stacks.{Stacks}
use Rattle.lrpar.proofs.ParseFacts.{three_long, three_more}

module _ {L : Type 0} (G : Grammar) (a : Automaton) (tok : L → ℕ) (make : ℕ → List L → L) (lexemes : List L) {handed : List (List (List Edit))} {places : List (Config L)} {last : Config L}
    (comes : ComesTo L G a tok make (start_config a lexemes) handed places last) where
  -- before a further failure there were no more than there are lexemes
  few_before : (n : ℕ) (d : Config L) → run G a tok n last ≡ failed d → length places ≤ length lexemes
  few_before n d fails =
      let here = ParsesWith.gives_up n d [] fails tt refl refl refl refl in
      let whole = (parses_go_on L).on G a tok make (start_config a lexemes) last handed ([] ∷ []) places (d ∷ []) None (stack_yield d.trees ++ d.rest) comes here in
      let from = (handed_is_offered L).by_function G a tok make (start_config a lexemes) (handed ++ [] ∷ []) None (places ++ d ∷ []) (stack_yield d.trees ++ d.rest) whole in
      let few = (repairs_are_sound L).few_errors G a tok make from.0 lexemes None (places ++ d ∷ []) (stack_yield d.trees ++ d.rest) from.2 in
      let long : length (places ++ d ∷ []) ≡ length places + 1 = length-append places (d ∷ []) in
      omega (arith, few, long)

  ends_with : (n : ℕ) (t : Tree L) → run G a tok n last ≡ accepted t → ParsesWith L G a tok make (start_config a lexemes) handed (Some t) places (stack_yield last.trees ++ last.rest)
  ends_with n t e =
      let here = ParsesWith.accepts n t e refl refl refl refl in
      let whole = (parses_go_on L).on G a tok make (start_config a lexemes) last handed [] places [] (Some t) (stack_yield last.trees ++ last.rest) comes here in
      subst (λ hs. ParsesWith L G a tok make (start_config a lexemes) hs (Some t) places (stack_yield last.trees ++ last.rest)) (append-nil handed)
      (subst (λ es. ParsesWith L G a tok make (start_config a lexemes) (handed ++ []) (Some t) es (stack_yield last.trees ++ last.rest)) (append-nil places) whole)

  stops_at : (n : ℕ) (d : Config L) (offered : List (List Edit)) → run G a tok n last ≡ failed d → AllByRecursion (λ e. Takes G a tok make d e → ⊥) offered →
      ParsesWith L G a tok make (start_config a lexemes) (handed ++ offered ∷ []) None (places ++ d ∷ []) (stack_yield d.trees ++ d.rest)
  stops_at n d offered fails refused =
      (parses_go_on L).on G a tok make (start_config a lexemes) last handed (offered ∷ []) places (d ∷ []) None (stack_yield d.trees ++ d.rest) comes (ParsesWith.gives_up n d offered fails refused refl refl refl refl)

module _ {S L V : Type 0} (number : S → ℕ) (lex : L → Lex) (G : Grammar) (g : GraphValue) (v : TableValue) (holds : V → List (Tree L) → Type 0) (make : ℕ → List L → L) (answers : ℕ → ℕ → L → List (List Edit) → Type 0) (lexemes : List L) where
  pub begun : (s : Stacks S V) (errors : List (ErrorValue L)) → errors ≡ [] → StandFor number lex G g v holds lexemes s (start_config (automaton_of g v) lexemes) → Underway number lex G g v holds make answers lexemes errors s lexemes
  begun s errors none stand = record {
    handed = [];
    places = [];
    last = start_config (automaton_of g v) lexemes;
    comes = ComesTo.here;
    told = subst (AllThree (IsToldError G (automaton_of g v) (token_by lex) make answers lexemes) [] []) (sym none) tt;
    input = lexemes;
    steps = 0;
    goes = record { config = start_config (automaton_of g v) lexemes; goes = refl; stand = stand; rest_is = refl };
  }

  module _ (errors : List (ErrorValue L)) (s : Stacks S V) (rest : List L) (u : Underway number lex G g v holds make answers lexemes errors s rest) (n : ℕ) where
    pub accepts_with : (values : V) → AcceptsBy lex G g v holds n u.goes.config values → IsParsed G (automaton_of g v) (token_by lex) make answers (HoldsValue (holds values) true) lexemes errors
    accepts_with values k = record {
      handed = u.handed;
      places = u.places;
      tree = Some k.tree;
      repaired = stack_yield u.last.trees ++ u.last.rest;
      parses = ends_with G (automaton_of g v) (token_by lex) make lexemes u.comes (u.steps + n) k.tree (run_append L G (automaton_of g v) (token_by lex) u.steps n u.last u.goes.config u.goes.goes ∙ k.accepts);
      told = u.told;
      gives_tree = k.held;
    }

    module _ (failed_stacks : Stacks S V) (left : List L) (k : FailsOn number lex G g v holds u.input n u.goes.config failed_stacks left) where
      fails_there : run G (automaton_of g v) (token_by lex) (u.steps + n) u.last ≡ failed k.config
      fails_there = run_append L G (automaton_of g v) (token_by lex) u.steps n u.last u.goes.config u.goes.goes ∙ k.fails

      pub few_errors_yet : length errors ≤ length lexemes
      few_errors_yet =
          let few = few_before G (automaton_of g v) (token_by lex) make lexemes u.comes (u.steps + n) k.config fails_there in
          let long = three_long _ u.places u.handed errors u.told in
          omega (arith, few, long)

      module _ (offered : List (List Edit)) (e : ErrorValue L) (told : IsToldError G (automaton_of g v) (token_by lex) make answers lexemes k.config offered e) where
        pub gives_up_with : (values : V) → e.repairs ≡ [] → IsParsed G (automaton_of g v) (token_by lex) make answers (HoldsValue (holds values) false) lexemes (errors ++ e ∷ [])
        gives_up_with values none =
            let are : AreRepairs G (automaton_of g v) (token_by lex) make k.config offered [] = subst (AreRepairs G (automaton_of g v) (token_by lex) make k.config offered) none told.are_repairs in
            let refused = ((repairs_are_offered L).none G (automaton_of g v) (token_by lex) make k.config offered).0 are in
            record {
              handed = u.handed ++ offered ∷ [];
              places = u.places ++ k.config ∷ [];
              tree = None;
              repaired = stack_yield k.config.trees ++ k.config.rest;
              parses = stops_at G (automaton_of g v) (token_by lex) make lexemes u.comes (u.steps + n) k.config offered fails_there refused;
              told = three_more _ u.places u.handed errors k.config offered e u.told told;
              gives_tree = tt;
            }

        pub goes_on_with : (after : Stacks S V) (rest' : List L) → IsMendedBy number lex G g v holds make k.config offered after rest' → Underway number lex G g v holds make answers lexemes (errors ++ e ∷ []) after rest'
        goes_on_with after rest' m = record {
          handed = u.handed ++ offered ∷ [];
          places = u.places ++ k.config ∷ [];
          last = with_rest k.config (m.first.takes.put ++ m.first.takes.left);
          comes = ComesTo.past (u.steps + n) k.config offered m.edits u.comes fails_there m.first;
          told = three_more _ u.places u.handed errors k.config offered e u.told told;
          input = m.input;
          steps = m.steps;
          goes = m.goes;
        }
