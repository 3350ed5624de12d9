-- What a parse by actions comes to.
use Rattle.std.proofs.Common.{◌≡◌, ℕ, Bool, true, false, List, [], ◌∷◌, ◌++◌, map, Option, None, Some, Result, Ok, Err, refl, sym, ap, ◌∙◌, subst}
use Rattle.cfg_theory.specs.Grammar.{Grammar, start_symbol}
use Rattle.cfg_theory.specs.Tree.{Tree, leaf, node, Forest, none, before, IsDerivation}
use Rattle.cfg_theory.specs.Fold.{Span, no_span, span_of, Folds, FoldsAll, fold, fold_all}
use Rattle.lr_theory.specs.Automaton.{Closed, Complete}
use Rattle.lr_theory.specs.Repair.{Edit}
use Rattle.state_table.specs.Graphs.{GraphValue}
use Rattle.state_table.specs.TableValues.{TableValue}
use Rattle.state_table.specs.Tables.{automaton_of}
use Rattle.lrpar.specs.Acting.{acted_by, HasAction}
use Rattle.parse_trees.specs.Lex.{Lex, token_by, span_by}
use Rattle.parse_trees.specs.Lexemes.{IsFirstLexError}
use Rattle.lrpar.specs.Told.{IsToldParse, IsReportedOutcome, HandsOut, IsHandedOut}
use Rattle.lrpar.specs.declared.folded_parse.FoldedOutcome.{FoldedOutcome}
use Rattle.lrpar.specs.declared.folded_parse.FoldedOutcome.TheVariants as folded
use Rattle.lrpar.specs.declared.parse_actions.AStackType.{AStackType}
use Rattle.lrpar.specs.declared.parse_actions.AStackType.TheVariants as args
use Rattle.lrpar.specs.declared.parse_error.ParseError.{ParseError}
use Rattle.examples.specs.Values.{difference, number_in, number_of}
use Rattle.lrpar.specs.declared.default_lexeme.DefaultLexeme.{DefaultLexeme}

oks : {L E : Type 0} → List (Result L E) → List L
oks [] = []
oks (Ok x ∷ rest) = x ∷ oks rest
oks (Err e ∷ rest) = oks rest

oks-map : {L : Type 0} (E : Type 0) (xs : List L) → (let items : List (Result L E) = map Ok xs in oks items) ≡ xs
unfolding oks
oks-map E [] = refl
oks-map E (x ∷ xs) = ap (λ ys. x ∷ ys) (oks-map E xs)

some_fault : {L E : Type 0} → List (Result L E) → Bool
some_fault [] = false
some_fault (Ok x ∷ rest) = some_fault rest
some_fault (Err e ∷ rest) = true

no_fault : {L : Type 0} (E : Type 0) (xs : List L) → (let items : List (Result L E) = map Ok xs in some_fault items) ≡ false
unfolding some_fault
no_fault E [] = refl
no_fault E (x ∷ xs) = no_fault E xs

a_fault : {L E : Type 0} (xs : List L) (e : E) (after : List (Result L E)) → some_fault (map Ok xs ++ Err e ∷ after) ≡ true
unfolding some_fault
a_fault [] e after = refl
a_fault (x ∷ xs) e after = a_fault xs e after

differ : true ≡ false → ⊥
differ e = cc

-- the lexemes of a list are one
one_list : {L E : Type 0} (xs ys : List L) (items : List (Result L E)) → items ≡ map Ok xs → items ≡ map Ok ys → xs ≡ ys
one_list {E = E} xs ys items e f = sym (oks-map E xs) ∙ ap oks (sym e ∙ f) ∙ oks-map E ys

-- a list with a fault isn't one of lexemes
faulty_list : {L E : Type 0} (items : List (Result L E)) (e : E) (xs : List L) → IsFirstLexError items e → items ≡ map Ok xs → ⊥
faulty_list {E = E} items e xs h f = differ (sym (a_fault h.before e h.after) ∙ ap some_fault (sym h.is ∙ f) ∙ no_fault E xs)

abbrev Word : Type 0
Word = DefaultLexeme ℕ

-- what is answered at a production, of its arguments
abbrev acts : List ℕ → ℕ → ℕ → Span → List (AStackType Word ℕ) → ℕ → Type 0
acts line p r at vs v = v ≡ difference p (map (number_in line) vs)

abbrev valued : ℕ → ℕ → Span → List ℕ → ℕ
valued p r at values = difference p values

-- what a tree gives an action comes to the tree's value
module _ (line : List ℕ) (G : Grammar) (at : Word → Span) where
  mutual
    fold_is : (t : Tree Word) → (left : Span) (a : AStackType Word ℕ) → Folds G (acted_by (acts line)) at left t a → number_in line a ≡ fold G (number_of line) valued at left t
    fold_is (leaf x) left a h = ap (number_in line) h
    fold_is (node p ts) left a h = ap (number_in line) h.2.1 ∙ h.2.2 ∙ ap (difference p) (fold_all_is ts left h.0 h.1)

    fold_all_is : (ts : Forest Word) → (left : Span) (vs : List (AStackType Word ℕ)) → FoldsAll G (acted_by (acts line)) at left ts vs → map (number_in line) vs ≡ fold_all G (number_of line) valued at left ts
    fold_all_is none left vs h = ap (map (number_in line)) h
    fold_all_is (before t ts) left vs h = ap (map (number_in line)) h.2 ∙ ap (λ n. n ∷ map (number_in line) h.1) (fold_is t left h.0 h.3) ∙ ap (λ l. fold G (number_of line) valued at left t ∷ l) (fold_all_is ts (span_of at left t) h.1 h.4)

  found_is : (found : Option ℕ) (t : Tree Word) → HasAction G (acts line) at found (Some t) → found ≡ Some (fold G (number_of line) valued at no_span t)
  found_is None t h = absurd h
  found_is (Some v) t h = ap Some (fold_is t no_span (args.ActionType v) h)

-- where the lexemes have a tree and the table lacks no action, the value is that of the tree
module _ {S E : Type 0} (line : List ℕ) (number : S → ℕ) (lex : Word → Lex) (faulty : ℕ → ℕ → ℕ → Word) (G : Grammar) (g : GraphValue) (v : TableValue) (answers : ℕ → ℕ → Word → List (List Edit) → Type 0) (items : List (Result Word E)) (closed : Closed G (automaton_of g v)) (complete : Complete G (automaton_of g v)) (xs : List Word) (t : Tree Word) (are : items ≡ map Ok xs) (derives : IsDerivation G (token_by lex) (start_symbol G) xs t) where
  told_value : (found : Option ℕ) (errors : List (ParseError Word S)) → IsToldParse number lex faulty G g v (HasAction G (acts line) (span_by lex) found) answers items errors → found ≡ Some (fold G (number_of line) valued (span_by lex) no_span t)
  told_value found errors told =
      let P : List Word → Type 0 = λ ys. IsDerivation G (token_by lex) (start_symbol G) ys t in
      let Q : Option (Tree Word) → Type 0 = λ o. HasAction G (acts line) (span_by lex) found o in
      let flawless = told.parse.flawless closed complete t (subst P (one_list xs told.lexemes items are told.are_items) derives) in
      found_is line G (span_by lex) found t (subst Q flawless.is_tree told.parse.parsed.gives_tree)

  outcome_value : {X : Type 0} (fault : E → X) (wrong : ParseError Word S → X) (value : Option ℕ) (errors : List X) → (o : FoldedOutcome S Word E ℕ) → IsReportedOutcome number lex faulty G g v (HasAction G (acts line) (span_by lex)) answers items o → HandsOut fault wrong o value errors → value ≡ Some (fold G (number_of line) valued (span_by lex) no_span t)
  outcome_value fault wrong value errors (folded.Fault e) h k = absurd (faulty_list items e xs h are)
  outcome_value fault wrong value errors (folded.Parsed found es) h k = k.0 ∙ told_value found es.items h

  pub handed_value : {X : Type 0} (fault : E → X) (wrong : ParseError Word S → X) (value : Option ℕ) (errors : List X) → IsHandedOut fault wrong number lex faulty G g v (HasAction G (acts line) (span_by lex)) answers items value errors → value ≡ Some (fold G (number_of line) valued (span_by lex) no_span t)
  handed_value fault wrong value errors h = outcome_value fault wrong value errors h.outcome h.comes_to h.hands_out
