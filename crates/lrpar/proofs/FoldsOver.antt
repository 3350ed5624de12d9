-- Values by functions as values by others.
use Rattle.std.proofs.Common.{◌≡◌, ℕ, List, Option, None, Some, refl, sym, ◌∙◌, subst}
use Rattle.std.specs.Prelude.{option_map, IfOk, Result, Ok, Err, Vec}
use Rattle.std.specs.declared.alloc.AllocError.{AllocError}
use Rattle.std.specs.declared.alloc.Global.{Global}
use Rattle.cfg_base.specs.SpanModel.{SpanModel}
use Rattle.cfg_base.specs.declared.symbol.PIdx.{PIdx}
use Rattle.cfg_base.specs.declared.symbol.RIdx.{RIdx}
use Rattle.cfg_theory.specs.Grammar.{rule, Grammar, WellFormed, head_of, start_symbol}
use Rattle.cfg_theory.proofs.Start.{start_symbol_is}
use Rattle.cfg_theory.specs.Tree.{Tree, leaf, node, Forest, none, before, root}
use Rattle.cfg_theory.specs.Fold.{Span, no_span, span_of, span_over, Answers, Folds, FoldsAll}
use Rattle.lr_theory.specs.Repair.{Edit}
use Rattle.state_table.specs.Graphs.{GraphValue}
use Rattle.state_table.specs.TableValues.{TableValue}
use Rattle.state_table.specs.Tables.{automaton_of}
use Rattle.lrpar.specs.Acting.{acted_by, action_in, HasAction}
use Rattle.parse_trees.specs.Lex.{Lex, token_by, span_by}
use Rattle.lrpar.specs.Made.{end_of, made_by}
use Rattle.lrpar.specs.Parses.{HasValue}
use Rattle.parse_trees.specs.Stacks.{span_of_places}
use Rattle.lrpar.specs.Told.{IsToldParse, IsReportedOutcome, IsFoldedOutcome}
use Rattle.lrpar.specs.declared.folded_parse.FoldedOutcome.{FoldedOutcome}
use Rattle.lrpar.specs.declared.folded_parse.FoldedOutcome.TheVariants as folded
use Rattle.lrpar.specs.declared.parse_actions.AStackType.{AStackType}
use Rattle.lrpar.specs.declared.parse_actions.AStackType.TheVariants as args
use Rattle.lrpar.specs.declared.parse_error.ParseError.{ParseError}
use Rattle.lrpar.proofs.Valued.{parse_gives_at}

-- what holds of each lexeme and of each node from its children's on holds of a value that a tree folds to
module _ {L V : Type 0} (G : Grammar) (by by' : Answers L V) (at : L → Span) (term : (x : L) (v : V) → by.term x v → by'.term x v) (says : (p r : ℕ) (s : Span) (vs : List V) (v : V) → by.says p r s vs v → by'.says p r s vs v) where
  mutual
    pub folds_over : (t : Tree L) → (left : Span) (v : V) → Folds G by at left t v → Folds G by' at left t v
    folds_over (leaf x) left v h = term x v h
    folds_over (node p ts) left v h = (h.0, all_fold_over ts left h.0 h.1, says p (head_of G p) (span_over at left ts) h.0 v h.2)

    all_fold_over : (ts : Forest L) → (left : Span) (vs : List V) → FoldsAll G by at left ts vs → FoldsAll G by' at left ts vs
    all_fold_over none left vs h = h
    all_fold_over (before t ts) left vs h = (h.0, h.1, h.2, folds_over t left h.0 h.3, all_fold_over ts (span_of at left t) h.1 h.4)

  pub value_over : (value : Option V) (tree : Option (Tree L)) → HasValue G by at value tree → HasValue G by' at value tree
  value_over None None h = tt
  value_over (Some v) None h = absurd h
  value_over None (Some t) h = absurd h
  value_over (Some v) (Some t) h = folds_over t no_span v h

-- what stands for a tree whose root is a rule is what an action answered
module _ {L U : Type 0} (G : Grammar) (answers : ℕ → ℕ → Span → List (AStackType L U) → U → Type 0) (at : L → Span) where
  answered : (t : Tree L) (v : AStackType L U) → Folds G (acted_by answers) at no_span t v → (A : ℕ) (tok : L → ℕ) → root G tok t ≡ rule A → option_map args.ActionType (action_in (Some v)) ≡ Some v
  answered (leaf x) v h A tok e = cc
  answered (node p ts) (args.ActionType u) h A tok e = refl
  answered (node p ts) (args.Lexeme x) h A tok e = let is = h.2.1 in cc

  pub action_value : (value : Option (AStackType L U)) (tree : Option (Tree L)) → (A : ℕ) (tok : L → ℕ) → ((t : Tree L) → tree ≡ Some t → root G tok t ≡ rule A) → HasValue G (acted_by answers) at value tree → HasAction G answers at (action_in value) tree
  action_value None None A tok roots h = tt
  action_value (Some v) None A tok roots h = absurd h
  action_value None (Some t) A tok roots h = absurd h
  action_value (Some v) (Some t) A tok roots h = subst (λ o. HasValue G (acted_by answers) at o (Some t)) (sym (answered t v h A tok (roots t refl))) h

-- a parse that is told says as much of what its tree gives
module _ {S L E : Type 0} (number : S → ℕ) (lex : L → Lex) (faulty : ℕ → ℕ → ℕ → L) (G : Grammar) (g : GraphValue) (v : TableValue) (answers : ℕ → ℕ → L → List (List Edit) → Type 0) (items : List (Result L E)) where
  pub told_gives : (gives gives' : Option (Tree L) → Type 0) (errors : List (ParseError L S)) → ((tree : Option (Tree L)) → ((t : Tree L) → tree ≡ Some t → root G (token_by lex) t ≡ start_symbol G) → gives tree → gives' tree) →
      IsToldParse number lex faulty G g v gives answers items errors → IsToldParse number lex faulty G g v gives' answers items errors
  told_gives gives gives' errors f p = record {
    lexemes = p.lexemes;
    are_items = p.are_items;
    are_lexemes = p.are_lexemes;
    found = p.found;
    parse = parse_gives_at G (automaton_of g v) (token_by lex) (made_by faulty lex (end_of lex p.lexemes)) answers gives gives' p.lexemes p.found p.parse
        (f p.parse.parsed.tree (λ t e. (p.parse.derives t e).root_is) p.parse.parsed.gives_tree);
    told = p.told;
  }

  pub outcome_gives : {V : Type 0} (gives gives' : Option V → Option (Tree L) → Type 0) → ((value : Option V) (tree : Option (Tree L)) → gives value tree → gives' value tree) → (o : FoldedOutcome S L E V) →
      IsReportedOutcome number lex faulty G g v gives answers items o → IsReportedOutcome number lex faulty G g v gives' answers items o
  outcome_gives gives gives' f (folded.Fault e) h = h
  outcome_gives gives gives' f (folded.Parsed value errors) h = told_gives (gives value) (gives' value) errors.items (λ tree roots k. f value tree k) h

  -- so does one whose values actions gave
  pub told_acted : {U : Type 0} (by : Answers L (AStackType L U)) (acts : ℕ → ℕ → Span → List (AStackType L U) → U → Type 0) (value : Option (AStackType L U)) (value' : Option U) (errors : List (ParseError L S)) →
      IsToldParse number lex faulty G g v (HasValue G by (span_by lex) value) answers items errors → WellFormed G → value' ≡ action_in value →
      ((x : L) (u : AStackType L U) → by.term x u → (acted_by acts).term x u) → ((p r : ℕ) (s : Span) (us : List (AStackType L U)) (u : AStackType L U) → by.says p r s us u → (acted_by acts).says p r s us u) →
      IsToldParse number lex faulty G g v (HasAction G acts (span_by lex) value') answers items errors
  told_acted by acts value value' errors h good is term says =
      told_gives (HasValue G by (span_by lex) value) (HasAction G acts (span_by lex) value') errors
      (λ tree roots k. subst (λ u. HasAction G acts (span_by lex) u tree) (sym is)
      (action_value G acts (span_by lex) value tree good.start_rule.0 (token_by lex) (λ t e. roots t e ∙ start_symbol_is G good)
      (value_over G by (acted_by acts) (span_by lex) term says value tree k)))
      h

pub ok_same : {A : Type 0} (x y : A) → (let r : Result A AllocError = Ok x in r) ≡ Ok y → x ≡ y
ok_same x y e = cc

-- what a function of productions, rules, spans and values answers is what an action answers
pub acted_at : {S L U : Type 0} (number : S → ℕ) (acts : ℕ → ℕ → Span → List (AStackType L U) → U → Type 0) (p r : ℕ) (s : Span) (us : List (AStackType L U)) (u : AStackType L U) (i : PIdx S) (j : RIdx S) (at : SpanModel) (vs : Vec (AStackType L U) Global) →
    number i.0 ≡ p → number j.0 ≡ r → span_of_places at ≡ s → vs.items ≡ us → (w : U) × (u ≡ args.ActionType w) × acts (number i.0) (number j.0) (span_of_places at) vs.items w → (acted_by acts).says p r s us u
acted_at number acts p r s us u i j at vs a b c d h = (
  h.0,
  h.1,
  subst (λ q. acts q r s us h.0) a
      (subst (λ q. acts (number i.0) q s us h.0) b
      (subst (λ q. acts (number i.0) (number j.0) q us h.0) c
      (subst (λ q. acts (number i.0) (number j.0) (span_of_places at) q h.0) d h.2))),
)

-- the same of an outcome that is answered
module _ {S L E F : Type 0} (number : S → ℕ) (lex : L → Lex) (faulty : ℕ → ℕ → ℕ → L) (G : Grammar) (g : GraphValue) (v : TableValue) (answers : ℕ → ℕ → L → List (List Edit) → Type 0) (items : List (Result L E)) where
  pub results_over : {V : Type 0} (by by' : Answers L V) (r : Result (FoldedOutcome S L E V) F) → IfOk r (IsFoldedOutcome number lex faulty G g v by answers items) →
      ((x : L) (u : V) → by.term x u → by'.term x u) → ((p n : ℕ) (s : Span) (us : List V) (u : V) → by.says p n s us u → by'.says p n s us u) →
      IfOk r (IsFoldedOutcome number lex faulty G g v by' answers items)
  results_over by by' (Ok o) h term says = outcome_gives number lex faulty G g v answers items (HasValue G by (span_by lex)) (HasValue G by' (span_by lex)) (value_over G by by' (span_by lex) term says) o h
  results_over by by' (Err e) h term says = h
