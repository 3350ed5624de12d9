-- Values of parses.
use Rattle.std.proofs.Common.{◌≡◌, ◌<◌, ◌+◌, ℕ, zero, suc, List, [], ◌∷◌, ◌++◌, length, map, take, get_or, Option, None, Some, Bool, true, refl, sym, ap, ◌∙◌, subst, arith}
use Rattle.cfg_theory.specs.Grammar.{Grammar}
use Rattle.cfg_theory.specs.Tree.{Tree}
use Rattle.cfg_theory.specs.Fold.{Span, no_span, Answers, Folds}
use Rattle.lr_theory.specs.Automaton.{Automaton}
use Rattle.lr_theory.specs.Repair.{Edit}
use Rattle.lrpar.specs.Parses.{ErrorValue, HasValue, HoldsValue, IsParse}
use Rattle.lrpar.specs.Parsing.{error_of, errors_of}
use Rattle.cfg_base.specs.SpanModel.{SpanModel}
use Rattle.parse_trees.specs.Stacks.{FoldedStand}
use Rattle.lrpar.specs.Told.{told_of, as_told}
use Rattle.lrpar.specs.declared.parse.ErrorFound.{ErrorFound}
use Rattle.lrpar.specs.declared.parse_error.ParseError.{ParseError}

-- the value of the one tree on a stack
pub value_of_tree : {L V : Type 0} (G : Grammar) (by : Answers L V) (at : L → Span) (stands : List (Tree L) → Type 0) (value : Option V) →
    ((t : Tree L) → stands (t ∷ []) → (v : V) × (value ≡ Some v) × Folds G by at no_span t v) → (tree : Option (Tree L)) → HoldsValue stands true tree → HasValue G by at value tree
value_of_tree G by at stands value f None h = absurd h
value_of_tree G by at stands value f (Some t) h =
    let k = f t h in
    subst (λ r. HasValue G by at r (Some t)) (sym k.1) k.2

pub value_where : {L V : Type 0} (G : Grammar) (by : Answers L V) (at : L → Span) (stands : List (Tree L) → Type 0) (value : Option V) (accepted : Bool) → accepted ≡ true →
    ((t : Tree L) → stands (t ∷ []) → (v : V) × (value ≡ Some v) × Folds G by at no_span t v) → (tree : Option (Tree L)) → HoldsValue stands accepted tree → HasValue G by at value tree
value_where G by at stands value accepted e f tree h = value_of_tree G by at stands value f tree (subst (λ b. HoldsValue stands b tree) e h)

pub value_folded : {L V : Type 0} (term nonterm : Type 0) (G : Grammar) (by : Answers L V) (at : L → Span) (values : List V) (spans : List SpanModel) (value : Option V) (accepted : Bool) → accepted ≡ true →
    ((t : Tree L) → FoldedStand term nonterm G by at values spans (t ∷ []) → (v : V) × (value ≡ Some v) × Folds G by at no_span t v) → (tree : Option (Tree L)) → HoldsValue (FoldedStand term nonterm G by at values spans) accepted tree → HasValue G by at value tree
value_folded term nonterm G by at values spans value accepted e f tree h = value_where G by at (FoldedStand term nonterm G by at values spans) value accepted e f tree h

take_one : {X : Type 0} (xs : List X) (k : ℕ) (x : X) → k < length xs → x ≡ get_or xs k x → take (k + 1) xs ≡ take k xs ++ x ∷ []
take_one [] k x lt e = absurd (omega (arith, lt))
take_one (y ∷ xs) zero x lt e = let z : take 0 xs ≡ [] = refl in ap (λ w. w ∷ take 0 xs) (sym e) ∙ ap (λ l. x ∷ l) z
take_one (y ∷ xs) (suc k) x lt e =
    let n : suc k + 1 ≡ suc (k + 1) = omega arith in
    ap (λ j. take j (y ∷ xs)) n ∙ ap (λ l. y ∷ l) (take_one xs k x (omega (arith, lt)) e)

map_one : {X Y : Type 0} (f : X → Y) (xs : List X) (x : X) → map f (xs ++ x ∷ []) ≡ map f xs ++ f x ∷ []
map_one f [] x = refl
map_one f (y ∷ xs) x = ap (λ l. f y ∷ l) (map_one f xs x)

-- one error more is told
pub told_more : {S L : Type 0} (number : S → ℕ) (lexemes : List L) (xs : List (ErrorFound S L)) (k : ℕ) (x : ErrorFound S L) (ts ts' : List (ParseError L S)) (p : ParseError L S) →
    map (told_of number) ts ≡ map (as_told lexemes) (errors_of number (take k xs)) → k < length xs → x ≡ get_or xs k x → told_of number p ≡ as_told lexemes (error_of number x) → ts' ≡ ts ++ p ∷ [] →
    map (told_of number) ts' ≡ map (as_told lexemes) (errors_of number (take (k + 1) xs))
told_more number lexemes xs k x ts ts' p so lt is told e =
    let longer = take_one xs k x lt is in
    ap (map (told_of number)) e ∙ map_one (told_of number) ts p
    ∙ ap (λ l. l ++ told_of number p ∷ []) so
    ∙ ap (λ t. map (as_told lexemes) (errors_of number (take k xs)) ++ t ∷ []) told
    ∙ sym (ap (λ l. map (as_told lexemes) (errors_of number l)) longer ∙ ap (map (as_told lexemes)) (map_one (error_of number) (take k xs) x) ∙ map_one (as_told lexemes) (errors_of number (take k xs)) (error_of number x))

-- what its tree gives is all that a parse says by it
pub parse_gives_at : {L : Type 0} (G : Grammar) (a : Automaton) (tok : L → ℕ) (make : ℕ → List L → L) (answers : ℕ → ℕ → L → List (List Edit) → Type 0) (gives gives' : Option (Tree L) → Type 0) (lexemes : List L) (errors : List (ErrorValue L)) →
    (p : IsParse G a tok make answers gives lexemes errors) → gives' p.parsed.tree → IsParse G a tok make answers gives' lexemes errors
parse_gives_at G a tok make answers gives gives' lexemes errors p k = record {
  parsed = record { handed = p.parsed.handed; places = p.parsed.places; tree = p.parsed.tree; repaired = p.parsed.repaired; parses = p.parsed.parses; told = p.parsed.told; gives_tree = k };
  derives = p.derives;
  by_repairs = p.by_repairs;
  few = p.few;
  advance = p.advance;
  further = p.further;
  fits = p.fits;
  flawless = p.flawless;
  same_value = p.same_value;
  true_errors = p.true_errors;
}

-- a parse says as much of what its tree gives
pub parse_gives : {L : Type 0} (G : Grammar) (a : Automaton) (tok : L → ℕ) (make : ℕ → List L → L) (answers : ℕ → ℕ → L → List (List Edit) → Type 0) (gives gives' : Option (Tree L) → Type 0) (lexemes : List L) (errors : List (ErrorValue L)) →
    ((tree : Option (Tree L)) → gives tree → gives' tree) → IsParse G a tok make answers gives lexemes errors → IsParse G a tok make answers gives' lexemes errors
parse_gives G a tok make answers gives gives' lexemes errors f p = parse_gives_at G a tok make answers gives gives' lexemes errors p (f p.parsed.tree p.parsed.gives_tree)
