-- A parse without errors has a tree.
use Rattle.std.proofs.Common.{◌≡◌, ℕ, ◌<◌, List, [], ◌∷◌, map, length, Option, None, Some, Result, refl, sym, true≢false}
use Rattle.std.specs.List.{AllByRecursion}
use Rattle.std.specs.Prelude.{IsSome}
use Rattle.cfg_theory.specs.Fold.{Span}
use Rattle.cfg_theory.specs.Tree.{Tree}
use Rattle.lr_theory.specs.Repair.{Edit}
use Rattle.lrpar.specs.Checked.{ParserValue}
use Rattle.lrpar.specs.FlatParses.{HasFlat}
use Rattle.lrpar.specs.Told.{as_told, told_of}
use Rattle.lrpar.specs.declared.parse_error.ParseError.{ParseError}
use Rattle.parse_trees.specs.Lex.{Lex, span_by}
use Rattle.parser_kit.specs.KitParses.{IsKitParse}
use Rattle.lrkit_c.specs.Nodes.{TextLexeme}
use Rattle.lrkit_c.specs.Parses.{first_lexeme}

pub no_first : (errors : List (ParseError TextLexeme ℕ)) → first_lexeme errors ≡ None → errors ≡ []
no_first [] e = refl
no_first (x ∷ xs) e = cc

no_found : {X Y Z : Type 0} (f : X → Z) (g : Y → Z) (errors : List X) (found : List Y) → errors ≡ [] → map f errors ≡ map g found → found ≡ []
no_found f g errors [] none e = refl
no_found f g [] (y ∷ ys) none e = cc
no_found f g (x ∷ xs) (y ∷ ys) none e = cc

all_of_none : {X : Type 0} (P : X → Type 0) (xs : List X) → xs ≡ [] → AllByRecursion P xs
all_of_none P [] e = tt
all_of_none P (x ∷ xs) e = cc

not_some : {L : Type 0} (at : L → Span) (tree : Option (Tree L)) → IsSome tree → HasFlat at None tree → ⊥
not_some at None some gives = absurd (true≢false (sym some))
not_some at (Some t) some gives = absurd gives

pub has_tree : {S L E : Type 0} (number : S → ℕ) (lex : L → Lex) (faulty : ℕ → ℕ → ℕ → L) (d : ParserValue) (answers : ℕ → ℕ → L → List (List Edit) → Type 0) (items : List (Result L E)) (errors : List (ParseError L S)) →
    IsKitParse number lex faulty d answers items (HasFlat (span_by lex) None) errors → errors ≡ [] → ⊥
has_tree number lex faulty d answers items errors k none =
    let parse = k.exact.parse in
    let no_errors = no_found (told_of number) (as_told k.lexemes) errors k.found none k.told in
    not_some (span_by lex) parse.parsed.tree (parse.by_repairs.1 (all_of_none (λ e. 0 < length e.repairs) k.found no_errors)) parse.parsed.gives_tree
