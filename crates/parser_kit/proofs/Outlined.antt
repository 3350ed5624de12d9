-- A parse to an outline without errors: its tree, whose leaves are the lexemes.
use Rattle.std.proofs.Common.{◌≡◌, ℕ, List, [], ◌∷◌, ◌++◌, map, Option, None, Some, Result, refl, sym, ◌∙◌, subst}
use Rattle.cfg_theory.specs.Fold.{Span, no_span}
use Rattle.cfg_theory.specs.Grammar.{Grammar}
use Rattle.cfg_theory.specs.Tree.{Tree, yield}
use Rattle.lr_theory.specs.Automaton.{Automaton}
use Rattle.lr_theory.specs.HandedRepairs.{ParsesWith}
use Rattle.lr_theory.specs.Machine.{Config}
use Rattle.lr_theory.specs.Repair.{Edit}
use Rattle.lr_theory.specs.Stack.{stack_yield}
use Rattle.lrpar.specs.Checked.{ParserValue}
use Rattle.lrpar.specs.FlatParses.{HasFlat}
use Rattle.lrpar.specs.Made.{end_of, made_by}
use Rattle.lrpar.specs.OutlineParses.{HasOutline}
use Rattle.lrpar.specs.Parses.{ErrorValue, IsParse, IsToldError}
use Rattle.lrpar.specs.Told.{as_told, told_of}
use Rattle.lrpar.specs.declared.parse_error.ParseError.{ParseError}
use Rattle.parse_trees.specs.FlatTrees.{flat}
use Rattle.parse_trees.specs.Lex.{Lex, span_by, token_by}
use Rattle.parse_trees.specs.Lexemes.{AreItems}
use Rattle.parse_trees.specs.Outlines.{OutlineValue, IsOutline}
use Rattle.parser_kit.specs.KitParses.{IsExactParse, IsKitParse}
use Rattle.parser_kit.proofs.KitParses.{no_places, told_none}
use Rattle.state_table.specs.Tables.{automaton_of}

-- a parse without errors repairs nothing
nothing_repaired : {L : Type 0} (G : Grammar) (a : Automaton) (tok : L → ℕ) (make : ℕ → List L → L) (c : Config L) (handed : List (List (List Edit))) (r : Option (Tree L)) (places : List (Config L)) (repaired : List L) →
    ParsesWith L G a tok make c handed r places repaired → places ≡ [] → repaired ≡ stack_yield c.trees ++ c.rest
nothing_repaired G a tok make c handed r places repaired (ParsesWith.accepts n t e h s w l) none = l
nothing_repaired G a tok make c handed r places repaired (ParsesWith.gives_up n d offered e refused h s w l) none = cc
nothing_repaired G a tok make c handed r places repaired (ParsesWith.repairs n d offered es further more e first h w p) none = cc

tree_in : {L : Type 0} (v : OutlineValue) (tree : Option (Tree L)) → HasOutline (Some v) tree → (t : Tree L) × (tree ≡ Some t) × IsOutline t v
tree_in v None h = absurd h
tree_in v (Some t) h = (t, refl, h)

-- the same parse, with its tree
abbrev of_tree : {L : Type 0} (G : Grammar) (a : Automaton) (tok : L → ℕ) (make : ℕ → List L → L) (answers : ℕ → ℕ → L → List (List Edit) → Type 0) (gives gives' : Option (Tree L) → Type 0) (lexemes : List L) (found : List (ErrorValue L)) →
    (p : IsExactParse G a tok make answers gives lexemes found) → gives' p.parse.parsed.tree → IsExactParse G a tok make answers gives' lexemes found
of_tree G a tok make answers gives gives' lexemes found e h =
    let p = e.parse in
    record {
      parse = record {
        parsed = record {
          handed = p.parsed.handed;
          places = p.parsed.places;
          tree = p.parsed.tree;
          repaired = p.parsed.repaired;
          parses = p.parsed.parses;
          told = p.parsed.told;
          gives_tree = h;
        };
        derives = p.derives;
        by_repairs = p.by_repairs;
        few = p.few;
        advance = p.advance;
        further = p.further;
        fits = p.fits;
        flawless = p.flawless;
        same_value = p.same_value;
        true_errors = p.true_errors;
      };
      fits = e.fits;
      flawless = e.flawless;
      same_value = e.same_value;
      true_errors = e.true_errors;
    }

pub outlined : {S L E : Type 0} (number : S → ℕ) (lex : L → Lex) (faulty : ℕ → ℕ → ℕ → L) (d : ParserValue) (answers : ℕ → ℕ → L → List (List Edit) → Type 0) (items : List (Result L E)) (v : OutlineValue) (errors : List (ParseError L S)) →
    errors ≡ [] → IsKitParse number lex faulty d answers items (HasOutline (Some v)) errors →
    (t : Tree L) × IsKitParse number lex faulty d answers items (λ r. r ≡ Some t) [] × IsOutline t v × AreItems items (yield t)
outlined number lex faulty d answers items v errors none k =
    let p = k.exact.parse in
    let h = tree_in v p.parsed.tree p.parsed.gives_tree in
    let make = made_by faulty lex (end_of lex k.lexemes) in
    let G = d.grammar.grammar in
    let a = automaton_of d.graph d.table in
    let found_none = told_none (told_of number) (as_told k.lexemes) errors k.found k.told none in
    let placed_none = no_places (IsToldError G a (token_by lex) make answers k.lexemes) p.parsed.places p.parsed.handed k.found p.parsed.told found_none in
    let repaired = nothing_repaired G a (token_by lex) make _ p.parsed.handed p.parsed.tree p.parsed.places p.parsed.repaired p.parsed.parses placed_none in
    let leaves = (p.derives h.0 h.1).yield_is ∙ repaired in
    let Told : List (ParseError _ _) → Type 0 = λ es. map (told_of number) es ≡ map (as_told k.lexemes) k.found in (
      h.0,
      record {
        lexemes = k.lexemes;
        are_items = k.are_items;
        are_lexemes = k.are_lexemes;
        found = k.found;
        exact = of_tree G a (token_by lex) make answers (HasOutline (Some v)) (λ r. r ≡ Some h.0) k.lexemes k.found k.exact h.1;
        told = subst Told none k.told;
      },
      h.2,
      subst (AreItems items) (sym leaves) k.are_items,
    )

-- a parse with this tree has its flat one
pub flat_parsed : {S L E : Type 0} (number : S → ℕ) (lex : L → Lex) (faulty : ℕ → ℕ → ℕ → L) (d : ParserValue) (answers : ℕ → ℕ → L → List (List Edit) → Type 0) (items : List (Result L E)) (at : L → Span) (t : Tree L) (errors : List (ParseError L S)) →
    IsKitParse number lex faulty d answers items (λ r. r ≡ Some t) errors → IsKitParse number lex faulty d answers items (HasFlat at (Some (record { pieces = flat at no_span t }))) errors
flat_parsed number lex faulty d answers items at t errors k =
    let make = made_by faulty lex (end_of lex k.lexemes) in
    let value = HasFlat at (Some (record { pieces = flat at no_span t })) in
    record {
      lexemes = k.lexemes;
      are_items = k.are_items;
      are_lexemes = k.are_lexemes;
      found = k.found;
      exact = of_tree d.grammar.grammar (automaton_of d.graph d.table) (token_by lex) make answers (λ r. r ≡ Some t) value k.lexemes k.found k.exact (subst value (sym k.exact.parse.parsed.gives_tree) (record { pieces_are = refl }));
      told = k.told;
    }
