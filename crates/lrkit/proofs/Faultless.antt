-- The tree of a line without errors: its lexemes are the line's, it can be shown, and its text is the line's.
use Rattle.std.proofs.Common.{◌≡◌, ℕ, ◌++◌, false, Option, Some, None, List, [], ◌∷◌, length, map, refl, sym, ◌∙◌, subst, arith, inr, IsUtf8}
use Rattle.std.specs.Prelude.{IfSome, Result}
use Rattle.std.specs.List.{AllByRecursion}
use Rattle.byte_streams.specs.Sink.{BeginningWritten, IsOutBut}
use Rattle.cfg_numbered.specs.Value.{GrammarValue}
use Rattle.cfg_theory.specs.Grammar.{Grammar, WellFormed}
use Rattle.cfg_theory.specs.Tree.{Tree, yield}
use Rattle.lr_theory.specs.Automaton.{Automaton}
use Rattle.lr_theory.specs.HandedRepairs.{ParsesWith}
use Rattle.lr_theory.specs.Machine.{Config, start_config}
use Rattle.lr_theory.specs.Repair.{Edit}
use Rattle.lr_theory.specs.Stack.{stack_yield}
use Rattle.state_table.specs.Tables.{automaton_of}
use Rattle.parse_trees.specs.FlatLines.{CanShowTree}
use Rattle.parse_trees.specs.Lex.{token_by}
use Rattle.parse_trees.specs.Lexemes.{AreItems}
use Rattle.parse_trees.specs.Outlines.{OutlineValue, IsOutline}
use Rattle.lrpar.specs.Checked.{ParserValue}
use Rattle.lrpar.specs.Made.{end_of, made_by}
use Rattle.lrpar.specs.OutlineParses.{HasOutline}
use Rattle.lrpar.specs.Parses.{AllThree, IsParse, IsToldError}
use Rattle.lrpar.specs.Told.{as_told, told_of}
use Rattle.lrpar.specs.declared.parse_error.ParseError.{ParseError}
use Rattle.parser_kit.specs.KitParses.{IsKitParse}
use Rattle.word_lines.specs.Lexing.{items_of, lex_of}
use Rattle.word_lines.specs.LineTexts.{value_text}
use Rattle.word_lines.specs.ShownTexts.{FitsText, ParsesCanBeShown}
use Rattle.word_lines.specs.declared.lexeme.WordLexError.{WordLexError}
use Rattle.lrkit.specs.LineSteps.{IsFaultless}
use Rattle.lrkit.specs.Output.{LineText, Word, id, made_up, parsed_text}
use Rattle.lrkit.specs.Writing.{BeginsLine, LeavesLine}
use Rattle.lrkit.proofs.ShownLines.{HandsIn, top_of, within}

pub none_of : {A : Type 0} (xs : List A) → length xs ≡ 0 → xs ≡ []
none_of [] e = refl
none_of (x ∷ xs) e = absurd (omega (arith, e))

-- no errors, none found
none_found : {A B C : Type 0} (f : A → C) (g : B → C) (ys : List B) → map f [] ≡ map g ys → ys ≡ []
none_found f g [] e = refl
none_found f g (y ∷ ys) e = cc

-- none found, no places
no_places : {A B C : Type 0} (P : A → B → C → Type 0) (xs : List A) (ys : List B) (zs : List C) → AllThree P xs ys zs → zs ≡ [] → xs ≡ []
no_places P [] ys zs h e = refl
no_places P (x ∷ xs) [] zs h e = absurd h
no_places P (x ∷ xs) (y ∷ ys) [] h e = absurd h
no_places P (x ∷ xs) (y ∷ ys) (z ∷ zs) h e = cc

-- no places, nothing is repaired
unrepaired : {L : Type 0} (G : Grammar) (a : Automaton) (tok : L → ℕ) (make : ℕ → List L → L) (c : Config L) (handed : List (List (List Edit))) (r : Option (Tree L)) (places : List (Config L)) (repaired : List L) →
    ParsesWith L G a tok make c handed r places repaired → places ≡ [] → repaired ≡ stack_yield c.trees ++ c.rest
unrepaired G a tok make c handed r places repaired (ParsesWith.accepts n t e h s w l) none = l
unrepaired G a tok make c handed r places repaired (ParsesWith.gives_up n d offered e refused h s w l) none = cc
unrepaired G a tok make c handed r places repaired (ParsesWith.repairs n d offered es further more e first h w p) none = cc

-- a parse with an outline has a tree
some_outline : {L : Type 0} (v : OutlineValue) (o : Option (Tree L)) → HasOutline (Some v) o → (t : Tree L) × (o ≡ Some t) × IsOutline t v
some_outline v None h = absurd h
some_outline v (Some t) h = (t, refl, h)

module _ (k : ParserValue) (repairs : List (List Edit)) where
  -- a line's parse without errors, and the outline of its tree
  of_outline : (items : List (Result Word WordLexError)) (v : OutlineValue) → IsKitParse id (lex_of id) made_up k (HandsIn repairs) items (HasOutline (Some v)) [] → IsFaultless k repairs items v
  of_outline items v q =
      let p = q.exact.parse in
      let h = some_outline v p.parsed.tree p.parsed.gives_tree in
      record {
        tree = h.0;
        parse = record {
          lexemes = q.lexemes;
          are_items = q.are_items;
          are_lexemes = q.are_lexemes;
          found = q.found;
          exact = record {
            parse = record {
              parsed = record { handed = p.parsed.handed; places = p.parsed.places; tree = p.parsed.tree; repaired = p.parsed.repaired; parses = p.parsed.parses; told = p.parsed.told; gives_tree = h.1 };
              derives = p.derives;
              by_repairs = p.by_repairs;
              few = p.few;
              advance = p.advance;
              further = p.further;
              fits = p.fits;
              flawless = p.flawless;
              same_value = p.same_value;
              true_errors = p.true_errors;
            };
            fits = q.exact.fits;
            flawless = q.exact.flawless;
            same_value = q.exact.same_value;
            true_errors = q.exact.true_errors;
          };
          told = q.told;
        };
        outline = h.2;
      }

  pub faultless : (items : List (Result Word WordLexError)) (o : Option OutlineValue) (errors : List (ParseError Word ℕ)) → errors ≡ [] → IsKitParse id (lex_of id) made_up k (HandsIn repairs) items (HasOutline o) errors → IfSome o (IsFaultless k repairs items)
  faultless items None errors none q = tt
  faultless items (Some v) errors none q = of_outline items v (subst (IsKitParse id (lex_of id) made_up k (HandsIn repairs) items (HasOutline (Some v))) none q)

  module _ (line : List ℕ) (v : OutlineValue) (f : IsFaultless k repairs (items_of id k.grammar line) v) where
    -- the tree's lexemes are those of the line
    yield_is : yield f.tree ≡ f.parse.lexemes
    yield_is =
        let p = f.parse.exact.parse in
        let G = k.grammar.grammar in
        let a = automaton_of k.graph k.table in
        let make = made_by made_up (lex_of id) (end_of (lex_of id) f.parse.lexemes) in
        let none = none_found (told_of id) (as_told f.parse.lexemes) f.parse.found f.parse.told in
        let places = no_places (IsToldError G a (token_by (lex_of id)) make (HandsIn repairs) f.parse.lexemes) p.parsed.places p.parsed.handed f.parse.found p.parsed.told none in
        (p.derives f.tree p.parsed.gives_tree).yield_is
        ∙ unrepaired G a (token_by (lex_of id)) make (start_config a f.parse.lexemes) p.parsed.handed p.parsed.tree p.parsed.places p.parsed.repaired p.parsed.parses places

    pub faultless_items : AreItems (items_of id k.grammar line) (yield f.tree)
    faultless_items = subst (AreItems (items_of id k.grammar line)) (sym yield_is) f.parse.are_items

    pub faultless_shows : WellFormed k.grammar.grammar → IsUtf8 line → ParsesCanBeShown Word (HandsIn repairs) (λ tree. Unit {0}) →
        ((g : GrammarValue) (text : List ℕ) (lexemes : List Word) → IsUtf8 text → AreItems (items_of id g text) lexemes → AllByRecursion (FitsText text (lex_of id)) lexemes) → CanShowTree k.grammar (lex_of id) line f.tree
    faultless_shows well_formed utf8 law fit =
        let p = f.parse.exact.parse in
        let parse : IsParse k.grammar.grammar (automaton_of k.graph k.table) (token_by (lex_of id)) (made_by made_up (lex_of id) (end_of (lex_of id) f.parse.lexemes)) (HandsIn repairs) (λ tree. Unit {0}) f.parse.lexemes f.parse.found = record {
          parsed = record { handed = p.parsed.handed; places = p.parsed.places; tree = p.parsed.tree; repaired = p.parsed.repaired; parses = p.parsed.parses; told = p.parsed.told; gives_tree = tt };
          derives = p.derives;
          by_repairs = p.by_repairs;
          few = p.few;
          advance = p.advance;
          further = p.further;
          fits = p.fits;
          flawless = p.flawless;
          same_value = p.same_value;
          true_errors = p.true_errors;
        } in
        law.tree (top_of k repairs) k.grammar (automaton_of k.graph k.table) (lex_of id) made_up line f.parse.lexemes f.parse.found (within k repairs line well_formed utf8) (fit k.grammar line f.parse.lexemes utf8 f.parse.are_items) parse f.tree p.parsed.gives_tree

    -- its text is the line's
    text_is : LineText k repairs line (value_text id k.grammar line (Some f.tree)) false
    text_is = LineText.parsed (Some f.tree) [] f.parse refl refl

    module _ (a b : Option (List ℕ)) (waits : List ℕ) where
      pub faultless_writes : (waits' : List ℕ) → IsOutBut a b (waits ++ value_text id k.grammar line (Some f.tree)) waits' → LeavesLine k repairs line a b waits waits' false
      faultless_writes waits' w = record { text = value_text id k.grammar line (Some f.tree); is_text = text_is; out_but = w }

      pub faultless_begins : BeginningWritten a b (waits ++ value_text id k.grammar line (Some f.tree)) → BeginsLine k repairs line a b waits
      faultless_begins w = inr (record { text = value_text id k.grammar line (Some f.tree); faulty = false; is_text = text_is; written = w })
