-- What stands of a line's errors and tree, and that they can be shown.
use Rattle.std.proofs.Common.{◌≡◌, ℕ, zero, suc, ◌+◌, ◌≤◌, Bool, true, false, not, eqb, Option, Some, None, List, [], ◌∷◌, ◌++◌, length, refl, sym, ap, ◌∙◌, subst, arith, inr, IsUtf8}
use Rattle.std.specs.List.{AllByRecursion}
use Rattle.std.proofs.lemmas.Bool.Decides.{nat_tests}
use Rattle.byte_streams.specs.Sink.{BeginningWritten, IsOutBut}
use Rattle.cfg_numbered.specs.Value.{GrammarValue}
use Rattle.cfg_theory.specs.Grammar.{WellFormed, end_token}
use Rattle.cfg_theory.specs.Tree.{Tree}
use Rattle.lr_theory.specs.Repair.{Edit, insert, delete, keep}
use Rattle.word_lines.specs.ShownTexts.{FitsText, FlatParsesCanBeShown, InsertsWithin, MakesWithin}
use Rattle.lrpar.specs.FlatParses.{HasFlat, IsFlatParse}
use Rattle.parse_trees.specs.FlatTrees.{FlatValue}
use Rattle.parse_trees.specs.Lexemes.{AreItems, IsFirstLexError}
use Rattle.parse_trees.specs.Lex.{span_by}
use Rattle.lrpar.specs.declared.parse_error.ParseError.{ParseError}
use Rattle.lrpar.specs.Checked.{ParserValue}
use Rattle.parser_kit.specs.KitParses.{IsExactParse, IsKitParse}
use Rattle.word_lines.specs.Lexing.{items_of, lex_of}
use Rattle.word_lines.specs.LineTexts.{ErrorCanBeShown, TreeCanBeShown, fault_line}
use Rattle.word_lines.specs.declared.lexeme.WordLexError.{WordLexError}
use Rattle.lrkit.specs.LineSteps.{LeavesParsed}
use Rattle.lrkit.specs.Output.{LineText, Word, has_some, id, made_up, parsed_text}
use Rattle.lrkit.specs.Writing.{BeginsLine, LeavesLine}

-- ---- a number that no inserted token passes

abbrev sum_of : List Edit → ℕ
sum_of [] = 0
sum_of (insert t ∷ es) = t + sum_of es
sum_of (delete ∷ es) = sum_of es
sum_of (keep ∷ es) = sum_of es

abbrev sum_all : List (List Edit) → ℕ
sum_all [] = 0
sum_all (es ∷ rs) = sum_of es + sum_all rs

inserts_within : (n : ℕ) (es : List Edit) → sum_of es ≤ n → InsertsWithin n es
inserts_within n [] h = tt
inserts_within n (insert t ∷ es) h = (omega (arith, h), inserts_within n es (omega (arith, h)))
inserts_within n (delete ∷ es) h = inserts_within n es h
inserts_within n (keep ∷ es) h = inserts_within n es h

all_within : (n : ℕ) (rs : List (List Edit)) → sum_all rs ≤ n → AllByRecursion (InsertsWithin n) rs
all_within n [] h = tt
all_within n (es ∷ rs) h = (inserts_within n es (omega (arith, h)), all_within n rs (omega (arith, h)))

-- ---- a line's parse

-- at an error all these are handed in
abbrev pub HandsIn : List (List Edit) → ℕ → ℕ → Word → List (List Edit) → Type 0
HandsIn repairs state index lexeme offered = offered ≡ repairs

-- the parse of a line, whose flat tree or none this is
abbrev pub IsLineParse : ParserValue → List (List Edit) → List ℕ → Option (FlatValue Word) → List (ParseError Word ℕ) → Type 0
IsLineParse k repairs line value errors = IsKitParse id (lex_of id) made_up k (HandsIn repairs) (items_of id k.grammar line) (HasFlat (span_by (lex_of id)) value) errors

-- the greatest number of a token that is made up
abbrev pub top_of : ParserValue → List (List Edit) → ℕ
top_of k repairs = end_token k.grammar.grammar + sum_all repairs

pub within : (k : ParserValue) (repairs : List (List Edit)) (line : List ℕ) → WellFormed k.grammar.grammar → IsUtf8 line → MakesWithin (top_of k repairs) k.grammar (lex_of id) made_up (HandsIn repairs) line
within k repairs line well_formed utf8 = record {
  text = utf8;
  well_formed = well_formed;
  end = omega arith;
  makes = λ t start len le. refl;
  inserts = λ state index x offered e. subst (AllByRecursion (InsertsWithin (top_of k repairs))) (sym e) (all_within (top_of k repairs) repairs (omega arith));
}

module _ (k : ParserValue) (repairs : List (List Edit)) (line : List ℕ) (well_formed : WellFormed k.grammar.grammar) (utf8 : IsUtf8 line)
    (law : FlatParsesCanBeShown ℕ Word WordLexError (HandsIn repairs))
    (fit : (g : GrammarValue) (text : List ℕ) (lexemes : List Word) → IsUtf8 text → AreItems (items_of id g text) lexemes → AllByRecursion (FitsText text (lex_of id)) lexemes) where
  flat_parse : (value : Option (FlatValue Word)) (errors : List (ParseError Word ℕ)) → IsLineParse k repairs line value errors →
      IsFlatParse id (lex_of id) made_up k.grammar.grammar k.graph k.table (HandsIn repairs) (items_of id k.grammar line) value errors
  flat_parse value errors q = record { lexemes = q.lexemes; are_items = q.are_items; are_lexemes = q.are_lexemes; found = q.found; parse = q.exact.parse; told = q.told }

  pub errors_can_be_shown : (value : Option (FlatValue Word)) (errors : List (ParseError Word ℕ)) → IsLineParse k repairs line value errors → AllByRecursion (ErrorCanBeShown id k.grammar line) errors
  errors_can_be_shown value errors q =
      law.errors (top_of k repairs) id k.grammar k.graph k.table (lex_of id) made_up line (items_of id k.grammar line) value errors (within k repairs line well_formed utf8) (λ lexemes items. fit k.grammar line lexemes utf8 items) (flat_parse value errors q)

  pub tree_can_be_shown : (value : Option (FlatValue Word)) (errors : List (ParseError Word ℕ)) → IsLineParse k repairs line value errors → TreeCanBeShown id k.grammar line value
  tree_can_be_shown None errors q = tt
  tree_can_be_shown (Some v) errors q =
      law.tree (top_of k repairs) id k.grammar k.graph k.table (lex_of id) made_up line (items_of id k.grammar line) v errors (within k repairs line well_formed utf8) (λ lexemes items. fit k.grammar line lexemes utf8 items) (flat_parse (Some v) errors q)

-- ---- what is written of it

pub some_or_none : {X : Type 0} (xs : List X) (n : ℕ) (empty : Bool) → empty ≡ eqb n 0 → n ≡ length xs → not empty ≡ has_some xs
some_or_none [] n empty is long = ap not (is ∙ ap (λ m. eqb m 0) long)
some_or_none (x ∷ xs) n empty is long = ap not (is ∙ ap (λ m. eqb m 0) long) ∙ (let e : eqb (suc (length xs)) 0 ≡ false = grind (arith, nat_tests) in ap not e)

module _ (k : ParserValue) (repairs : List (List Edit)) (line : List ℕ) where
  -- the text of a parse
  parsed_is : (value : Option (FlatValue Word)) (errors : List (ParseError Word ℕ)) → (q : IsLineParse k repairs line value errors) →
      (faulty : Bool) → faulty ≡ has_some errors → LineText k repairs line (parsed_text k.grammar line errors q.exact.parse.parsed.tree) faulty
  parsed_is value errors q faulty is =
      let p = q.exact.parse in
      let tree = p.parsed.tree in
      LineText.parsed tree errors (record {
        lexemes = q.lexemes;
        are_items = q.are_items;
        are_lexemes = q.are_lexemes;
        found = q.found;
        exact = record {
          parse = record {
            parsed = record { handed = p.parsed.handed; places = p.parsed.places; tree = tree; repaired = p.parsed.repaired; parses = p.parsed.parses; told = p.parsed.told; gives_tree = refl };
            derives = p.derives;
            by_repairs = p.by_repairs;
            few = p.few;
            advance = p.advance;
            further = p.further;
            fits = p.fits;
            flawless = p.flawless;
            same_value = p.same_value;
            true_errors = p.true_errors;
          };
          fits = q.exact.fits;
          flawless = q.exact.flawless;
          same_value = q.exact.same_value;
          true_errors = q.exact.true_errors;
        };
        told = q.told;
      }) refl is

  module _ (a b : Option (List ℕ)) (waits : List ℕ) where
    pub writes_parsed : (waits' : List ℕ) (value : Option (FlatValue Word)) (errors : List (ParseError Word ℕ)) → (q : IsLineParse k repairs line value errors) →
        (faulty : Bool) → LeavesParsed k.grammar line a b waits waits' q.exact.parse.parsed.tree errors faulty → LeavesLine k repairs line a b waits waits' faulty
    writes_parsed waits' value errors q faulty w = record { text = parsed_text k.grammar line errors q.exact.parse.parsed.tree; is_text = parsed_is value errors q faulty w.faulty_is; out_but = w.out_but }

    pub begins_parsed : (value : Option (FlatValue Word)) (errors : List (ParseError Word ℕ)) → (q : IsLineParse k repairs line value errors) →
        BeginningWritten a b (waits ++ parsed_text k.grammar line errors q.exact.parse.parsed.tree) → BeginsLine k repairs line a b waits
    begins_parsed value errors q w = inr (record { text = parsed_text k.grammar line errors q.exact.parse.parsed.tree; faulty = has_some errors; is_text = parsed_is value errors q (has_some errors) refl; written = w })

    pub writes_fault : (waits' : List ℕ) (e : WordLexError) → IsFirstLexError (items_of id k.grammar line) e → (faulty : Bool) → IsOutBut a b (waits ++ fault_line line e) waits' × (faulty ≡ true) → LeavesLine k repairs line a b waits waits' faulty
    writes_fault waits' e is faulty (out_but, wrong) = record { text = fault_line line e; is_text = LineText.lexing_error e is refl wrong; out_but = out_but }

    pub begins_fault : (e : WordLexError) → IsFirstLexError (items_of id k.grammar line) e → BeginningWritten a b (waits ++ fault_line line e) → BeginsLine k repairs line a b waits
    begins_fault e is w = inr (record { text = fault_line line e; faulty = true; is_text = LineText.lexing_error e is refl refl; written = w })
