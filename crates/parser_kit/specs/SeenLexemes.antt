-- Trees and errors with their lexemes as contracts see them; and when two kits, each over lexemes of its own type, parse
-- alike.
use Rattle.std.specs.Prelude.{◌≡◌, ℕ, ◌≤◌, List, Option, Result, map, option_map}
use Rattle.std.specs.List.{AllByRecursion}
use Rattle.cfg_theory.specs.Tree.{Tree, leaf, node, Forest, none, before}
use Rattle.lr_theory.specs.Repair.{Edit, insert, delete, keep}
use Rattle.lrpar.specs.Checked.{ParserValue}
use Rattle.lrpar.specs.Told.{ToldError, told_of}
use Rattle.lrpar.specs.declared.parse_error.ParseError.{ParseError}
use Rattle.parse_trees.specs.Lex.{Lex}
use Rattle.parse_trees.specs.Lexemes.{lexemes_of}
use Rattle.parse_trees.specs.Shown.{ShownEdit, deleted, inserted, shifted}
use Rattle.parser_kit.specs.KitParses.{IsKitParse}

abbrev mutual
  -- a tree with each leaf as it is seen
  pub seen_tree : {L W : Type 0} → (L → W) → Tree L → Tree W
  seen_tree see (leaf x) = leaf (see x)
  seen_tree see (node p ts) = node p (seen_forest see ts)

  pub seen_forest : {L W : Type 0} → (L → W) → Forest L → Forest W
  seen_forest see none = none
  seen_forest see (before t ts) = before (seen_tree see t) (seen_forest see ts)

-- an edit that inserts no token past `top`
abbrev pub InsertsWithin : ℕ → Edit → Type 0
InsertsWithin top (insert t) = t ≤ top
InsertsWithin top delete = Unit {0}
InsertsWithin top keep = Unit {0}

-- an edit with the lexeme that it deletes or keeps as it is seen
abbrev pub seen_edit : {L W : Type 0} → (L → W) → ShownEdit L → ShownEdit W
seen_edit see (inserted t) = inserted t
seen_edit see (deleted x) = deleted (see x)
seen_edit see (shifted x) = shifted (see x)

-- an error with its lexemes as they are seen
abbrev pub seen_told : {L W : Type 0} → (L → W) → ToldError L → ToldError W
seen_told see e = record { state = e.state; lexeme = see e.lexeme; repairs = map (map (seen_edit see)) e.repairs }

-- As `ParseAlike`, each over lexemes of its own type: of lexemes that contracts see as the same ones, where at an error the
-- same sequences are handed in, by its state, its index and its lexeme as seen, which insert no token past `top`, they tell
-- the same errors and give the same tree or none, with the lexemes as seen.
module _ {S U L M : Type 0} (number : S → ℕ) (other_number : U → ℕ) (lex : L → Lex) (other_lex : M → Lex) where
  abbrev pub ParseSeenAlike : (E F : Type 0) → (ℕ → ℕ → ℕ → L) → (ℕ → ℕ → ℕ → M) → ℕ → ParserValue → ParserValue → Type 0
  ParseSeenAlike E F faulty other_faulty top d e =
      (lists : ℕ → ℕ → Lex → List (List Edit)) (items : List (Result L E)) (other_items : List (Result M F))
      (tree : Option (Tree L)) (other_tree : Option (Tree M)) (errors : List (ParseError L S)) (others : List (ParseError M U)) →
      ((state index : ℕ) (lexeme : Lex) → AllByRecursion (AllByRecursion (InsertsWithin top)) (lists state index lexeme)) →
      map lex (lexemes_of items) ≡ map other_lex (lexemes_of other_items) →
      IsKitParse number lex faulty d (λ state index lexeme offered. offered ≡ lists state index (lex lexeme)) items (λ t. t ≡ tree) errors →
      IsKitParse other_number other_lex other_faulty e (λ state index lexeme offered. offered ≡ lists state index (other_lex lexeme)) other_items (λ t. t ≡ other_tree) others →
      (map (seen_told lex) (map (told_of number) errors) ≡ map (seen_told other_lex) (map (told_of other_number) others)) ×
      (option_map (seen_tree lex) tree ≡ option_map (seen_tree other_lex) other_tree)
