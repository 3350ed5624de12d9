-- What is parsed of a lexer's list, and why it isn't.
use Rattle.std.specs.Prelude.{List, Result, Ok, Err}
use Rattle.cfg_theory.specs.Grammar.{Grammar, end_token}
use Rattle.parse_trees.specs.Lex.{Lex}
use Rattle.parse_trees.specs.Lexemes.{AreItems, IsFirstLexError, Misfit, IsMisfit, AreLexemes}
use Rattle.parse_trees.specs.declared.lexemes.ParseRefusal.{ParseRefusal}
use Rattle.parse_trees.specs.declared.lexemes.ParseRefusal.TheVariants as refusals

-- all are lexemes that a run takes, or the first fault stands there
abbrev pub Admits : {L E : Type 0} → Grammar → (L → Lex) → List (Result L E) → Result (List L) E → Type 0
Admits G lex items (Ok lexemes) = AreItems items lexemes × AreLexemes G lex lexemes
Admits G lex items (Err e) = IsFirstLexError items e

-- all are lexemes, and one of them no run takes
pub record HasMisfit {L E : Type 0} (G : Grammar) (lex : L → Lex) (items : List (Result L E)) (m : Misfit) : Type 0 where
  pub lexemes : List L
  pub are_items : AreItems items lexemes
  pub misfit : IsMisfit (end_token G) lex lexemes m

abbrev pub IsParseRefusal : {L E : Type 0} → Grammar → (L → Lex) → List (Result L E) → ParseRefusal → Type 0
IsParseRefusal G lex items (refusals.LexemeOutside k) = HasMisfit G lex items (Misfit.outside k)
IsParseRefusal G lex items (refusals.StartDecreases k) = HasMisfit G lex items (Misfit.decreases k)
IsParseRefusal G lex items (refusals.Memory e) = Unit {0}
