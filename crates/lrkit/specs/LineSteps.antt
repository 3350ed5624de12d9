-- Steps of the answer to a line.
use Rattle.std.specs.Prelude.{◌≡◌, ◌++◌, ℕ, Bool, List, [], Option, Some, Result}
use Rattle.byte_streams.specs.Sink.{IsOutBut}
use Rattle.cfg_numbered.specs.Value.{GrammarValue}
use Rattle.cfg_theory.specs.Tree.{Tree}
use Rattle.lrpar.specs.declared.parse_error.ParseError.{ParseError}
use Rattle.lr_theory.specs.Repair.{Edit}
use Rattle.lrpar.specs.Checked.{ParserValue}
use Rattle.parse_trees.specs.Outlines.{OutlineValue, IsOutline}
use Rattle.parser_kit.specs.KitParses.{IsKitParse}
use Rattle.word_lines.specs.Lexing.{lex_of}
use Rattle.word_lines.specs.declared.lexeme.WordLexError.{WordLexError}
use Rattle.lrkit.specs.Output.{Word, id, made_up, parsed_text, has_some}

-- what waited, the texts of these errors and that of the tree are out, but for what waits now
pub record LeavesParsed (g : GrammarValue) (line : List ℕ) (known known' : Option (List ℕ)) (waits waits' : List ℕ) (tree : Option (Tree Word)) (errors : List (ParseError Word ℕ)) (faulty : Bool) : Type 0 where
  pub out_but : IsOutBut known known' (waits ++ parsed_text g line errors tree) waits'
  pub faulty_is : faulty ≡ has_some errors

-- the parse of a line's items has no error, and this is the outline of its tree
pub record IsFaultless (k : ParserValue) (repairs : List (List Edit)) (items : List (Result Word WordLexError)) (v : OutlineValue) : Type 0 where
  pub tree : Tree Word
  pub parse : IsKitParse id (lex_of id) made_up k (λ state index lexeme offered. offered ≡ repairs) items (λ t. t ≡ Some tree) []
  pub outline : IsOutline tree v
