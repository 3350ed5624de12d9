-- What a lexeme of a line, an error of lexing it and one of reading repairs print. Offsets are in bytes.
use Rattle.std.specs.Prelude.{ℕ, List, ◌++◌, codes}
use Rattle.std.specs.Fmt.{decimal}
use Rattle.cfg_base.specs.SpanModel.{SpanModel}
use Rattle.word_lines.specs.declared.repairs.RepairsError.{RepairsError}
use Rattle.word_lines.specs.declared.repairs.RepairsError.TheVariants.{NotARepair, Memory}

-- a lexeme, by its first byte and the one behind its last
abbrev pub lexeme_text : SpanModel → List ℕ
lexeme_text span = codes "WordLexeme[" ++ decimal span.start ++ codes ".." ++ decimal span.end ++ codes "]"

-- a word that is no token's name, by its first byte
abbrev pub lex_error_text : SpanModel → List ℕ
lex_error_text span = codes "Couldn't lex input starting at byte " ++ decimal span.start

-- why a text has no repairs; lines count from one
abbrev pub repairs_error_text : RepairsError → List ℕ
repairs_error_text (NotARepair n) = codes "repairs line " ++ decimal n ++ codes ": not a repair"
repairs_error_text (Memory e) = codes "out of memory"
