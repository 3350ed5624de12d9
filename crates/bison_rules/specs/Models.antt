-- What contracts see of the program's values.
use Rattle.std.specs.Prelude.{ℕ, List, [], ◌∷◌, ◌++◌, map, option_map}
use Rattle.std.specs.declared.alloc.Global.{Global}
use Rattle.std.specs.declared.vec.Vec.{Vec}
use Rattle.bison_rules.specs.declared.pieces.Symbol.{Symbol}
use Rattle.bison_rules.specs.declared.pieces.Symbol.TheVariants as symbols
use Rattle.bison_rules.specs.declared.pieces.Token.{Token}
use Rattle.bison_rules.specs.declared.pieces.Token.TheVariants as tokens
use Rattle.bison_rules.specs.declared.pieces.Piece.{Piece}
use Rattle.bison_rules.specs.declared.reading.Body.{Body}
use Rattle.bison_rules.specs.declared.reading.Rule.{Rule}
use Rattle.bison_rules.specs.declared.reading.Level.{Level}
use Rattle.bison_rules.specs.declared.reading.Alias.{Alias}
use Rattle.bison_rules.specs.declared.reading.BisonFile.{BisonFile}
use Rattle.bison_rules.specs.Pieces as pieces
use Rattle.bison_rules.specs.Rules as rules

abbrev pub bytes_of : Vec ℕ Global → pieces.Symbol
bytes_of v = v.items

-- a string has its quotes, a character is `'` and its code
abbrev pub symbol_of : Symbol → pieces.Symbol
symbol_of (symbols.Name s) = s.now
symbol_of (symbols.Quoted s) = 34 ∷ s.now ++ 34 ∷ []
symbol_of (symbols.Character c) = 39 ∷ c ∷ []
symbol_of (symbols.Action n) = rules.action_name n

abbrev pub token_of : Token → pieces.Token
token_of (tokens.Word s) = pieces.Word (symbol_of s)
token_of (tokens.Head s) = pieces.Head (symbol_of s)
token_of (tokens.Mark m) = pieces.Mark m.now
token_of tokens.Code = pieces.Code

abbrev pub tokens_of : List Token → List pieces.Token
tokens_of ts = map token_of ts

abbrev pub piece_of : Piece → pieces.Piece
piece_of p = record { size = p.size; token = option_map token_of p.token }

abbrev pub body_of : Body → rules.BisonBody
body_of b = record { symbols = map bytes_of b.symbols.items; prec = option_map bytes_of b.prec }

abbrev pub rule_of : Rule → rules.BisonRule
rule_of r = record { head = r.head.items; bodies = map body_of r.bodies.items }

abbrev pub level_of : Level → rules.BisonLevel
level_of l = record { word = l.word.items; symbols = map bytes_of l.symbols.items }

abbrev pub alias_pair : Alias → pieces.Symbol × pieces.Symbol
alias_pair a = (a.string.items, a.token.items)

abbrev pub file_of : BisonFile → rules.BisonText
file_of f = record {
  rules = map rule_of f.rules.items;
  aliases = map alias_pair f.aliases.items;
  starts = map bytes_of f.starts.items;
  levels = map level_of f.levels.items;
}
