-- Which tokens may come at the first error of a text, else at its end.
use Rattle.std.specs.Prelude.{◌≡◌, ℕ, Bool, List, [], ◌∷◌, ◌++◌, Option, Result, Ok, Err, ⊤}
use Rattle.std.specs.Io.KnownBytes.{Appends}
use Rattle.cfg_base.specs.SpanModel.{SpanModel}
use Rattle.lr_theory.specs.Machine.{Config}
use Rattle.lrlex.specs.declared.lex_error.LRLexError.{LRLexError}
use Rattle.lrpar.specs.Checked.{ParserValue}
use Rattle.lrpar.specs.NextTokens.{AreNext, HasError, Reaches}
use Rattle.lrpar.specs.Prefixes.{PrefixValue, grammar_in, machine_in, own}
use Rattle.text_messages.specs.Places.{BeginsWith, SourceValue, heading}
use Rattle.text_messages.specs.declared.source.Severity.TheVariants as severities
use Rattle.text_parses.specs.Parses.{TextLexeme}

-- the tokens of the lexemes before the lexer's error, or of all
abbrev pub front_tokens : List (Result TextLexeme LRLexError) → List ℕ
front_tokens [] = []
front_tokens (Ok x ∷ items) = x.tok_id ∷ front_tokens items
front_tokens (Err e ∷ items) = []

-- the next token is an error, if there is one
abbrev pub StopsAt : ParserValue → List ℕ → List ℕ → Type 0
StopsAt d front [] = ⊤
StopsAt d front (t ∷ ts) = HasError (grammar_in d) (machine_in d) own (front ++ t ∷ [])

-- the prefix has the tokens of the lexemes before the first error
pub record GoesOn (d : ParserValue) (items : List (Result TextLexeme LRLexError)) (p : PrefixValue) : Type 0 where
  pub parser : p.parser ≡ d
  pub rest : List ℕ
  pub are : front_tokens items ≡ p.tokens ++ rest
  pub stops : StopsAt d p.tokens rest

-- a bit for each token: it is set where the token may come behind those before the first error
pub record IsNext (d : ParserValue) (items : List (Result TextLexeme LRLexError)) (bits : List Bool) : Type 0 where
  pub prefix : PrefixValue
  pub goes_on : GoesOn d items prefix
  pub config : Config ℕ
  pub reaches : Reaches (grammar_in d) (machine_in d) own prefix.tokens [] config
  pub are_next : AreNext (grammar_in d) (machine_in d) own config bits

-- a note was written that begins with a place in the text, of which such bits are known
pub record TellsNext (d : ParserValue) (items : List (Result TextLexeme LRLexError)) (source : SourceValue) (known known' : Option (List ℕ)) : Type 0 where
  pub bits : List Bool
  pub is_next : IsNext d items bits
  pub span : SpanModel
  pub message : List ℕ
  pub told : List ℕ
  pub begins : BeginsWith (heading source severities.Note span message) told
  pub written : Appends known known' told
