-- What calls answer and write.
use Rattle.std.specs.Prelude.{◌≡◌, ℕ, ◌<◌, ◌≤◌, List, ◌++◌, codes, length, drop}
use Rattle.lrkit_c.specs.declared.answers.LrkitAnswer.{LrkitAnswer}
use Rattle.lrkit_c.specs.declared.status.Status.{Status}
use Rattle.lrkit_c.specs.declared.status.Status.TheVariants as statuses

-- the numbers that lrkit.h has
abbrev pub number_of : Status → ℕ
number_of statuses.Done = 0
number_of statuses.Memory = 1
number_of statuses.NotUtf8 = 2
number_of statuses.Room = 3
number_of statuses.Grammar = 4
number_of statuses.Lexer = 5
number_of statuses.File = 6
number_of statuses.Unlexed = 7
number_of statuses.Syntax = 8
number_of statuses.Lexemes = 9
number_of statuses.Unknown = 10
number_of statuses.NoLexer = 11

-- what each says
abbrev pub text_of : Status → List ℕ
text_of statuses.Done = codes "done"
text_of statuses.Memory = codes "out of memory"
text_of statuses.NotUtf8 = codes "a text is not UTF-8"
text_of statuses.Room = codes "the room is too small"
text_of statuses.Grammar = codes "the grammar's text gives no parser"
text_of statuses.Lexer = codes "the lexer's text gives no lexer"
text_of statuses.File = codes "the file can't be imported"
text_of statuses.Unlexed = codes "no lexeme is at a place of the text"
text_of statuses.Syntax = codes "the lexemes are no sentence"
text_of statuses.Lexemes = codes "a lexeme is of no token, or starts before the one in front of it"
text_of statuses.Unknown = codes "there is no such name or number"
text_of statuses.NoLexer = codes "the parser was made without a lexer"

abbrev pub answer_of : Status → ℕ → LrkitAnswer
answer_of s n = record { status = number_of s; count = n }

-- a room with room for these has them at its front, and behind them what was there; a smaller one is as it was
abbrev pub Puts : {X : Type 0} → Status → (put old new : List X) → LrkitAnswer → Type 0
Puts status put old new a =
    (length put ≤ length old → (new ≡ put ++ drop (length put) old) × (a ≡ answer_of status (length put))) ×
    (length old < length put → (new ≡ old) × (a ≡ answer_of statuses.Room (length put)))

-- nothing is put
abbrev pub PutsNothing : {X : Type 0} → Status → (old new : List X) → LrkitAnswer → Type 0
PutsNothing status old new a = (new ≡ old) × (a ≡ answer_of status 0)

-- the text of the status with this number is put; nothing for a number past the last one
pub data TellsStatus (number : ℕ) (old new : List ℕ) (a : LrkitAnswer) : Type 0 where
  told : (status : Status) → number_of status ≡ number → Puts statuses.Done (text_of status) old new a → TellsStatus number old new a
  unknown : 11 < number → PutsNothing statuses.Unknown old new a → TellsStatus number old new a
