-- Why inputs are not read, and texts not answered.
use Rattle.std.specs.Prelude.{◌≡◌, ℕ, Option, ⊤}
use Rattle.byte_streams.specs.Recording.{IsBroken}
use Rattle.std.specs.declared.io.Error.{Error}
use Rattle.lrkit_parse.specs.declared.fault.ParseFault.{ParseFault}
use Rattle.lrkit_parse.specs.declared.fault.ParseFault.TheVariants.{Closed, Lexemes, Memory, NotUtf8, Read, TooLong, Write}
use Rattle.text_parses.specs.declared.answer_fault.AnswerFault.{AnswerFault}
use Rattle.text_parses.specs.declared.answer_fault.AnswerFault.TheVariants as answers

-- of the path of this number: it is no text, too long, or can't be read; or memory is wanting
abbrev pub IsInputFault : ℕ → ParseFault → Type 0
IsInputFault index (NotUtf8 k at) = k ≡ index
IsInputFault index (Read k cause) = k ≡ index
IsInputFault index (TooLong k) = k ≡ index
IsInputFault index Lexemes = ⊥
IsInputFault index (Write cause) = ⊥
IsInputFault index Closed = ⊥
IsInputFault index Memory = ⊤

-- it can't be read, or memory is wanting
abbrev pub IsReadFault : ℕ → ParseFault → Type 0
IsReadFault index (NotUtf8 k at) = ⊥
IsReadFault index (Read k cause) = k ≡ index
IsReadFault index (TooLong k) = ⊥
IsReadFault index Lexemes = ⊥
IsReadFault index (Write cause) = ⊥
IsReadFault index Closed = ⊥
IsReadFault index Memory = ⊤

-- after this failure of a write: the reader of the pipe is gone, or else; or memory for the cause is wanting
abbrev pub IsWriteFault : Option Error → ParseFault → Type 0
IsWriteFault failure (NotUtf8 k at) = ⊥
IsWriteFault failure (Read k cause) = ⊥
IsWriteFault failure (TooLong k) = ⊥
IsWriteFault failure Lexemes = ⊥
IsWriteFault failure (Write cause) = IsBroken failure → ⊥
IsWriteFault failure Closed = IsBroken failure
IsWriteFault failure Memory = ⊤

-- the program's fault for a text that isn't answered, after this failure of a write
abbrev pub IsFaultOf : Option Error → AnswerFault → ParseFault → Type 0
IsFaultOf failure answers.Write f = IsWriteFault failure f
IsFaultOf failure answers.Lexemes f = f ≡ Lexemes
IsFaultOf failure (answers.Memory e) f = f ≡ Memory
IsFaultOf failure answers.Unwritten f = f ≡ Memory
