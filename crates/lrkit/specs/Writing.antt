-- What writing the answer to a line, or to some lines, leaves.
use Rattle.std.specs.Prelude.{◌⊎◌, ◌++◌, ℕ, Bool, List, Option}
use Rattle.std.specs.Io.KnownBytes.{Appends}
use Rattle.byte_streams.specs.Sink.{BeginningWritten, IsOutBut}
use Rattle.lr_theory.specs.Repair.{Edit}
use Rattle.lrpar.specs.Checked.{ParserValue}
use Rattle.lrkit.specs.Output.{LineText, LineTexts}

-- what waited and the text of a line are out, but for what waits now
pub record LeavesLine (k : ParserValue) (repairs : List (List Edit)) (line : List ℕ) (known known' : Option (List ℕ)) (waits waits' : List ℕ) (faulty : Bool) : Type 0 where
  pub text : List ℕ
  pub is_text : LineText k repairs line text faulty
  pub out_but : IsOutBut known known' (waits ++ text) waits'

-- a beginning of what waited and of the line's text is out
pub record BeginsLineText (k : ParserValue) (repairs : List (List Edit)) (line : List ℕ) (known known' : Option (List ℕ)) (waits : List ℕ) : Type 0 where
  pub text : List ℕ
  pub faulty : Bool
  pub is_text : LineText k repairs line text faulty
  pub written : BeginningWritten known known' (waits ++ text)

-- what is out of a line at a fault: a beginning of what waited, or of that and the line's text
abbrev pub BeginsLine : ParserValue → List (List Edit) → List ℕ → Option (List ℕ) → Option (List ℕ) → List ℕ → Type 0
BeginsLine k repairs line known known' waits = BeginningWritten known known' waits ⊎ BeginsLineText k repairs line known known' waits

-- the texts of some lines are out, but for what waits
pub record LeavesLines (k : ParserValue) (repairs : List (List Edit)) (all : List (List ℕ)) (known known' : Option (List ℕ)) (waits : List ℕ) (faulty : Bool) : Type 0 where
  pub text : List ℕ
  pub texts : LineTexts k repairs all text faulty
  pub out_but : IsOutBut known known' text waits

-- the texts of some lines are out
pub record WritesLines (k : ParserValue) (repairs : List (List Edit)) (all : List (List ℕ)) (known known' : Option (List ℕ)) (faulty : Bool) : Type 0 where
  pub text : List ℕ
  pub texts : LineTexts k repairs all text faulty
  pub written : Appends known known' text
