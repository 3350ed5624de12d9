-- What a run leaves, and why it stops.
use Rattle.std.specs.Prelude.{◌≡◌, ◌≤◌, ◌⊎◌, ℕ, Bool, List, length, Option}
use Rattle.std.specs.Io.KnownBytes.{Appends, Keeps}
use Rattle.std.specs.Str.{IsUtf8}
use Rattle.std.specs.Str.Lines.{lines}
use Rattle.byte_streams.specs.Inputs.{most_bytes, HasNoText}
use Rattle.byte_streams.specs.Source.{one_more, IsWhole, HasMoreThan}
use Rattle.lr_theory.specs.Repair.{Edit}
use Rattle.lrpar.specs.Checked.{ParserValue}
use Rattle.parser_kit.specs.declared.kit_error.KitError.TheVariants as kit
use Rattle.word_lines.specs.Repairs.{IsFirstBadLine}
use Rattle.lrkit.specs.Output.{Output, BeginsOutput, ReadsRepairs}
use Rattle.lrkit.specs.RunKits.{AreExpected, HasOtherCounts, IsRunKit, IsRunKitRefusal}
use Rattle.lrkit.specs.declared.fault.Input.{Input}
use Rattle.lrkit.specs.declared.fault.Input.TheVariants as inputs
use Rattle.lrkit.specs.declared.fault.RunFault.{RunFault}
use Rattle.lrkit.specs.declared.fault.RunFault.TheVariants.{Kit, Conflicts, NotARepair, NotUtf8, Read, TooLong, Write}

-- an input that is read: all bytes of its source are this text, and they are no more than an input may have
pub record IsInput (known : Option (List ℕ)) (text : List ℕ) : Type 0 where
  pub whole : IsWhole known text
  pub short : length text ≤ most_bytes
  pub utf8 : IsUtf8 text

-- the sink got exactly the output of what the inputs held
pub record WritesOutput (grammar lines repairs : Option (List ℕ)) (known known' : Option (List ℕ)) (faulty : Bool) : Type 0 where
  pub grammar_text : List ℕ
  pub line_text : List ℕ
  pub repair_text : List ℕ
  pub text : List ℕ
  pub grammar_is : IsInput grammar grammar_text
  pub lines_are : IsInput lines line_text
  pub repairs_are : IsInput repairs repair_text
  pub is_output : Output grammar_text line_text repair_text text faulty
  pub written : Appends known known' text

-- the sink got a beginning of it
pub record WritesBeginning (grammar lines repairs : Option (List ℕ)) (known known' : Option (List ℕ)) : Type 0 where
  pub grammar_text : List ℕ
  pub line_text : List ℕ
  pub repair_text : List ℕ
  pub grammar_is : IsInput grammar grammar_text
  pub lines_are : IsInput lines line_text
  pub repairs_are : IsInput repairs repair_text
  pub begins : BeginsOutput grammar_text line_text repair_text known known'

-- what is out at a fault: a beginning where a write failed, that or nothing where memory ran out, and else nothing
abbrev pub IsOutAt : Option (List ℕ) → Option (List ℕ) → Option (List ℕ) → Option (List ℕ) → Option (List ℕ) → RunFault → Type 0
IsOutAt grammar lines repairs known known' Write = WritesBeginning grammar lines repairs known known'
IsOutAt grammar lines repairs known known' (Kit (kit.Memory e)) = Keeps known known' ⊎ WritesBeginning grammar lines repairs known known'
IsOutAt grammar lines repairs known known' e = Keeps known known'

-- a fault that names this input: its count of failures went up, it had more bytes than an input may have, or no more, and they are no text
abbrev pub IsCauseIn : Input → Option (List ℕ) → ℕ → ℕ → RunFault → Type 0
IsCauseIn input known faults faults' (NotUtf8 i) = i ≡ input → HasNoText known
IsCauseIn input known faults faults' (Read i) = i ≡ input → faults' ≡ one_more faults
IsCauseIn input known faults faults' (TooLong i) = i ≡ input → HasMoreThan most_bytes known
IsCauseIn input known faults faults' e = Unit {0}

-- a write failed or took nothing, which raised the count of failures; at any other fault none did
abbrev pub IsWriteCause : ℕ → ℕ → RunFault → Type 0
IsWriteCause faults faults' Write = faults' ≡ one_more faults
IsWriteCause faults faults' e = faults' ≡ faults

-- the kit is that of the text that the source held, and its conflicts are expected
pub record IsGoodKitIn (known : Option (List ℕ)) (k : ParserValue) : Type 0 where
  pub text : List ℕ
  pub input : IsInput known text
  pub is_kit : IsRunKit text k
  pub expected : AreExpected k

-- the source held these repairs
pub record ReadsRepairsIn (k : ParserValue) (known : Option (List ℕ)) (repairs : List (List Edit)) : Type 0 where
  pub text : List ℕ
  pub input : IsInput known text
  pub are_repairs : ReadsRepairs k text repairs

-- the kit of the text that the source held has other counts than are expected
pub record HasCountsIn (known : Option (List ℕ)) (e : RunFault) : Type 0 where
  pub text : List ℕ
  pub input : IsInput known text
  pub k : ParserValue
  pub is_kit : IsRunKit text k
  pub other : HasOtherCounts k e

-- the text that the source held gives no kit
pub record HasKitRefusalIn (known : Option (List ℕ)) (P : List ℕ → Type 0) : Type 0 where
  pub text : List ℕ
  pub input : IsInput known text
  pub refused : P text

-- this line of the repairs is the first that is none
pub record HasBadLineIn (grammar repairs : Option (List ℕ)) (n : ℕ) : Type 0 where
  pub k : ParserValue
  pub is_kit : IsGoodKitIn grammar k
  pub text : List ℕ
  pub input : IsInput repairs text
  pub bad : IsFirstBadLine k.grammar (lines text) n

-- what a fault says of the grammar and of the repairs
abbrev pub IsRefusal : Option (List ℕ) → Option (List ℕ) → RunFault → Type 0
IsRefusal grammar repairs (Kit (kit.Memory e)) = Unit {0}
IsRefusal grammar repairs (Kit e) = HasKitRefusalIn grammar (λ text. IsRunKitRefusal text e)
IsRefusal grammar repairs (Conflicts a b c d) = HasCountsIn grammar (Conflicts a b c d)
IsRefusal grammar repairs (NotARepair n) = HasBadLineIn grammar repairs n
IsRefusal grammar repairs e = Unit {0}

-- the grammar gives a kit; it does, and the repairs are repairs
abbrev pub GoodBefore : Option (List ℕ) → Option (List ℕ) → Input → Type 0
GoodBefore grammar repairs inputs.Grammar = Unit {0}
GoodBefore grammar repairs inputs.Repairs = (k : ParserValue) × IsGoodKitIn grammar k
GoodBefore grammar repairs inputs.Lines = (k : ParserValue) × (rs : List (List Edit)) × IsGoodKitIn grammar k × ReadsRepairsIn k repairs rs

-- a fault that names an input, or comes of writing, says that the inputs before it were good
abbrev pub AreGoodBefore : Option (List ℕ) → Option (List ℕ) → RunFault → Type 0
AreGoodBefore grammar repairs (NotUtf8 i) = GoodBefore grammar repairs i
AreGoodBefore grammar repairs (Read i) = GoodBefore grammar repairs i
AreGoodBefore grammar repairs (TooLong i) = GoodBefore grammar repairs i
AreGoodBefore grammar repairs Write = GoodBefore grammar repairs inputs.Lines
AreGoodBefore grammar repairs e = Unit {0}

-- a fault of writing, which is all that can come once the inputs are read: of the sink, or memory
abbrev pub IsLate : RunFault → Type 0
IsLate Write = Unit {0}
IsLate (Kit (kit.Memory e)) = Unit {0}
IsLate e = ⊥

-- a fault of reading this input, or memory
abbrev pub IsReadFaultOf : Input → RunFault → Type 0
IsReadFaultOf input (Kit (kit.Memory e)) = Unit {0}
IsReadFaultOf input (NotUtf8 i) = i ≡ input
IsReadFaultOf input (Read i) = i ≡ input
IsReadFaultOf input (TooLong i) = i ≡ input
IsReadFaultOf input e = ⊥

-- a fault of reading this input, or of what it says
abbrev pub IsEarlyIn : Input → RunFault → Type 0
IsEarlyIn input (Kit e) = Unit {0}
IsEarlyIn input (Conflicts a b c d) = input ≡ inputs.Grammar
IsEarlyIn input (NotARepair n) = input ≡ inputs.Repairs
IsEarlyIn input (NotUtf8 i) = i ≡ input
IsEarlyIn input (Read i) = i ≡ input
IsEarlyIn input (TooLong i) = i ≡ input
IsEarlyIn input Write = ⊥
