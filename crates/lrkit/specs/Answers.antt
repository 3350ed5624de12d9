-- What inputs whose bytes are known are answered with: an output, or a refusal.
use Rattle.std.specs.Prelude.{◌≡◌, ℕ, Bool, List, Some}
use Rattle.byte_streams.specs.Inputs.{most_bytes, HasNoText}
use Rattle.byte_streams.specs.Source.{HasMoreThan}
use Rattle.cfg_read.specs.ErrorModels.{failures_in}
use Rattle.parser_kit.specs.declared.kit_error.KitError.TheVariants as kit
use Rattle.lrkit.specs.Output.{Output}
use Rattle.lrkit.specs.Run.{GoodBefore, IsInput, IsRefusal}
use Rattle.lrkit.specs.declared.fault.Input.{Input}
use Rattle.lrkit.specs.declared.fault.Input.TheVariants as inputs
use Rattle.lrkit.specs.declared.fault.RunFault.{RunFault}
use Rattle.lrkit.specs.declared.fault.RunFault.TheVariants.{Kit, Conflicts, NotARepair, NotUtf8, Read, TooLong, Write}

module _ (grammar line_text repair_text : List ℕ) where
  -- the bytes are texts, none longer than an input may be, and this is their output
  pub record GivesOutput (text : List ℕ) (faulty : Bool) : Type 0 where
    pub grammar_is : IsInput (Some grammar) grammar
    pub lines_are : IsInput (Some line_text) line_text
    pub repairs_are : IsInput (Some repair_text) repair_text
    pub is_output : Output grammar line_text repair_text text faulty

  abbrev pub bytes_of : Input → List ℕ
  bytes_of inputs.Grammar = grammar
  bytes_of inputs.Lines = line_text
  bytes_of inputs.Repairs = repair_text

  -- The fault is what the bytes say, and the inputs before it were good. Want of memory, and a read or a write that
  -- failed, is said by no bytes.
  abbrev pub GivesFault : RunFault → Type 0
  GivesFault (Kit (kit.Memory e)) = ⊥
  GivesFault (NotUtf8 i) = HasNoText (Some (bytes_of i)) × GoodBefore (Some grammar) (Some repair_text) i
  GivesFault (Read i) = ⊥
  GivesFault (TooLong i) = HasMoreThan most_bytes (Some (bytes_of i)) × GoodBefore (Some grammar) (Some repair_text) i
  GivesFault Write = ⊥
  GivesFault e = IsRefusal (Some grammar) (Some repair_text) e

  -- or it comes of memory, or of a read or a write
  abbrev pub IsFaultOf : RunFault → Type 0
  IsFaultOf (Kit (kit.Memory e)) = Unit {0}
  IsFaultOf (Read i) = Unit {0}
  IsFaultOf Write = Unit {0}
  IsFaultOf e = GivesFault e

-- the same fault; of a grammar's errors the same failures in the same order, wherever they lie in memory
abbrev pub IsSameFault : RunFault → RunFault → Type 0
IsSameFault (Kit (kit.Grammar es)) (Kit (kit.Grammar fs)) = failures_in es.items ≡ failures_in fs.items
IsSameFault e f = e ≡ f
