-- The program's faults and statuses.
use Rattle.std.specs.Prelude.{ℕ, Result, Ok, Err}
use Rattle.byte_streams.specs.declared.reading.InputFault.{InputFault}
use Rattle.byte_streams.specs.declared.reading.InputFault.TheVariants as inputs
use Rattle.yacc_import.specs.declared.errors.ImportError.{ImportError}
use Rattle.yacc_import.specs.declared.errors.ImportError.TheVariants as imports
use Rattle.checked_import.specs.declared.checking.CheckedError.{CheckedError}
use Rattle.checked_import.specs.declared.checking.CheckedError.TheVariants as checks
use Rattle.lrkit_import.specs.declared.fault.RunFault.{RunFault}
use Rattle.lrkit_import.specs.declared.fault.RunFault.TheVariants.{Memory, NoRules, NotRead, NotUtf8, OtherLevels, OtherRules, OtherStart, Read, Refused, TooLong, TooManyNames, Write}

-- the file can't be imported; an input or the output; memory
abbrev pub status_of : {A : Type 0} → Result A RunFault → ℕ
status_of (Ok done) = 0
status_of (Err (Refused fault at)) = 2
status_of (Err NoRules) = 2
status_of (Err (NotRead at)) = 2
status_of (Err OtherRules) = 2
status_of (Err OtherStart) = 2
status_of (Err OtherLevels) = 2
status_of (Err TooManyNames) = 2
status_of (Err NotUtf8) = 5
status_of (Err Read) = 5
status_of (Err TooLong) = 5
status_of (Err Write) = 5
status_of (Err (Memory e)) = 6

abbrev pub fault_of : InputFault → RunFault
fault_of inputs.Read = Read
fault_of inputs.TooLong = TooLong
fault_of inputs.NotUtf8 = NotUtf8
fault_of (inputs.Memory e) = Memory e

abbrev pub fault_of_import : ImportError → RunFault
fault_of_import (imports.Refused fault at) = Refused fault at
fault_of_import (imports.Memory e) = Memory e

abbrev pub fault_of_check : CheckedError → RunFault
fault_of_check (checks.Import e) = fault_of_import e
fault_of_check checks.NoRules = NoRules
fault_of_check (checks.NotRead at) = NotRead at
fault_of_check checks.OtherRules = OtherRules
fault_of_check checks.OtherStart = OtherStart
fault_of_check checks.OtherLevels = OtherLevels
fault_of_check checks.TooManyNames = TooManyNames
fault_of_check (checks.Memory e) = Memory e
