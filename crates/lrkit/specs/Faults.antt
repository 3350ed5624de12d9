-- The faults of a run, and the program's status.
use Rattle.std.specs.Prelude.{ℕ, Bool, true, false, Result, Ok, Err}
use Rattle.byte_streams.specs.declared.reading.InputFault.{InputFault}
use Rattle.byte_streams.specs.declared.reading.InputFault.TheVariants as inputs
use Rattle.parser_kit.specs.declared.kit_error.KitError.TheVariants as kit
use Rattle.lrkit.specs.declared.fault.Input.{Input}
use Rattle.lrkit.specs.declared.fault.RunFault.{RunFault}
use Rattle.lrkit.specs.declared.fault.RunFault.TheVariants.{Kit, Conflicts, NotARepair, NotUtf8, Read, TooLong, Write}

-- no line with an error, some line with one; a text that gives no parser; conflicts; repairs; an input or the output; memory
abbrev pub status_of : Result Bool RunFault → ℕ
status_of (Ok false) = 0
status_of (Ok true) = 1
status_of (Err (Kit (kit.Grammar es))) = 2
status_of (Err (Kit (kit.TooMany n))) = 2
status_of (Err (Kit (kit.TooManyStates n))) = 2
status_of (Err (Kit (kit.AcceptReduce p))) = 2
status_of (Err (Kit kit.TooLarge)) = 2
status_of (Err (Kit (kit.TooManyReductions s r t c))) = 2
status_of (Err (Kit (kit.Memory e))) = 6
status_of (Err (Conflicts a b c d)) = 3
status_of (Err (NotARepair n)) = 4
status_of (Err (NotUtf8 input)) = 5
status_of (Err (Read input)) = 5
status_of (Err (TooLong input)) = 5
status_of (Err Write) = 5

abbrev pub run_fault_of : Input → InputFault → RunFault
run_fault_of input inputs.Read = Read input
run_fault_of input inputs.TooLong = TooLong input
run_fault_of input inputs.NotUtf8 = NotUtf8 input
run_fault_of input (inputs.Memory e) = Kit (kit.Memory e)
