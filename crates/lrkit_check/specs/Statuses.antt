-- The program's faults and statuses.
use Rattle.std.specs.Prelude.{ℕ, Result, Ok, Err, Option, None, Some, String}
use Rattle.std.specs.declared.alloc.Global.{Global}
use Rattle.byte_streams.specs.declared.reading.InputFault.{InputFault}
use Rattle.byte_streams.specs.declared.reading.InputFault.TheVariants as inputs
use Rattle.grammar_report.specs.Outcomes as reports
use Rattle.grammar_report.specs.declared.outcome.Outcome.{Outcome}
use Rattle.lrkit_check.specs.declared.fault.CheckFault.{CheckFault}
use Rattle.lrkit_check.specs.declared.fault.CheckFault.TheVariants.{Closed, Memory, NotUtf8, Page, Read, TooLong, TooManyStates, Unwritten, Write}
use Rattle.lrkit_check.specs.declared.fault.Input.{Input}
use Rattle.lrkit_check.specs.declared.fault.Input.TheVariants as files

-- what is so of the grammar; an input or the output; memory
abbrev pub status_of : Result Outcome CheckFault → ℕ
status_of (Ok outcome) = reports.status_of outcome
status_of (Err (NotUtf8 input)) = 5
status_of (Err (Read input cause)) = 5
status_of (Err (TooLong input)) = 5
status_of (Err (Write cause)) = 5
status_of (Err Closed) = 5
status_of (Err (TooManyStates n)) = 5
status_of (Err Unwritten) = 6
status_of (Err (Page cause)) = 5
status_of (Err (Memory e)) = 6

-- the program's fault of an input, with the system's cause
abbrev pub fault_of : Input → String Global → InputFault → CheckFault
fault_of input cause inputs.Read = Read input cause
fault_of input cause inputs.TooLong = TooLong input
fault_of input cause inputs.NotUtf8 = NotUtf8 input
fault_of input cause (inputs.Memory e) = Memory e

-- the file that a fault is about
abbrev pub input_of : CheckFault → Option Input
input_of (NotUtf8 input) = Some input
input_of (Read input cause) = Some input
input_of (TooLong input) = Some input
input_of (Write cause) = None
input_of Closed = None
input_of (Memory e) = None
input_of Unwritten = None
input_of (TooManyStates n) = Some files.Grammar
input_of (Page cause) = Some files.Page
