-- What a fault of an input prints.
use Rattle.std.specs.Prelude.{ℕ, List, codes}
use Rattle.byte_streams.specs.declared.reading.InputFault.{InputFault}
use Rattle.byte_streams.specs.declared.reading.InputFault.TheVariants as faults

abbrev pub input_fault_text : InputFault → List ℕ
input_fault_text faults.Read = codes "read fault"
input_fault_text faults.TooLong = codes "too long"
input_fault_text faults.NotUtf8 = codes "not UTF-8"
input_fault_text (faults.Memory e) = codes "out of memory"
