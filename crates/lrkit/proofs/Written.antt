-- What stands written after each step of a loop that writes a text.
use Rattle.std.proofs.Common.{◌≡◌, ℕ, ◌-◌, Option, List, ◌++◌, arith, length, take, drop, sym, ap, ◌∙◌, append_assoc, take-append-drop, length-append}
use Rattle.std.proofs.Math.Seq.{take-append_seam}
use Rattle.std.specs.Io.KnownBytes.{Appends}
use Rattle.byte_streams.specs.Sink.{BeginningWritten}

pub beginning : (a b : Option (List ℕ)) (all done rest : List ℕ) → all ≡ done ++ rest → Appends a b done → BeginningWritten a b all
beginning a b all done rest e appended =
    (length done, rw e (omega (arith, length-append done rest)), rw (e, take-append_seam done rest) appended)
