-- What a recorded reader or writer is made of.
use Rattle.std.specs.Prelude.{◌≡◌, ◌≢◌, ℕ, List, ◌++◌, codes, Option, None, Some}
use Rattle.std.specs.IoError.{error_kind}
use Rattle.std.specs.declared.io.Error.{Error}
use Rattle.std.specs.declared.io.ErrorKind.TheVariants.{BrokenPipe}
use Rattle.byte_streams.specs.declared.counting.Counted.{Counted}
use Rattle.byte_streams.specs.declared.recorded.Recorded.{Recorded}

abbrev pub counted_of : {T : Type 0} → Recorded T → Counted T
counted_of r = r.counted

-- the last failure
abbrev pub failure_of : {T : Type 0} → Recorded T → Option Error
failure_of r = r.failure

-- the failure is that the reader of a pipe is gone
abbrev pub IsBroken : Option Error → Type 0
IsBroken None = ⊥
IsBroken (Some e) = error_kind e ≡ BrokenPipe

-- words have no number of the system's
abbrev pub HasNoNumber : List ℕ → Type 0
HasNoNumber words = (front back : List ℕ) → words ≢ front ++ (codes " (os error " ++ back)
