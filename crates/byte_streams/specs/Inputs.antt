-- Why an input is no text, as far as the source shows it.
use Rattle.std.specs.Prelude.{◌≡◌, ◌≤◌, ℕ, List, ◌++◌, length, Option, IfSome, ⊤}
use Rattle.std.specs.Io.KnownBytes.{Consumes}
use Rattle.std.specs.Str.{IsUtf8}
use Rattle.byte_streams.specs.Source.{one_more, HasMoreThan}
use Rattle.byte_streams.specs.declared.reading.InputFault.{InputFault}
use Rattle.byte_streams.specs.declared.reading.InputFault.TheVariants.{Read, TooLong, NotUtf8, Memory}

-- the greatest number of bytes of an input
abbrev pub most_bytes : ℕ
most_bytes = 67108864

-- the bytes, where they are known, are no more than an input may have, and no text
abbrev pub HasNoText : Option (List ℕ) → Type 0
HasNoText known = IfSome known (λ bs. (length bs ≤ most_bytes) × ¬ (IsUtf8 bs))

-- the count of failures went up; more bytes were there than an input may have; the bytes are no text
abbrev pub IsInputFault : Option (List ℕ) → ℕ → ℕ → InputFault → Type 0
IsInputFault known faults faults' Read = faults' ≡ one_more faults
IsInputFault known faults faults' TooLong = HasMoreThan most_bytes known
IsInputFault known faults faults' NotUtf8 = HasNoText known
IsInputFault known faults faults' (Memory e) = ⊤

-- one read fails only by the source or for want of memory
abbrev pub IsReadFault : ℕ → ℕ → InputFault → Type 0
IsReadFault faults faults' Read = faults' ≡ one_more faults
IsReadFault faults faults' TooLong = ⊥
IsReadFault faults faults' NotUtf8 = ⊥
IsReadFault faults faults' (Memory e) = ⊤

-- at most n of the source's bytes are gone
pub record TakesAtMost (n : ℕ) (known known' : Option (List ℕ)) : Type 0 where
  pub gone : List ℕ
  pub consumed : Consumes known known' gone
  pub bound : length gone ≤ n

-- a read moved some bytes from the source to the end of the bytes; it moved none only at the source's end
pub record Moves (known known' : Option (List ℕ)) (bytes bytes' : List ℕ) : Type 0 where
  pub moved : List ℕ
  pub consumed : Consumes known known' moved
  pub appended : bytes' ≡ bytes ++ moved
