-- What a write does to a sink: the bytes that it has, where they are known, and its count of failures.
use Rattle.std.specs.Prelude.{◌≡◌, ◌≤◌, ◌<◌, ℕ, List, ◌++◌, length, take, Option, Result, MatchResult}
use Rattle.std.specs.Io.KnownBytes.{Appends, Keeps}
use Rattle.byte_streams.specs.Source.{one_more}

-- the count after n of so many bytes were taken: nothing taken of some is a failure
pub record CountsTaken (n len faults faults' : ℕ) : Type 0 where
  pub stuck : n ≡ 0 → 0 < len → faults' ≡ one_more faults
  pub moved : 0 < n → faults' ≡ faults
  pub nothing : len ≡ 0 → faults' ≡ faults

-- the first n bytes were taken; or none was, and the count went up
abbrev pub Writes : {E : Type 0} → Option (List ℕ) → ℕ → Option (List ℕ) → ℕ → Result ℕ E → List ℕ → Type 0
Writes known faults known' faults' result bytes =
    MatchResult result (λ n. (n ≤ length bytes) × Appends known known' (take n bytes) × CountsTaken n (length bytes) faults faults') (λ _. Keeps known known' × (faults' ≡ one_more faults))

-- a beginning of the text is out
abbrev pub BeginningWritten : Option (List ℕ) → Option (List ℕ) → List ℕ → Type 0
BeginningWritten known known' text = (n : ℕ) × (n ≤ length text) × Appends known known' (take n text)

-- of a text all is out but this rest, which waits
pub record IsOutBut (known known' : Option (List ℕ)) (text rest : List ℕ) : Type 0 where
  pub part : List ℕ
  pub written : Appends known known' part
  pub is_front : text ≡ part ++ rest

-- so many bytes don't wait any longer
abbrev pub most_waiting : ℕ
most_waiting = 65536
