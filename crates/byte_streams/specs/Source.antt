-- What a read does to a source: the bytes that it has left, where they are known, and its count of failures.
use Rattle.std.specs.Prelude.{◌≡◌, ◌≤◌, ◌<◌, ℕ, ◌+◌, ◌-◌, ◌^◌, min, List, length, take, Option, None, Some, ⊤, Result, MatchResult}
use Rattle.std.specs.Io.KnownBytes.{Consumes, Keeps, IsAtEnd}

-- one more failure; the count stops at the greatest number
abbrev pub one_more : ℕ → ℕ
one_more n = min (n + 1) (2 ^ 64 - 1)

-- the first n bytes of the buffer were taken from the front, none of them only at the end or without room, and the count stays; or nothing was taken and the count went up
abbrev pub Reads : {E : Type 0} → Option (List ℕ) → ℕ → Option (List ℕ) → ℕ → Result ℕ E → List ℕ → Type 0
Reads known faults known' faults' result buf =
    MatchResult result (λ n. (n ≤ length buf) × Consumes known known' (take n buf) × (n ≡ 0 → 0 < length buf → IsAtEnd known') × (faults' ≡ faults)) (λ _. Keeps known known' × (faults' ≡ one_more faults))

-- these bytes are all that a source had, where its bytes are known
abbrev pub IsWhole : Option (List ℕ) → List ℕ → Type 0
IsWhole None bs = ⊤
IsWhole (Some xs) bs = xs ≡ bs

-- the source had more than these many bytes, where its bytes are known
abbrev pub HasMoreThan : ℕ → Option (List ℕ) → Type 0
HasMoreThan n None = ⊤
HasMoreThan n (Some xs) = n < length xs
