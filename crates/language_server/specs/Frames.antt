-- What is sent: a heading with the count of bytes, an empty line, and JSON.
use Rattle.std.specs.Prelude.{◌≡◌, ℕ, List, [], ◌++◌, length, Some, codes}
use Rattle.std.specs.Fmt.{decimal}
use Rattle.serde.specs.Event.{Log}
use Rattle.serde_json.specs.Sent.{IsTextOf}

-- a body behind its heading
abbrev pub frame : List ℕ → List ℕ
frame body = codes "Content-Length: " ++ (decimal (length body) ++ (codes "\r\n\r\n" ++ body))

-- the frame of the JSON of what is written
abbrev pub IsFrameOf : (Log → Log → Type 0) → List ℕ → Type 0
IsFrameOf writes bytes = (body : List ℕ) × (log : Log) × writes (Some []) log × IsTextOf log body × (bytes ≡ frame body)

-- the frame of some text
abbrev pub IsFrame : List ℕ → Type 0
IsFrame bytes = (body : List ℕ) × (bytes ≡ frame body)
