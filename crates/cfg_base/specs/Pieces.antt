-- A text in pieces.
use Rattle.std.specs.Prelude.{ℕ, ◌<◌, ◌^◌, List, length}
use Rattle.std.specs.Borrow.{Bor}
use Rattle.std.specs.List.{flat_map}

-- the whole text
abbrev pub text_of : List (Bor (List ℕ)) → List ℕ
text_of pieces = flat_map (λ (piece : Bor (List ℕ)). piece.now) pieces

-- its bytes can be counted
abbrev pub PiecesFit : List (Bor (List ℕ)) → Type 0
PiecesFit pieces = length (text_of pieces) < 2 ^ 64
