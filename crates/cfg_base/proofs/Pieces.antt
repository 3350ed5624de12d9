-- A text with one piece more.
use Rattle.std.proofs.Common.{◌≡◌, ◌+◌, ℕ, List, [], ◌∷◌, ◌++◌, length, ap, ◌∙◌, sym, length-append, append-nil}
use Rattle.std.specs.Borrow.{Bor}
use Rattle.std.proofs.lemmas.Grind.{flat_map-append}
use Rattle.cfg_base.specs.Newlines.{Newlines, joined, newlines_of}
use Rattle.cfg_base.specs.Pieces.{text_of}
use Rattle.cfg_base.proofs.NewlineOffsets.{joined_is_append}

pub text_of-push : (pieces : List (Bor (List ℕ))) (piece : Bor (List ℕ)) → text_of (pieces ++ piece ∷ []) ≡ text_of pieces ++ piece.now
text_of-push pieces piece = flat_map-append (λ (p : Bor (List ℕ)). p.now) pieces (piece ∷ []) ∙ ap (λ (xs : List ℕ). text_of pieces ++ xs) (append-nil piece.now)

pub length-text_of-push : (pieces : List (Bor (List ℕ))) (piece : Bor (List ℕ)) → length (text_of (pieces ++ piece ∷ [])) ≡ length (text_of pieces) + length piece.now
length-text_of-push pieces piece = ap length (text_of-push pieces piece) ∙ length-append (text_of pieces) piece.now

pub more_pieces : (v w : Newlines) (pieces : List (Bor (List ℕ))) (piece : Bor (List ℕ)) → v ≡ newlines_of (text_of pieces) → w ≡ joined v (newlines_of piece.now) → w ≡ newlines_of (text_of (pieces ++ piece ∷ []))
more_pieces v w pieces piece held fed =
    fed ∙ (ap (λ (u : Newlines). joined u (newlines_of piece.now)) held ∙ (joined_is_append (text_of pieces) piece.now ∙ ap newlines_of (sym (text_of-push pieces piece))))
