-- Steps of the loop that applies notes.
use Rattle.std.proofs.Common.{◌≡◌, ℕ, ◌+◌, ◌<◌, ◌≤◌, List, ◌∷◌, ◌++◌, length, get_or, drop, slice_range, sym, ap, ◌∙◌, subst, append_assoc}
use Rattle.std.proofs.lemmas.List.{drop_more}
use Rattle.yacc_import.specs.declared.marks.Mark.{Mark}
use Rattle.yacc_import.specs.declared.notes.Note.{Note}
use Rattle.yacc_import.specs.Changes.{marks_of, in_place, changed, Fits, FitsAlone}

next_note : (notes : List Note) (i : ℕ) (n : Note) → i < length notes → n ≡ get_or notes i n → drop i notes ≡ n ∷ drop (i + 1) notes
next_note notes i n h is = drop_more notes i n h ∙ ap (λ m. m ∷ drop (i + 1) notes) (sym is)

pub made_more : (source : List ℕ) (notes : List Note) (at i : ℕ) (n : Note) (out out1 out2 all : List Mark) → i < length notes → n ≡ get_or notes i n → out1 ≡ out ++ marks_of at (slice_range source at n.start) → out2 ≡ out1 ++ in_place source n → out ++ changed source at (drop i notes) ≡ all → out2 ++ changed source n.end (drop (i + 1) notes) ≡ all
made_more source notes at i n out out1 out2 all h is e1 e2 e =
    let A = marks_of at (slice_range source at n.start) in
    let B = in_place source n in
    let C = changed source n.end (drop (i + 1) notes) in
    ap (λ l. l ++ C) (e2 ∙ ap (λ l. l ++ B) e1 ∙ append_assoc out A B)
    ∙ append_assoc out (A ++ B) C
    ∙ sym (ap (λ l. out ++ changed source at l) (next_note notes i n h is))
    ∙ e

pub fits_more : (source : List ℕ) (notes : List Note) (at i : ℕ) (n : Note) (All : Type 0) → i < length notes → n ≡ get_or notes i n → at ≤ n.start → FitsAlone source n → (Fits source at (drop i notes) → All) → Fits source n.end (drop (i + 1) notes) → All
fits_more source notes at i n All h is order alone f rest =
    f (subst (λ l. Fits source at l) (sym (next_note notes i n h is)) (order, alone, rest))
