-- The places of the result rise, and each note lies in the source.
use Rattle.std.proofs.Common.{◌≡◌, ℕ, ◌+◌, ◌≤◌, List, [], ◌∷◌, ◌++◌, length, map, slice_range, Option, None, Some, String, string_bytes, sym, ap, ◌∙◌, subst, arith, le_trans, le_refl}
use Rattle.std.proofs.lemmas.List.{map-append, length-map}
use Rattle.std.proofs.lemmas.List.Elements.{All-nil, All-cons}
use Rattle.std.specs.List.{All}
use Rattle.std.specs.declared.alloc.Global.{Global}
use Rattle.yacc_import.specs.declared.marks.Mark.{Mark}
use Rattle.yacc_import.specs.declared.notes.Note.{Note}
use Rattle.yacc_import.specs.Changes.{blank_of, marks_of, put_at, text_or_blanks, in_place, changed, places_of, Rises, LiesIn, Fits}
use Rattle.yacc_import.proofs.Parts.{length-part}

Rises-weaker : (a b high : ℕ) (qs : List ℕ) → a ≤ b → Rises b qs high → Rises a qs high
Rises-weaker a b high [] h r = le_trans h r
Rises-weaker a b high (q ∷ qs) h r = (le_trans h r.0, r.1)

Rises-append : (a b high : ℕ) (ps qs : List ℕ) → Rises a ps b → Rises b qs high → Rises a (ps ++ qs) high
Rises-append a b high [] qs r s = Rises-weaker a b high qs r s
Rises-append a b high (p ∷ ps) qs r s = (r.0, Rises-append p b high ps qs r.1 s)

Rises-marks : (at high : ℕ) (xs : List ℕ) → at + length xs ≡ high → Rises at (places_of (marks_of at xs)) high
Rises-marks at high [] e = omega (arith, e)
Rises-marks at high (x ∷ xs) e =
    let e' : at + 1 + length xs ≡ high = omega (arith, e) in
    (le_refl at, Rises-weaker at (at + 1) high (places_of (marks_of (at + 1) xs)) (omega arith) (Rises-marks (at + 1) high xs e'))

Rises-put : (at high : ℕ) (xs : List ℕ) → at ≤ high → Rises at (places_of (put_at at xs)) high
Rises-put at high [] h = h
Rises-put at high (x ∷ xs) h = (le_refl at, Rises-put at high xs h)

Rises-in_place : (source : List ℕ) (n : Note) (t : Option (String Global)) → LiesIn (length source) n → Rises n.start (places_of (text_or_blanks source n t)) n.end
Rises-in_place source n None lies =
    let part = slice_range source n.start n.end in
    Rises-marks n.start n.end (map blank_of part) (ap (λ l. n.start + l) (length-map part blank_of) ∙ length-part source n.start n.end lies.order lies.within)
Rises-in_place source n (Some t) lies = Rises-put n.start n.end (string_bytes t) lies.order

places-append : (xs ys : List Mark) → places_of (xs ++ ys) ≡ places_of xs ++ places_of ys
places-append xs ys = map-append (λ m. m.place) xs ys

Rises-joined : (a b high : ℕ) (xs ys : List Mark) → Rises a (places_of xs) b → Rises b (places_of ys) high → Rises a (places_of (xs ++ ys)) high
Rises-joined a b high xs ys r s = subst (λ l. Rises a l high) (sym (places-append xs ys)) (Rises-append a b high (places_of xs) (places_of ys) r s)

Rises-changed : (source : List ℕ) (at : ℕ) (ns : List Note) → Fits source at ns → Rises at (places_of (changed source at ns)) (length source)
Rises-changed source at [] fits = Rises-marks at (length source) (slice_range source at (length source)) (length-part source at (length source) fits (le_refl (length source)))
Rises-changed source at (n ∷ ns) fits =
    let A = marks_of at (slice_range source at n.start) in
    let B = in_place source n in
    let C = changed source n.end ns in
    let len = length source in
    let a : Rises at (places_of A) n.start = Rises-marks at n.start (slice_range source at n.start) (length-part source at n.start fits.0 (le_trans fits.1.lies.order fits.1.lies.within)) in
    let b : Rises n.start (places_of B) n.end = Rises-in_place source n n.text fits.1.lies in
    let c : Rises n.end (places_of C) len = Rises-changed source n.end ns fits.2 in
    Rises-joined at n.end len (A ++ B) C (Rises-joined at n.start n.end A B a b) c

pub places_rise : (source : List ℕ) (ns : List Note) → Fits source 0 ns → Rises 0 (places_of (changed source 0 ns)) (length source)
places_rise source ns fits = Rises-changed source 0 ns fits

notes-lie : (source : List ℕ) (at : ℕ) (ns : List Note) → Fits source at ns → All (LiesIn (length source)) ns
notes-lie source at [] fits = All-nil (LiesIn (length source))
notes-lie source at (n ∷ ns) fits = All-cons (LiesIn (length source)) n ns fits.1.lies (notes-lie source n.end ns fits.2)

pub notes_lie : (source : List ℕ) (ns : List Note) → Fits source 0 ns → All (LiesIn (length source)) ns
notes_lie source ns fits = notes-lie source 0 ns fits
