-- Each byte of the result is the source's, a blank, or of a text that a note puts.
use Rattle.std.proofs.Common.{◌≡◌, ℕ, zero, suc, ◌+◌, ◌<◌, ◌≤◌, List, [], ◌∷◌, ◌++◌, length, get_or, take, drop, slice_range, slice_index, Option, None, Some, String, string_bytes, refl, sym, ap, ◌∙◌, arith, append_assoc, length-append, take-append-drop, length-take-le, le_trans, le_refl}
use Rattle.std.proofs.lemmas.List.{get_or_at, get_or_default}
use Rattle.std.proofs.lemmas.List.Elements.{All-append, All-nil, All-cons, All-map}
use Rattle.std.specs.List.{All, IsAmong}
use Rattle.std.specs.declared.alloc.Global.{Global}
use Rattle.yacc_import.specs.declared.notes.Note.{Note}
use Rattle.yacc_import.specs.Changes.{blank_of, mark, marks_of, blanks_of, put_at, text_or_blanks, in_place, changed, Fits, LiesIn, IsFor, kept, blanked, put}
use Rattle.yacc_import.proofs.Parts.{part-drop}

-- the byte of a source behind a front
at-front : (source front rest : List ℕ) (x at : ℕ) → source ≡ front ++ x ∷ rest → length front ≡ at → x ≡ slice_index source at
at-front source front rest x at e h = sym (ap (λ l. get_or l at 0) e ∙ get_or_at front x rest 0 at h)

in-front : (source front rest : List ℕ) (x at : ℕ) → source ≡ front ++ x ∷ rest → length front ≡ at → at < length source
in-front source front rest x at e h =
    let size : length source ≡ length front + suc (length rest) = ap length e ∙ length-append front (x ∷ rest) in
    omega (arith, size, h)

next-front : (source front rest : List ℕ) (x : ℕ) → source ≡ front ++ x ∷ rest → source ≡ (front ++ x ∷ []) ++ rest
next-front source front rest x e = e ∙ sym (append_assoc front (x ∷ []) rest)

next-length : (front : List ℕ) (x at : ℕ) → length front ≡ at → length (front ++ x ∷ []) ≡ at + 1
next-length front x at h = length-append front (x ∷ []) ∙ ap (λ n. n + 1) h

each-kept : (source : List ℕ) (notes : List Note) (front xs back : List ℕ) (at : ℕ) → source ≡ front ++ (xs ++ back) → length front ≡ at → All (IsFor source notes) (marks_of at xs)
each-kept source notes front [] back at e h = All-nil (IsFor source notes)
each-kept source notes front (x ∷ xs) back at e h =
    All-cons (IsFor source notes) (mark at x) (marks_of (at + 1) xs)
    (kept (in-front source front (xs ++ back) x at e h) (at-front source front (xs ++ back) x at e h))
    (each-kept source notes (front ++ x ∷ []) xs back (at + 1) (next-front source front (xs ++ back) x e) (next-length front x at h))

each-blank : (source : List ℕ) (notes : List Note) (front xs back : List ℕ) (at : ℕ) → source ≡ front ++ (xs ++ back) → length front ≡ at → All (IsFor source notes) (blanks_of at xs)
each-blank source notes front [] back at e h = All-nil (IsFor source notes)
each-blank source notes front (x ∷ xs) back at e h =
    All-cons (IsFor source notes) (mark at (blank_of x)) (blanks_of (at + 1) xs)
    (blanked (in-front source front (xs ++ back) x at e h) (ap blank_of (at-front source front (xs ++ back) x at e h)))
    (each-blank source notes (front ++ x ∷ []) xs back (at + 1) (next-front source front (xs ++ back) x e) (next-length front x at h))

-- a source as what is before a part, the part, and what is behind it
around : (source : List ℕ) (a b : ℕ) → a ≤ b → source ≡ take a source ++ (slice_range source a b ++ drop b source)
around source a b h = sym (take-append-drop a source) ∙ ap (λ l. take a source ++ l) (part-drop source a b h)

each-kept_part : (source : List ℕ) (notes : List Note) (a b : ℕ) → a ≤ b → b ≤ length source → All (IsFor source notes) (marks_of a (slice_range source a b))
each-kept_part source notes a b h k = each-kept source notes (take a source) (slice_range source a b) (drop b source) a (around source a b h) (length-take-le a source (le_trans h k))

each-put : (source : List ℕ) (notes : List Note) (n : Note) (t : String Global) → IsAmong notes n → n.text ≡ Some t → All (IsFor source notes) (put_at n.start (string_bytes t))
each-put source notes n t among e =
    All-map (IsFor source notes) (mark n.start) (string_bytes t) (λ k d h. put n t among refl e (k, (h, get_or_default (string_bytes t) k d (get_or (string_bytes t) k d) h)))

each-in_place : (source : List ℕ) (notes : List Note) (n : Note) (t : Option (String Global)) → IsAmong notes n → n.text ≡ t → LiesIn (length source) n → All (IsFor source notes) (text_or_blanks source n t)
each-in_place source notes n None among e lies = each-blank source notes (take n.start source) (slice_range source n.start n.end) (drop n.end source) n.start (around source n.start n.end lies.order) (length-take-le n.start source (le_trans lies.order lies.within))
each-in_place source notes n (Some t) among e lies = each-put source notes n t among e

among-first : (n : Note) (ns : List Note) → IsAmong (n ∷ ns) n
among-first n ns = (zero, (omega arith, refl))

among-later : (n m : Note) (ns : List Note) → IsAmong ns m → IsAmong (n ∷ ns) m
among-later n m ns p = (suc p.0, (omega (arith, p.1.0), p.1.1))

each-changed : (source : List ℕ) (notes : List Note) (at : ℕ) (ns : List Note) → ((m : Note) → IsAmong ns m → IsAmong notes m) → Fits source at ns → All (IsFor source notes) (changed source at ns)
each-changed source notes at [] sub fits = each-kept_part source notes at (length source) fits (le_refl (length source))
each-changed source notes at (n ∷ ns) sub fits =
    let A = marks_of at (slice_range source at n.start) in
    let B = in_place source n in
    let P = IsFor source notes in
    All-append P (A ++ B) (changed source n.end ns)
    (All-append P A B
    (each-kept_part source notes at n.start fits.0 (le_trans fits.1.lies.order fits.1.lies.within))
    (each-in_place source notes n n.text (sub n (among-first n ns)) refl fits.1.lies))
    (each-changed source notes n.end ns (λ m h. sub m (among-later n m ns h)) fits.2)

pub each_byte_is_for : (source : List ℕ) (ns : List Note) → Fits source 0 ns → All (IsFor source ns) (changed source 0 ns)
each_byte_is_for source ns fits = each-changed source ns 0 ns (λ m h. h) fits
