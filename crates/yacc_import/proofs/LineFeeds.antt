-- Line feeds stay where they are.
use Rattle.std.proofs.Common.{◌≡◌, ℕ, ◌+◌, ◌≤◌, Bool, true, false, cond, ◌||◌, List, [], ◌∷◌, ◌++◌, length, drop, slice_range, Option, None, Some, String, nat_eq, string_bytes, refl, sym, ap, ◌∙◌, append_assoc, true≢false, le_trans}
use Rattle.std.proofs.lemmas.Bool.{eqb-true}
use Rattle.std.proofs.lemmas.List.Elements.{filter-append}
use Rattle.std.specs.declared.alloc.Global.{Global}
use Rattle.yacc_import.specs.declared.marks.Mark.{Mark}
use Rattle.yacc_import.specs.declared.notes.Note.{Note}
use Rattle.yacc_import.specs.Changes.{mark, marks_of, blanks_of, put_at, text_or_blanks, in_place, changed, is_line_feed, has_line_feed, line_feeds, KeepsLines, Fits}
use Rattle.yacc_import.proofs.Parts.{marks-part, part_rest}

feeds-append : (xs ys : List Mark) → line_feeds (xs ++ ys) ≡ line_feeds xs ++ line_feeds ys
feeds-append xs ys = filter-append (λ m. is_line_feed m.byte) xs ys

-- a byte and the blank for it, by which of the three that stay the byte is
blank_case : (t u v : Bool) (at x : ℕ) (rest rest' : List Mark) → (t ≡ true → x ≡ 10) → rest ≡ rest' → cond (is_line_feed (cond t 10 (cond u 9 (cond v 13 32)))) (mark at (cond t 10 (cond u 9 (cond v 13 32))) ∷ rest) rest ≡ cond t (mark at x ∷ rest') rest'
blank_case true u v at x rest rest' f e = ap (λ l. mark at 10 ∷ l) e ∙ ap (λ b. mark at b ∷ rest') (sym (f refl))
blank_case false true v at x rest rest' f e = e
blank_case false false true at x rest rest' f e = e
blank_case false false false at x rest rest' f e = e

feeds-blanks : (at : ℕ) (xs : List ℕ) → line_feeds (blanks_of at xs) ≡ line_feeds (marks_of at xs)
feeds-blanks at [] = refl
feeds-blanks at (x ∷ xs) = blank_case (nat_eq x 10) (nat_eq x 9) (nat_eq x 13) at x (line_feeds (blanks_of (at + 1) xs)) (line_feeds (marks_of (at + 1) xs)) (eqb-true x 10) (feeds-blanks (at + 1) xs)

none_first : (b c : Bool) (m : Mark) (rest : List Mark) → (b || c) ≡ false → (c ≡ false → rest ≡ []) → cond b (m ∷ rest) rest ≡ []
none_first true c m rest h f = absurd (true≢false h)
none_first false c m rest h f = f h

feeds-none : (at : ℕ) (xs : List ℕ) → has_line_feed xs ≡ false → line_feeds (marks_of at xs) ≡ []
feeds-none at [] h = refl
feeds-none at (x ∷ xs) h = none_first (nat_eq x 10) (has_line_feed xs) (mark at x) (line_feeds (marks_of (at + 1) xs)) h (feeds-none (at + 1) xs)

feeds-put : (at : ℕ) (xs : List ℕ) → has_line_feed xs ≡ false → line_feeds (put_at at xs) ≡ []
feeds-put at [] h = refl
feeds-put at (x ∷ xs) h = none_first (nat_eq x 10) (has_line_feed xs) (mark at x) (line_feeds (put_at at xs)) h (feeds-put at xs)

feeds-in_place : (source : List ℕ) (n : Note) (t : Option (String Global)) → n.text ≡ t → KeepsLines source n → line_feeds (text_or_blanks source n t) ≡ line_feeds (marks_of n.start (slice_range source n.start n.end))
feeds-in_place source n None e k = feeds-blanks n.start (slice_range source n.start n.end)
feeds-in_place source n (Some t) e k = feeds-put n.start (string_bytes t) (k t e).0 ∙ sym (feeds-none n.start (slice_range source n.start n.end) (k t e).1)

-- the line feeds of a source from a place on, before a note, in its range and behind it
feeds-parts : (source : List ℕ) (a b c : ℕ) → a ≤ b → b ≤ c → c ≤ length source → line_feeds (marks_of a (drop a source)) ≡ (line_feeds (marks_of a (slice_range source a b)) ++ line_feeds (marks_of b (slice_range source b c))) ++ line_feeds (marks_of c (drop c source))
feeds-parts source a b c h k m =
    let A = marks_of a (slice_range source a b) in
    let B = marks_of b (slice_range source b c) in
    let C = marks_of c (drop c source) in
    ap line_feeds (marks-part source a b h (le_trans k m))
    ∙ feeds-append A (marks_of b (drop b source))
    ∙ ap (λ l. line_feeds A ++ l) (ap line_feeds (marks-part source b c k m) ∙ feeds-append B C)
    ∙ sym (append_assoc (line_feeds A) (line_feeds B) (line_feeds C))

pub feeds-changed : (source : List ℕ) (at : ℕ) (ns : List Note) → Fits source at ns → line_feeds (changed source at ns) ≡ line_feeds (marks_of at (drop at source))
feeds-changed source at [] fits = ap (λ l. line_feeds (marks_of at l)) (part_rest source at)
feeds-changed source at (n ∷ ns) fits =
    let A = marks_of at (slice_range source at n.start) in
    let B = in_place source n in
    let C = changed source n.end ns in
    let b : line_feeds B ≡ line_feeds (marks_of n.start (slice_range source n.start n.end)) = feeds-in_place source n n.text refl fits.1.lines in
    let c : line_feeds C ≡ line_feeds (marks_of n.end (drop n.end source)) = feeds-changed source n.end ns fits.2 in
    feeds-append (A ++ B) C
    ∙ ap (λ l. l ++ line_feeds C) (feeds-append A B)
    ∙ ap (λ l. (line_feeds A ++ l) ++ line_feeds C) b
    ∙ ap (λ l. (line_feeds A ++ line_feeds (marks_of n.start (slice_range source n.start n.end))) ++ l) c
    ∙ sym (feeds-parts source at n.start n.end fits.0 fits.1.lies.order fits.1.lies.within)

-- all line feeds of a source are in the result, at their places, and no others
pub line_feeds_stay : (source : List ℕ) (ns : List Note) → Fits source 0 ns → line_feeds (changed source 0 ns) ≡ line_feeds (marks_of 0 source)
line_feeds_stay source ns fits = feeds-changed source 0 ns fits
