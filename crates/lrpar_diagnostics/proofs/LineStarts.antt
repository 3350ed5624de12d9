-- Where lines begin, from one line's end to the next.
use Rattle.std.proofs.Common.{◌≡◌, ℕ, zero, suc, ◌+◌, ◌-◌, ◌<◌, ◌≤◌, ◌==◌, Bool, true, false, not, cond, List, [], ◌∷◌, ◌++◌, length, take, drop, get_or, map, refl, sym, ap, ◌∙◌, arith, append_assoc, append-nil, subst, add-one, length-drop, eq-eqb}
use Rattle.std.specs.Prelude.{slice_range, codes}
use Rattle.std.specs.List.{prefix_len, flat_map, join_by}
use Rattle.std.proofs.Math.Seq.{take-nil, drop-cons}
use Rattle.std.proofs.lemmas.List.{drop-drop, get_or-drop}
use Rattle.std.proofs.lemmas.List.Sums.{prefix_len_stops}
use Rattle.std.proofs.lemmas.Bool.Decides.{nat_tests}
use Rattle.cfg_base.specs.Text.{is_in_line, run_end, line_end}
use Rattle.cfg_base.specs.Newlines.{newline_offsets}
use Rattle.lrpar_diagnostics.specs.Places.{line_starts}

same : (p q n m : ℕ) (xs ys : List ℕ) → p ≡ q → n ≡ m → xs ≡ ys → newline_offsets p (take n xs) ≡ newline_offsets q (take m ys)
same p q n m xs ys e f g = ap (λ i. newline_offsets i (take n xs)) e ∙ (ap (λ i. newline_offsets q (take i xs)) f ∙ ap (λ l. newline_offsets q (take m l)) g)

-- over bytes of a line
walked : (ys : List ℕ) (n p : ℕ) → newline_offsets p (take n ys) ≡ newline_offsets (p + prefix_len is_in_line ys) (take (n - prefix_len is_in_line ys) (drop (prefix_len is_in_line ys) ys))
walked [] n p = ap (newline_offsets p) (take-nil n) ∙ sym (ap (newline_offsets (p + 0)) (take-nil (n - 0)))
walked (c ∷ cs) n p = by_byte (λ m. walked cs m (suc p)) (c == 10) n refl
  where
    by_byte : ((m : ℕ) → newline_offsets (suc p) (take m cs) ≡ newline_offsets (suc p + prefix_len is_in_line cs) (take (m - prefix_len is_in_line cs) (drop (prefix_len is_in_line cs) cs))) → (b : Bool) (n : ℕ) → (c == 10) ≡ b → newline_offsets p (take n (c ∷ cs)) ≡ newline_offsets (p + prefix_len is_in_line (c ∷ cs)) (take (n - prefix_len is_in_line (c ∷ cs)) (drop (prefix_len is_in_line (c ∷ cs)) (c ∷ cs)))
    by_byte more true n e =
        let k : prefix_len is_in_line (c ∷ cs) ≡ 0 = ap (λ t. cond (not t) (1 + prefix_len is_in_line cs) 0) e in
        same p (p + prefix_len is_in_line (c ∷ cs)) n (n - prefix_len is_in_line (c ∷ cs)) (c ∷ cs) (drop (prefix_len is_in_line (c ∷ cs)) (c ∷ cs)) (omega (arith, k)) (omega (arith, k)) (sym (ap (λ i. drop i (c ∷ cs)) k))
    by_byte more false zero e =
        let z : 0 - prefix_len is_in_line (c ∷ cs) ≡ 0 = omega arith in
        sym (ap (λ i. newline_offsets (p + prefix_len is_in_line (c ∷ cs)) (take i (drop (prefix_len is_in_line (c ∷ cs)) (c ∷ cs)))) z)
    by_byte more false (suc m) e =
        let k : prefix_len is_in_line (c ∷ cs) ≡ suc (prefix_len is_in_line cs) = ap (λ t. cond (not t) (1 + prefix_len is_in_line cs) 0) e ∙ omega arith in
        ap (λ t. cond t (p ∷ newline_offsets (suc p) (take m cs)) (newline_offsets (suc p) (take m cs))) e
        ∙ (more m
        ∙ same (suc p + prefix_len is_in_line cs) (p + prefix_len is_in_line (c ∷ cs)) (m - prefix_len is_in_line cs) (suc m - prefix_len is_in_line (c ∷ cs)) (drop (prefix_len is_in_line cs) cs) (drop (prefix_len is_in_line (c ∷ cs)) (c ∷ cs)) (omega (arith, k)) (omega (arith, k)) (sym (ap (λ i. drop i (c ∷ cs)) k)))

-- from a line's first byte to its end
pub skip_line : (text : List ℕ) (p last : ℕ) → newline_offsets p (slice_range text p last) ≡ newline_offsets (line_end text p) (slice_range text (line_end text p) last)
unfolding run_end
skip_line text p last =
    let k = prefix_len is_in_line (drop p text) in
    walked (drop p text) (last - p) p ∙ same (p + k) (p + k) (last - p - k) (last - (p + k)) (drop k (drop p text)) (drop (p + k) text) refl (omega arith) (drop-drop k p text)

-- over a line's LF
pub past_feed : (text : List ℕ) (p last : ℕ) → p < last → last ≤ length text → get_or text p 0 ≡ 10 → newline_offsets p (slice_range text p last) ≡ p ∷ newline_offsets (p + 1) (slice_range text (p + 1) last)
past_feed text p last less within feed =
    let e : last - p ≡ suc (last - (p + 1)) = omega (arith, less) in
    let i : suc p ≡ p + 1 = omega arith in
    same p p (last - p) (suc (last - (p + 1))) (drop p text) (get_or text p 0 ∷ drop (suc p) text) refl e (drop-cons text p 0 (omega (arith, less, within)))
    ∙ (ap (λ t. cond t (p ∷ newline_offsets (suc p) (take (last - (p + 1)) (drop (suc p) text))) (newline_offsets (suc p) (take (last - (p + 1)) (drop (suc p) text)))) (eq-eqb _ 10 feed)
    ∙ ap (λ j. p ∷ newline_offsets j (take (last - (p + 1)) (drop j text))) i)

-- no line begins past the last
pub at_last : (text : List ℕ) (p last : ℕ) → last ≤ p → newline_offsets p (slice_range text p last) ≡ []
at_last text p last h = let e : last - p ≡ 0 = omega (arith, h) in ap (λ n. newline_offsets p (take n (drop p text))) e

not_in_line : (c : ℕ) → is_in_line c ≡ false → c ≡ 10
not_in_line c h = grind (arith, nat_tests)

-- a line ends at an LF or at the text's end
pub ends_at_feed : (text : List ℕ) (p : ℕ) → line_end text p < length text → get_or text (line_end text p) 0 ≡ 10
unfolding run_end
ends_at_feed text p less =
    let k = prefix_len is_in_line (drop p text) in
    sym (get_or-drop p text k 0) ∙ not_in_line _ (prefix_len_stops is_in_line (drop p text) 0 (let n = length-drop p text in omega (arith, less, n)))

-- texts of the lines that begin behind the ends from p on
abbrev pub behind_ends : (ℕ → List ℕ) → List ℕ → ℕ → ℕ → List ℕ
behind_ends line text p last = flat_map (λ a. codes "\n" ++ line a) (map suc (newline_offsets p (slice_range text p last)))

pub next_put : (line : ℕ → List ℕ) (text : List ℕ) (p last : ℕ) (old mid new whole : List ℕ) → p < last → last ≤ length text → get_or text p 0 ≡ 10 → old ++ behind_ends line text p last ≡ whole → mid ≡ old ++ codes "\n" → new ≡ mid ++ line (p + 1) →
    new ++ behind_ends line text (line_end text (p + 1)) last ≡ whole
next_put line text p last old mid new whole less within feed was em en =
    let rest = behind_ends line text (line_end text (p + 1)) last in
    ap (λ l. l ++ rest) (en ∙ ap (λ l. l ++ line (p + 1)) em)
    ∙ (ap (λ l. l ++ rest) (append_assoc old (codes "\n") (line (p + 1)))
    ∙ (append_assoc old (codes "\n" ++ line (p + 1)) rest
    ∙ (ap (λ a. old ++ ((codes "\n" ++ line a) ++ rest)) (add-one p)
    ∙ (ap (λ l. old ++ ((codes "\n" ++ line (suc p)) ++ flat_map (λ a. codes "\n" ++ line a) (map suc l))) (sym (skip_line text (p + 1) last))
    ∙ (ap (λ l. old ++ flat_map (λ a. codes "\n" ++ line a) (map suc l)) (sym (past_feed text p last less within feed))
    ∙ was)))))

pub lines_begin : (line : ℕ → List ℕ) (text : List ℕ) (p last : ℕ) (old : List ℕ) → old ++ behind_ends line text (line_end text p) last ≡ old ++ behind_ends line text p last
lines_begin line text p last old = ap (λ l. old ++ flat_map (λ a. codes "\n" ++ line a) (map suc l)) (sym (skip_line text p last))

pub lines_end : (line : ℕ → List ℕ) (text : List ℕ) (p last : ℕ) (old whole : List ℕ) → last ≤ p → old ++ behind_ends line text p last ≡ whole → old ≡ whole
lines_end line text p last old whole h was = sym (append-nil old) ∙ (sym (ap (λ l. old ++ flat_map (λ a. codes "\n" ++ line a) (map suc l)) (at_last text p last h)) ∙ was)

-- what holds at a line's end: it is within the text, an LF unless the text ends there, and so much is put
pub record AtEnd (line : ℕ → List ℕ) (text : List ℕ) (last : ℕ) (whole : List ℕ) (end : ℕ) (put : List ℕ) : Type 0 where
  pub within : end ≤ length text
  pub feed : end < length text → get_or text end 0 ≡ 10
  pub left : put ++ behind_ends line text end last ≡ whole

pub first_end : (line : ℕ → List ℕ) (text src : List ℕ) (p last end : ℕ) (old : List ℕ) → text ≡ src → end ≡ line_end src p → end ≤ length src → AtEnd line text last (old ++ behind_ends line text p last) end old
first_end line text src p last end old same e within =
    let k : end ≡ line_end text p = e ∙ ap (λ t. line_end t p) (sym same) in
    record {
      within = subst (λ t. end ≤ length t) (sym same) within;
      feed = λ h. ap (λ i. get_or text i 0) k ∙ ends_at_feed text p (subst (λ i. i < length text) k h);
      left = ap (λ i. old ++ behind_ends line text i last) k ∙ lines_begin line text p last old;
    }

pub next_end : (line : ℕ → List ℕ) (text src : List ℕ) (p last end : ℕ) (old mid new whole : List ℕ) → text ≡ src → AtEnd line text last whole p old → p < last → last ≤ length text → end ≡ line_end src (p + 1) → end ≤ length src → mid ≡ old ++ codes "\n" → new ≡ mid ++ line (p + 1) → AtEnd line text last whole end new
next_end line text src p last end old mid new whole same was less inside e within em en =
    let k : end ≡ line_end text (p + 1) = e ∙ ap (λ t. line_end t (p + 1)) (sym same) in
    record {
      within = subst (λ t. end ≤ length t) (sym same) within;
      feed = λ h. ap (λ i. get_or text i 0) k ∙ ends_at_feed text (p + 1) (subst (λ i. i < length text) k h);
      left = ap (λ i. new ++ behind_ends line text i last) k ∙ next_put line text p last old mid new whole less inside (was.feed (omega (arith, less, inside))) was.left em en;
    }

-- the first line, those behind it, and a message
pub lines_put : (line : ℕ → List ℕ) (text : List ℕ) (p q first last : ℕ) (message old one more space new : List ℕ) → first ≡ p → last ≡ q → one ≡ old ++ line first → more ≡ one ++ behind_ends line text first last → space ≡ more ++ codes " " → new ≡ space ++ message →
    new ≡ old ++ (join_by line (codes "\n") (line_starts text p q) ++ codes " " ++ message)
lines_put line text p q first last message old one more space new ep eq e1 e2 e3 e4 =
    let rest = behind_ends line text first last in
    e4 ∙ (ap (λ l. l ++ message) (e3 ∙ ap (λ l. l ++ codes " ") (e2 ∙ ap (λ l. l ++ rest) e1))
    ∙ (ap (λ l. (l ++ codes " ") ++ message) (append_assoc old (line first) rest)
    ∙ (ap (λ l. l ++ message) (append_assoc old (line first ++ rest) (codes " "))
    ∙ (append_assoc old ((line first ++ rest) ++ codes " ") message
    ∙ (ap (λ i. old ++ (((line i ++ behind_ends line text i last) ++ codes " ") ++ message)) ep
    ∙ ap (λ i. old ++ (((line p ++ behind_ends line text p i) ++ codes " ") ++ message)) eq)))))
