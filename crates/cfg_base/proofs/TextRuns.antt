-- Runs of bytes and where they may be cut, the first offset that passes a test, and how far a gap's part goes.
use Rattle.std.proofs.Common.{◌≡◌, ℕ, zero, suc, ◌+◌, ◌-◌, ◌<◌, ◌≤◌, Bool, true, false, List, length, drop, get_or, Option, Some, None, refl, sym, ap, ◌∙◌, subst, arith}
use Rattle.std.specs.Prelude.{slice_get, unwrap_or}
use Rattle.std.specs.List.{prefix_len}
use Rattle.std.specs.Str.{IsUtf8, IsCharBoundary}
use Rattle.std.proofs.iter.FirstChar.{beside_ascii}
use Rattle.std.proofs.lemmas.Bool.Decides.{nat_tests}
use Rattle.std.proofs.lemmas.Option.{slice_get_within, unwrap_or-slice_get}
use Rattle.std.proofs.lemmas.List.{get_or-drop, length-drop}
use Rattle.std.proofs.lemmas.List.Sums.{prefix_len-drop_yes, prefix_len_passes, prefix_len-le-length}
use Rattle.cfg_base.specs.declared.text.GapPart.{GapPart}
use Rattle.cfg_base.specs.declared.text.GapPart.TheVariants as gaps
use Rattle.cfg_base.specs.Text.{is_white, is_digit, is_in_line, passes, stands, is_at, run_end, first_among, first_offset, comment_end, comment_part, gap_at, FitsWord}

pub read_at : (text : List ℕ) (a b : ℕ) → slice_get text a ≡ Some b → get_or text a 0 ≡ b
read_at text a b h = sym (unwrap_or-slice_get text a 0) ∙ ap (λ o. unwrap_or o 0) h

-- an ASCII byte may be cut off on both sides
pub cut_before : (text : List ℕ) (a b : ℕ) → IsUtf8 text → slice_get text a ≡ Some b → b < 128 → IsCharBoundary text a
cut_before text a b utf8 h ascii = (beside_ascii text a utf8 (slice_get_within text a b h) (rw (read_at text a b h) ascii)).0

pub cut_behind : (text : List ℕ) (a b : ℕ) → IsUtf8 text → slice_get text a ≡ Some b → b < 128 → IsCharBoundary text (a + 1)
cut_behind text a b utf8 h ascii = (beside_ascii text a utf8 (slice_get_within text a b h) (rw (read_at text a b h) ascii)).1

pub cut_two : (text : List ℕ) (a b : ℕ) → IsUtf8 text → slice_get text (a + 1) ≡ Some b → b < 128 → (a + 2 ≤ length text) × IsCharBoundary text (a + 2)
cut_two text a b utf8 h ascii =
    let e : a + 2 ≡ a + 1 + 1 = omega arith in
    let within : a + 1 < length text = slice_get_within text (a + 1) b h in
    (omega arith, rw e (cut_behind text (a + 1) b utf8 h ascii))

pub cut_one : (text : List ℕ) (a b : ℕ) → IsUtf8 text → slice_get text a ≡ Some b → b < 128 → (a < length text) × IsCharBoundary text (a + 1)
cut_one text a b utf8 h ascii = (slice_get_within text a b h, cut_behind text a b utf8 h ascii)

run_last : (p : ℕ → Bool) (text : List ℕ) (a n : ℕ) → n < prefix_len p (drop a text) → p (get_or text (a + n) 0) ≡ true
run_last p text a n h = rw (← get_or-drop a text n 0) (prefix_len_passes p (drop a text) n 0 h)

pub run_cut : (p : ℕ → Bool) → ((c : ℕ) → p c ≡ true → c < 128) → (text : List ℕ) (a n : ℕ) → IsUtf8 text → IsCharBoundary text a → n ≤ prefix_len p (drop a text) → a + n ≤ length text → IsCharBoundary text (a + n)
run_cut p ascii text a zero utf8 at h within = let e : a + 0 ≡ a = omega arith in rw e at
run_cut p ascii text a (suc n) utf8 at h within =
    let e : a + suc n ≡ a + n + 1 = omega arith in
    rw e (beside_ascii text (a + n) utf8 (omega arith) (ascii _ (run_last p text a n (omega arith)))).1

-- behind a run of ASCII bytes
pub run_end_cut : (p : ℕ → Bool) → ((c : ℕ) → p c ≡ true → c < 128) → (text : List ℕ) (a : ℕ) → IsUtf8 text → a ≤ length text → IsCharBoundary text a → IsCharBoundary text (run_end p text a)
unfolding run_end
run_end_cut p ascii text a utf8 within at =
    let le = prefix_len-le-length p (drop a text) in
    let len = length-drop a text in
    run_cut p ascii text a (prefix_len p (drop a text)) utf8 at (omega arith) (omega arith)

-- one byte or more passes
pub run_more : (p : ℕ → Bool) (text : List ℕ) (a b : ℕ) → slice_get text a ≡ Some b → p b ≡ true → prefix_len p (drop a text) ≡ 1 + prefix_len p (drop (a + 1) text)
run_more p text a b h t = prefix_len-drop_yes p text a 0 (slice_get_within text a b h) (ap p (read_at text a b h) ∙ t)

-- the longest run of ASCII bytes that this byte begins
pub run_word : (p : ℕ → Bool) → ((c : ℕ) → p c ≡ true → c < 128) → (text : List ℕ) (a b : ℕ) → IsUtf8 text → slice_get text a ≡ Some b → p b ≡ true → FitsWord text a (run_end p text a)
unfolding run_end
run_word p ascii text a b utf8 h t =
    let e = run_more p text a b h t in
    let le = prefix_len-le-length p (drop a text) in
    let len = length-drop a text in
    let before : a < length text = slice_get_within text a b h in
    let at : IsCharBoundary text a = cut_before text a b utf8 h (ascii b t) in
    record {
      more = omega arith;
      within = omega arith;
      start = at;
      end = run_cut p ascii text a (prefix_len p (drop a text)) utf8 at (omega arith) (omega arith);
    }

-- one ASCII byte, as a word
pub one_byte : (text : List ℕ) (a b : ℕ) → IsUtf8 text → slice_get text a ≡ Some b → b < 128 → FitsWord text a (a + 1)
one_byte text a b utf8 h ascii =
    let before : a < length text = slice_get_within text a b h in
    record { more = omega arith; within = omega arith; start = cut_before text a b utf8 h ascii; end = cut_behind text a b utf8 h ascii }

pub run_from : (p : ℕ → Bool) (text : List ℕ) (a : ℕ) → a ≤ run_end p text a
unfolding run_end
run_from p text a = omega arith

-- a run that a byte begins isn't empty
pub run_beyond : (p : ℕ → Bool) (text : List ℕ) (a b : ℕ) → slice_get text a ≡ Some b → p b ≡ true → a < run_end p text a
unfolding run_end
run_beyond p text a b h t = let e = run_more p text a b h t in omega (arith, e)

pub digit_ascii : (c : ℕ) → is_digit c ≡ true → c < 128
digit_ascii c h = grind (arith, nat_tests)

pub first_here : (p : ℕ → Bool) (a b : ℕ) → a < b → p a ≡ true → first_offset p a b ≡ Some a
unfolding first_offset
first_here p a b h e = let n : b - a ≡ suc (b - (a + 1)) = omega arith in rw (n, e) refl

pub first_step : (p : ℕ → Bool) (a b : ℕ) → a < b → p a ≡ false → first_offset p a b ≡ first_offset p (a + 1) b
unfolding first_offset
first_step p a b h e = let n : b - a ≡ suc (b - (a + 1)) = omega arith in rw (n, e) refl

pub first_end : (p : ℕ → Bool) (a b : ℕ) → b ≤ a → first_offset p a b ≡ None
unfolding first_offset
first_end p a b h = let n : b - a ≡ 0 = omega arith in rw n refl

first_among_from : (p : ℕ → Bool) (n a c : ℕ) → first_among p n a ≡ Some c → a ≤ c
first_among_from p zero a c h = absurd cc
first_among_from p (suc n) a c h = go (p a) refl h (λ k. first_among_from p n (a + 1) c k)
  where
    same : Some a ≡ Some c → a ≡ c
    same q = cc

    go : (t : Bool) → p a ≡ t → first_among p (suc n) a ≡ Some c → (first_among p n (a + 1) ≡ Some c → a + 1 ≤ c) → a ≤ c
    go true e k r = let q = same (rw e at k) in omega (arith, q)
    go false e k r = let q : a + 1 ≤ c = r (rw e at k) in omega (arith, q)

pub first_offset_from : (p : ℕ → Bool) (a b c : ℕ) → first_offset p a b ≡ Some c → a ≤ c
unfolding first_offset
first_offset_from p a b c h = first_among_from p (b - a) a c h

pub stands_within : (text : List ℕ) (a : ℕ) (p : ℕ → Bool) → stands text a p ≡ true → a < length text
stands_within text a p h = go (slice_get text a) refl h
  where
    go : (o : Option ℕ) → slice_get text a ≡ o → passes p o ≡ true → a < length text
    go None e h = absurd cc
    go (Some b) e h = slice_get_within text a b e

-- a part of a gap stands within the text, and ends behind its offset
abbrev pub GapAdvances : List ℕ → ℕ → GapPart → Type 0
GapAdvances text a (gaps.Part b) = (a < length text) × (a < b)
GapAdvances text a _ = Unit {0}

comment_advances : (text : List ℕ) (a : ℕ) (o : Option ℕ) → a < length text → comment_end text (a + 2) ≡ o → GapAdvances text a (comment_part o)
comment_advances text a None h e = tt
comment_advances text a (Some b) h e = (h, let from = first_offset_from _ _ _ b e in omega (arith, from))

pub gap_advances : (text : List ℕ) (a : ℕ) → GapAdvances text a (gap_at text a)
unfolding gap_at
gap_advances text a = go (stands text a is_white) refl (is_at text a 47) refl (is_at text (a + 1) 47) refl (is_at text (a + 1) 42) refl
  where
    go : (w : Bool) → stands text a is_white ≡ w → (s : Bool) → is_at text a 47 ≡ s → (t : Bool) → is_at text (a + 1) 47 ≡ t → (u : Bool) → is_at text (a + 1) 42 ≡ u → GapAdvances text a (gap_at text a)
    go true e₁ s e₂ t e₃ u e₄ = rw e₁ (stands_within text a is_white e₁, omega arith)
    go false e₁ false e₂ t e₃ u e₄ = rw (e₁, e₂) tt
    go false e₁ true e₂ true e₃ u e₄ = rw (e₁, e₂, e₃) (stands_within text a _ e₂, let from = run_from is_in_line text (a + 2) in omega (arith, from))
    go false e₁ true e₂ false e₃ true e₄ = rw (e₁, e₂, e₃, e₄) (comment_advances text a (comment_end text (a + 2)) (stands_within text a _ e₂) refl)
    go false e₁ true e₂ false e₃ false e₄ = rw (e₁, e₂, e₃, e₄) tt

pub gap_more : (text : List ℕ) (a b : ℕ) → gap_at text a ≡ gaps.Part b → (a < length text) × (a < b)
gap_more text a b e = subst (GapAdvances text a) e (gap_advances text a)
