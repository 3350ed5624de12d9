-- Parts of a text: their bytes, and where they may be cut.
use Rattle.std.proofs.Common.{◌≡◌, ℕ, zero, suc, ◌+◌, ◌-◌, ◌<◌, ◌≤◌, ◌^◌, Bool, true, false, List, [], ◌∷◌, ◌++◌, length, drop, take, get_or, Option, Some, None, Result, Ok, Err, refl, sym, ap, ◌∙◌, subst, arith}
use Rattle.std.specs.Prelude.{slice_get, slice_range, reverse, nat_lt, nat_eq, ◌&&◌}
use Rattle.std.specs.Int.{IsInRange}
use Rattle.std.specs.List.{prefix_len, suffix_len, filter}
use Rattle.std.specs.Result.{result_ok, OkIff}
use Rattle.std.specs.Str.{IsUtf8, IsCharBoundary}
use Rattle.std.specs.Str.Parse.{ParsesUnsigned, digits_value}
use Rattle.std.proofs.iter.FirstChar.{beside_ascii}
use Rattle.std.proofs.lemmas.Bool.{lt-ltb, le-ltb, eqb-true, ltb-true, ltb-false}
use Rattle.std.proofs.lemmas.Bool.Decides.{nat_tests}
use Rattle.std.proofs.lemmas.List.{get_or-take, get_or-drop, get_or-reverse, length-take, length-drop, length-reverse, take-take, drop-take, drop-drop}
use Rattle.std.proofs.lemmas.List.Sums.{prefix_len_passes, prefix_len_stops, prefix_len-le-length}
use Rattle.std.proofs.lemmas.Str.Parse.{parse_digits, numerals_by_value, tells_by_index}
use Rattle.cfg_base.specs.Text.{is_white, is_digit, is_in_line, line_end, run_end, passes}
use Rattle.cfg_read.specs.Bytes.{is_quote, is_keyword_byte, is_plain, trim_start, trim_end}
use Rattle.cfg_read.specs.Words.{number_of, keyword_end, is_lone_colon}
use Rattle.cfg_read.specs.Scanning.{FitsPart}
use Rattle.cfg_base.proofs.TextRuns.{run_cut}

pub length_part : (text : List ℕ) (a b : ℕ) → b ≤ length text → length (slice_range text a b) ≡ b - a
length_part text a b h = let t = length-take (b - a) (drop a text) in let d = length-drop a text in omega (arith, t, d)

pub get_part : (text : List ℕ) (a b k : ℕ) → k < b - a → get_or (slice_range text a b) k 0 ≡ get_or text (a + k) 0
get_part text a b k h = get_or-take (b - a) (drop a text) k 0 h ∙ get_or-drop a text k 0

pub white_ascii : (c : ℕ) → is_white c ≡ true → c < 128
white_ascii c h = grind (arith, nat_tests)

pub keyword_ascii : (c : ℕ) → is_keyword_byte c ≡ true → c < 128
keyword_ascii c h = grind (arith, nat_tests)

-- behind ASCII bytes of a part
cut_after : (p : ℕ → Bool) → ((c : ℕ) → p c ≡ true → c < 128) → (text : List ℕ) (a b n : ℕ) → IsUtf8 text → FitsPart text a b → n ≤ prefix_len p (slice_range text a b) → IsCharBoundary text (a + n)
cut_after p ascii text a b zero utf8 fits h = let e : a + 0 ≡ a = omega arith in rw e fits.start
cut_after p ascii text a b (suc n) utf8 fits h =
    let within : b ≤ length text = fits.end.0 in
    let len = length_part text a b within in
    let le = prefix_len-le-length p (slice_range text a b) in
    let passes : p (get_or (slice_range text a b) n 0) ≡ true = prefix_len_passes p (slice_range text a b) n 0 (omega arith) in
    let byte = get_part text a b n (omega arith) in
    let e : a + suc n ≡ a + n + 1 = omega arith in
    rw e (beside_ascii text (a + n) utf8 (omega arith) (ascii _ (ap p (sym byte) ∙ passes))).1

pub fits_after : (p : ℕ → Bool) → ((c : ℕ) → p c ≡ true → c < 128) → (text : List ℕ) (a b n : ℕ) → IsUtf8 text → FitsPart text a b → n ≡ prefix_len p (slice_range text a b) → FitsPart text (a + n) b
fits_after p ascii text a b n utf8 fits h =
    let within : b ≤ length text = fits.end.0 in
    let order : a ≤ b = fits.order in
    let len = length_part text a b within in
    let le = prefix_len-le-length p (slice_range text a b) in
    record { order = omega arith; start = cut_after p ascii text a b n utf8 fits (omega arith); end = fits.end }

-- before ASCII bytes of a part
cut_before_end : (p : ℕ → Bool) → ((c : ℕ) → p c ≡ true → c < 128) → (text : List ℕ) (a b n : ℕ) → IsUtf8 text → FitsPart text a b → n ≤ suffix_len p (slice_range text a b) → IsCharBoundary text (b - n)
cut_before_end p ascii text a b zero utf8 fits h = let e : b - 0 ≡ b = omega arith in rw e fits.end
cut_before_end p ascii text a b (suc n) utf8 fits h =
    let within : b ≤ length text = fits.end.0 in
    let order : a ≤ b = fits.order in
    let xs = slice_range text a b in
    let len = length_part text a b within in
    let le = prefix_len-le-length p (reverse xs) in
    let rev = length-reverse xs in
    let passes : p (get_or (reverse xs) n 0) ≡ true = prefix_len_passes p (reverse xs) n 0 (omega arith) in
    let turned = get_or-reverse xs n 0 (omega arith) in
    let byte = get_part text a b (length xs - 1 - n) (omega arith) in
    let e : a + (length xs - 1 - n) ≡ b - suc n = omega arith in
    let same : get_or (reverse xs) n 0 ≡ get_or text (b - suc n) 0 = turned ∙ byte ∙ ap (λ i. get_or text i 0) e in
    (beside_ascii text (b - suc n) utf8 (omega arith) (ascii _ (ap p (sym same) ∙ passes))).0

pub fits_before_end : (p : ℕ → Bool) → ((c : ℕ) → p c ≡ true → c < 128) → (text : List ℕ) (a b n : ℕ) → IsUtf8 text → FitsPart text a b → n ≡ suffix_len p (slice_range text a b) → FitsPart text a (b - n)
fits_before_end p ascii text a b n utf8 fits h =
    let within : b ≤ length text = fits.end.0 in
    let order : a ≤ b = fits.order in
    let len = length_part text a b within in
    let le = prefix_len-le-length p (reverse (slice_range text a b)) in
    let rev = length-reverse (slice_range text a b) in
    record { order = omega arith; start = fits.start; end = cut_before_end p ascii text a b n utf8 fits (omega arith) }

-- behind a run that begins at a
pub fits_run : (p : ℕ → Bool) → ((c : ℕ) → p c ≡ true → c < 128) → (text : List ℕ) (a n : ℕ) → IsUtf8 text → IsCharBoundary text a → n ≡ prefix_len p (drop a text) → FitsPart text a (a + n)
fits_run p ascii text a n utf8 at h =
    let within : a ≤ length text = at.0 in
    let le = prefix_len-le-length p (drop a text) in
    let len = length-drop a text in
    record { order = omega arith; start = at; end = run_cut p ascii text a n utf8 at (omega arith) (omega arith) }

pub keyword_fits : (text : List ℕ) (a : ℕ) → IsUtf8 text → IsCharBoundary text (a + 1) → FitsPart text (a + 1) (keyword_end text a)
unfolding run_end
keyword_fits text a utf8 at = fits_run is_keyword_byte keyword_ascii text (a + 1) _ utf8 at refl

pub trim_start_fits : (text : List ℕ) (a b : ℕ) → IsUtf8 text → FitsPart text a b → FitsPart text (trim_start text a b) b
unfolding trim_start
trim_start_fits text a b utf8 fits = fits_after is_white white_ascii text a b _ utf8 fits refl

pub trim_end_fits : (text : List ℕ) (a b : ℕ) → IsUtf8 text → FitsPart text a b → FitsPart text a (trim_end text a b)
unfolding trim_end
trim_end_fits text a b utf8 fits = fits_before_end is_white white_ascii text a b _ utf8 fits refl

digit_range : (c : ℕ) → is_digit c ≡ true → IsInRange 48 57 c
digit_range c h = (grind (arith, nat_tests), grind (arith, nat_tests))

not_less : (n m : ℕ) → (n < m → ⊥) → m ≤ n
not_less n m h = omega (arith, h)

small : (n : ℕ) (ds : List ℕ) → n ≡ digits_value 10 ds → n < 2 ^ 64 → number_of ds ≡ Some n
unfolding number_of
small n ds e h = let t : nat_lt (digits_value 10 ds) (2 ^ 64) ≡ true = lt-ltb _ _ (subst (λ m. m < 2 ^ 64) e h) in rw (t, e) refl

large : (ds : List ℕ) → 2 ^ 64 ≤ digits_value 10 ds → number_of ds ≡ None
unfolding number_of
large ds h = let t : nat_lt (digits_value 10 ds) (2 ^ 64) ≡ false = le-ltb _ _ h in rw t refl

-- what `parse` answers for a run of digits
number_run : {E : Type 0} (text : List ℕ) (a b : ℕ) → b ≡ a + prefix_len is_digit (drop a text) → a < b → b ≤ length text → (r : Result ℕ E) → ParsesUnsigned 64 10 (slice_range text a b) r → result_ok r ≡ number_of (slice_range text a b)
number_run {E = E} text a b e more within r h = go r (parse_digits (numerals_by_value _ tells_by_index) 64 (slice_range text a b) r h digits)
  where
    len : length (slice_range text a b) ≡ b - a
    len = length_part text a b within

    digits : (i : ℕ) → i < length (slice_range text a b) → IsInRange 48 57 (get_or (slice_range text a b) i 0)
    digits i lt =
        let byte = get_part text a b i (omega (arith, len, lt)) in
        let passes = prefix_len_passes is_digit (drop a text) i 0 (omega (arith, e, len, lt)) in
        subst (IsInRange 48 57) (sym byte) (digit_range _ (ap is_digit (sym (get_or-drop a text i 0)) ∙ passes))

    go : (r : Result ℕ E) → OkIff r ((0 < length (slice_range text a b)) × (digits_value 10 (slice_range text a b) < 2 ^ 64)) (digits_value 10 (slice_range text a b)) → result_ok r ≡ number_of (slice_range text a b)
    go (Ok x) k = sym (small x (slice_range text a b) k.1 (subst (λ m. m < 2 ^ 64) (sym k.1) k.0.1))
    go (Err y) k =
        let some : 0 < length (slice_range text a b) = omega (arith, len, more) in
        sym (large (slice_range text a b) (not_less _ _ (λ lt. k (some, lt))))

pub number_is : {E : Type 0} (text : List ℕ) (a b : ℕ) → b ≡ run_end is_digit text a → a < b → b ≤ length text → (r : Result ℕ E) → ParsesUnsigned 64 10 (slice_range text a b) r → result_ok r ≡ number_of (slice_range text a b)
unfolding run_end
number_is text a b e more within r h = number_run text a b e more within r h

and-first : (x y : Bool) → x && y ≡ true → x ≡ true
and-first true y h = refl
and-first false y h = absurd cc

is_byte : (b : ℕ) (o : Option ℕ) → passes (λ c. nat_eq c b) o ≡ true → o ≡ Some b
is_byte b None h = absurd cc
is_byte b (Some c) h = ap Some (eqb-true c b h)

pub lone_is : (text : List ℕ) (a : ℕ) → is_lone_colon text a ≡ true → slice_get text a ≡ Some 58
lone_is text a h = is_byte 58 (slice_get text a) (and-first _ _ (and-first _ _ h))

pub quote_ascii : (c : ℕ) → is_quote c ≡ true → c < 128
quote_ascii c h = grind (arith, nat_tests)

-- Where a run ends before a byte that doesn't pass, the text may be cut on both sides of that byte.
module _ (p : ℕ → Bool) (ascii : (c : ℕ) → p c ≡ false → c < 128) (text : List ℕ) (a b : ℕ) (utf8 : IsUtf8 text) (fits : FitsPart text a b) (xs : List ℕ) (len : length xs ≡ b - a) (bytes : (k : ℕ) → k < b - a → get_or xs k 0 ≡ get_or text (a + k) 0) where
  stop_ascii : prefix_len p xs < length xs → get_or text (a + prefix_len p xs) 0 < 128
  stop_ascii lt = ascii _ (ap p (sym (bytes (prefix_len p xs) (omega (arith, lt, len)))) ∙ prefix_len_stops p xs 0 lt)

  stop_before : IsCharBoundary text (a + prefix_len p xs)
  stop_before = go (nat_lt (prefix_len p xs) (length xs)) refl
    where
      go : (t : Bool) → nat_lt (prefix_len p xs) (length xs) ≡ t → IsCharBoundary text (a + prefix_len p xs)
      go true e =
          let lt = ltb-true _ _ e in
          let within : b ≤ length text = fits.end.0 in
          (beside_ascii text (a + prefix_len p xs) utf8 (omega (arith, lt, len, within)) (stop_ascii lt)).0
      go false e =
          let ge = ltb-false _ _ e in
          let le = prefix_len-le-length p xs in
          let order : a ≤ b = fits.order in
          let at : a + prefix_len p xs ≡ b = omega (arith, ge, le, len, order) in
          rw at fits.end

  stop_behind : prefix_len p xs < length xs → IsCharBoundary text (a + prefix_len p xs + 1)
  stop_behind lt =
      let within : b ≤ length text = fits.end.0 in
      (beside_ascii text (a + prefix_len p xs) utf8 (omega (arith, lt, len, within)) (stop_ascii lt)).1

line_feed_ascii : (c : ℕ) → is_in_line c ≡ false → c < 128
line_feed_ascii c h = grind (arith, nat_tests)

backslash_ascii : (c : ℕ) → is_plain c ≡ false → c < 128
backslash_ascii c h = grind (arith, nat_tests)

pub text_fits : (text : List ℕ) (a : ℕ) → IsCharBoundary text a → FitsPart text a (length text)
text_fits text a at = record { order = at.0; start = at; end = (omega arith, λ lt. absurd (omega (arith, lt))) }

pub line_fits : (text : List ℕ) (a : ℕ) → IsUtf8 text → IsCharBoundary text a → FitsPart text a (line_end text a)
unfolding run_end
line_fits text a utf8 at =
    let le = prefix_len-le-length is_in_line (drop a text) in
    let len = length-drop a text in
    let within : a ≤ length text = at.0 in
    record {
      order = omega (arith, le);
      start = at;
      end = stop_before is_in_line line_feed_ascii text a (length text) utf8 (text_fits text a at) (drop a text) len (λ k h. get_or-drop a text k 0);
    }

pub white_fits : (text : List ℕ) (a : ℕ) → IsUtf8 text → IsCharBoundary text a → FitsPart text (run_end is_white text a) (length text)
unfolding run_end
white_fits text a utf8 at = text_fits text _ (fits_run is_white white_ascii text a _ utf8 at refl).end

-- where the first `\` of a part stands, or its end
pub record IsPlainEnd (text : List ℕ) (a b c : ℕ) : Type 0 where
  pub fits : FitsPart text a c
  pub within : c ≤ b
  pub more : c < b → FitsPart text (c + 1) b

pub plain_end_is : (text : List ℕ) (a b c : ℕ) → IsUtf8 text → FitsPart text a b → c ≡ a + prefix_len is_plain (slice_range text a b) → IsPlainEnd text a b c
plain_end_is text a b c utf8 fits e =
    let within : b ≤ length text = fits.end.0 in
    let order : a ≤ b = fits.order in
    let len = length_part text a b within in
    let le = prefix_len-le-length is_plain (slice_range text a b) in
    record {
      fits = record {
        order = omega (arith, e);
        start = fits.start;
        end = rw e (stop_before is_plain backslash_ascii text a b utf8 fits (slice_range text a b) len (λ k h. get_part text a b k h));
      };
      within = omega (arith, e, le, len, order);
      more = λ lt. record {
        order = omega (arith, lt);
        start = rw e (stop_behind is_plain backslash_ascii text a b utf8 fits (slice_range text a b) len (λ k h. get_part text a b k h) (omega (arith, lt, e, len)));
        end = fits.end;
      };
    }

filter_split : (p : ℕ → Bool) (xs : List ℕ) → filter p xs ≡ take (prefix_len p xs) xs ++ filter p (drop (suc (prefix_len p xs)) xs)
filter_split p [] = refl
filter_split p (x ∷ xs) = go (p x) refl (filter_split p xs)
  where
    go : (t : Bool) → p x ≡ t → filter p xs ≡ take (prefix_len p xs) xs ++ filter p (drop (suc (prefix_len p xs)) xs) → filter p (x ∷ xs) ≡ take (prefix_len p (x ∷ xs)) (x ∷ xs) ++ filter p (drop (suc (prefix_len p (x ∷ xs))) (x ∷ xs))
    go true e r = let n : 1 + prefix_len p xs ≡ suc (prefix_len p xs) = omega arith in rw (e, n) (ap (λ ys. x ∷ ys) r)
    go false e r = rw e refl

filter_all : (p : ℕ → Bool) (xs : List ℕ) → prefix_len p xs ≡ length xs → filter p xs ≡ xs
filter_all p [] h = refl
filter_all p (x ∷ xs) h = go (p x) refl h (filter_all p xs)
  where
    go : (t : Bool) → p x ≡ t → prefix_len p (x ∷ xs) ≡ length (x ∷ xs) → (prefix_len p xs ≡ length xs → filter p xs ≡ xs) → filter p (x ∷ xs) ≡ x ∷ xs
    go true e h r = let z = rw e at h in let n : prefix_len p xs ≡ length xs = omega (arith, z) in rw e (ap (λ ys. x ∷ ys) (r n))
    go false e h r = absurd (let z = rw e at h in omega (arith, z))

pub plain_done : (text : List ℕ) (a b : ℕ) → FitsPart text a b → b ≡ a + prefix_len is_plain (slice_range text a b) → filter is_plain (slice_range text a b) ≡ slice_range text a b
plain_done text a b fits e = let within : b ≤ length text = fits.end.0 in let len = length_part text a b within in filter_all is_plain (slice_range text a b) (omega (arith, e, len))

pub plain_step : (text : List ℕ) (a b c : ℕ) → c ≡ a + prefix_len is_plain (slice_range text a b) → c < b → filter is_plain (slice_range text a b) ≡ slice_range text a c ++ filter is_plain (slice_range text (c + 1) b)
plain_step text a b c e lt =
    let n = prefix_len is_plain (slice_range text a b) in
    let front : take n (slice_range text a b) ≡ slice_range text a c =
    take-take n (b - a) (drop a text) (omega (arith, e, lt)) ∙ ap (λ m. take m (drop a text)) (omega (arith, e)) in
    let whole : b - a ≡ suc n + (b - (c + 1)) = omega (arith, e, lt) in
    let back : drop (suc n) (slice_range text a b) ≡ slice_range text (c + 1) b =
    ap (λ m. drop (suc n) (take m (drop a text))) whole ∙ drop-take (suc n) (b - (c + 1)) (drop a text) ∙ ap (take (b - (c + 1))) (drop-drop (suc n) a text ∙ ap (λ m. drop m text) (omega (arith, e))) in
    filter_split is_plain (slice_range text a b) ∙ rw (front, back) refl
