-- The characters of a text up to a byte, from the last offset up to there where it may be cut.
use Rattle.std.proofs.Common.{◌≡◌, ℕ, suc, ◌+◌, ◌-◌, ◌<◌, ◌≤◌, List, [], ◌∷◌, ◌++◌, length, take, drop, refl, sym, ap, ◌∙◌, arith, length-append, ◌⊎◌, inl, inr}
use Rattle.std.proofs.Math.Seq.{take-add}
use Rattle.std.proofs.lemmas.Bool.{le-leb, lt-leb, cases_lt}
use Rattle.std.proofs.lemmas.List.{length-take-le, take-append-drop}
use Rattle.std.proofs.lemmas.Str.{IsUtf8-take, IsUtf8-drop, encodes-chars, length-encode, len_utf8_bounds, chars-append, IsCharBoundary-past_char}
use lib.Utf8.{encode}
use Rattle.std.specs.Char.{len_utf8}
use Rattle.std.specs.Str.{chars, IsUtf8, IsCharBoundary, encode_utf8_all}
use Rattle.cfg_base.specs.Newlines.{ended_among, chars_ended}

-- the character after a cut ends past b, if that cut is the last one up to b
next_ends : (bs : List ℕ) (b f : ℕ) (ds es : List ℕ) (e : ℕ) (fs : List ℕ) → IsUtf8 bs → IsCharBoundary bs f → encode_utf8_all es ≡ drop f bs → length (encode_utf8_all ds) ≡ f → ((i : ℕ) → f < i → i ≤ b → ¬ (IsCharBoundary bs i)) → es ≡ e ∷ fs → ((b < f + len_utf8 e) ⊎ (f + len_utf8 e ≤ b)) → b < length (encode_utf8_all ds) + len_utf8 e
next_ends bs b f ds es e fs u cut es-is len nearest s (inl less) = omega (arith, len)
next_ends bs b f ds es e fs u cut es-is len nearest s (inr more) = absurd (nearest (f + len_utf8 e) (let l = (len_utf8_bounds e).0 in omega (arith, l)) more (IsCharBoundary-past_char bs (encode_utf8_all fs) f e cut.0 (IsUtf8-drop bs f u cut) (sym es-is ∙ ap encode_utf8_all s)))

-- where the characters ds take up at most b bytes, and the next one ends past b
ended_front : (ds es : List ℕ) (b : ℕ) → length (encode_utf8_all ds) ≤ b → ((e : ℕ) (fs : List ℕ) → es ≡ e ∷ fs → b < length (encode_utf8_all ds) + len_utf8 e) → ended_among (ds ++ es) b ≡ length ds
ended_front [] [] b h next = refl
ended_front [] (e ∷ es) b h next = rw (lt-leb (len_utf8 e) b (omega (arith, next e es refl))) refl
ended_front (d ∷ ds) es b h next =
    let len : length (encode_utf8_all (d ∷ ds)) ≡ len_utf8 d + length (encode_utf8_all ds) = length-append (encode d) (encode_utf8_all ds) ∙ ap (λ n. n + length (encode_utf8_all ds)) (length-encode d) in
    rw (le-leb (len_utf8 d) b (omega (arith, len))) (ap suc (ended_front ds es (b - len_utf8 d) (omega (arith, len)) (λ e fs s. omega (arith, len, next e fs s))))

-- the characters that end at or before b are those before the last cut up to b
pub ended_at_cut : (bs : List ℕ) (b f : ℕ) → IsUtf8 bs → f ≤ b → IsCharBoundary bs f → ((i : ℕ) → f < i → i ≤ b → ¬ (IsCharBoundary bs i)) → chars_ended bs b ≡ length (chars (take f bs))
ended_at_cut bs b f u h cut nearest =
    let front : IsUtf8 (take f bs) = IsUtf8-take bs f u cut in
    let back : IsUtf8 (drop f bs) = IsUtf8-drop bs f u cut in
    let ds : List ℕ = chars (take f bs) in
    let es : List ℕ = chars (drop f bs) in
    let ds-is : encode_utf8_all ds ≡ take f bs = encodes-chars (take f bs) front in
    let es-is : encode_utf8_all es ≡ drop f bs = encodes-chars (drop f bs) back in
    let parts : chars bs ≡ ds ++ es = ap chars (sym (take-append-drop f bs)) ∙ chars-append (take f bs) (drop f bs) front in
    let len : length (encode_utf8_all ds) ≡ f = ap length ds-is ∙ length-take-le f bs cut.0 in
    let next : (e : ℕ) (fs : List ℕ) → es ≡ e ∷ fs → b < length (encode_utf8_all ds) + len_utf8 e =
    λ e fs s. next_ends bs b f ds es e fs u cut es-is len nearest s (cases_lt b (f + len_utf8 e)) in
    ap (λ (cs : List ℕ). ended_among cs b) parts ∙ ended_front ds es b (omega (arith, len)) next

-- the characters between two cuts
pub chars_between_cuts : (bs : List ℕ) (f g : ℕ) → IsUtf8 bs → f ≤ g → IsCharBoundary bs f → IsCharBoundary bs g → length (chars (take (g - f) (drop f bs))) ≡ length (chars (take g bs)) - length (chars (take f bs))
chars_between_cuts bs f g u h cf cg =
    let front : IsUtf8 (take f bs) = IsUtf8-take bs f u cf in
    let parts : take g bs ≡ take f bs ++ take (g - f) (drop f bs) =
    ap (λ (n : ℕ). take n bs) (let e : g ≡ f + (g - f) = omega arith in e) ∙ take-add f (g - f) bs in
    let e : length (chars (take g bs)) ≡ length (chars (take f bs)) + length (chars (take (g - f) (drop f bs))) =
    ap (λ (xs : List ℕ). length (chars xs)) parts ∙ (ap length (chars-append (take f bs) (take (g - f) (drop f bs)) front) ∙ length-append (chars (take f bs)) (chars (take (g - f) (drop f bs)))) in
    omega (arith, e)

-- the last cut up to a byte is no earlier than a cut up to there
pub cut_is_last : (bs : List ℕ) (f g b : ℕ) → f ≤ b → IsCharBoundary bs f → ((i : ℕ) → g < i → i ≤ b → ¬ (IsCharBoundary bs i)) → f ≤ g
cut_is_last bs f g b h cut nearest = go (cases_lt g f)
  where
    go : ((g < f) ⊎ (f ≤ g)) → f ≤ g
    go (inl less) = absurd (nearest f less h cut)
    go (inr more) = more

-- each character that ends takes up a byte
pub ended_within : (cs : List ℕ) (n : ℕ) → ended_among cs n ≤ n
ended_within [] n = omega arith
ended_within (c ∷ cs) n = go (ended_within cs (n - len_utf8 c)) (cases_lt n (len_utf8 c))
  where
    go : ended_among cs (n - len_utf8 c) ≤ n - len_utf8 c → ((n < len_utf8 c) ⊎ (len_utf8 c ≤ n)) → ended_among (c ∷ cs) n ≤ n
    go h (inl less) = rw (lt-leb (len_utf8 c) n less) (omega arith)
    go h (inr more) = rw (le-leb (len_utf8 c) n more) (omega (arith, h, more, (len_utf8_bounds c).0))

-- those that end within fewer bytes end within more
pub ended_more : (cs : List ℕ) (a b : ℕ) → a ≤ b → ended_among cs a ≤ ended_among cs b
ended_more [] a b le = omega arith
ended_more (c ∷ cs) a b le = go (ended_more cs (a - len_utf8 c) (b - len_utf8 c) (omega (arith, le))) (cases_lt a (len_utf8 c))
  where
    go : ended_among cs (a - len_utf8 c) ≤ ended_among cs (b - len_utf8 c) → ((a < len_utf8 c) ⊎ (len_utf8 c ≤ a)) → ended_among (c ∷ cs) a ≤ ended_among (c ∷ cs) b
    go h (inl less) = rw (lt-leb (len_utf8 c) a less) (omega arith)
    go h (inr more) = rw (le-leb (len_utf8 c) a more, le-leb (len_utf8 c) b (omega (arith, more, le))) (omega (arith, h))
