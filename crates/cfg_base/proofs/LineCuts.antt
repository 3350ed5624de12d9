-- Lines begin and end at characters' starts.
use Rattle.std.proofs.Common.{◌≡◌, ℕ, ◌+◌, ◌-◌, ◌≤◌, false, List, length, take, drop, get_or, reverse, IsUtf8, IsCharBoundary, sym, ap, ◌∙◌, ⊎_elim, arith, subst, length-drop}
use Rattle.std.specs.List.{prefix_len, suffix_len}
use Rattle.std.proofs.lemmas.Bool.{cases_lt}
use Rattle.std.proofs.lemmas.Bool.Decides.{nat_tests}
use Rattle.std.proofs.lemmas.List.{get_or-drop, get_or-take, get_or-reverse, length-reverse, length-take-le}
use Rattle.std.proofs.lemmas.List.Sums.{prefix_len_stops, prefix_len-le-length}
use Rattle.std.proofs.lemmas.Str.{IsCharBoundary-start, IsCharBoundary-end, IsCharBoundary-before_ascii, IsCharBoundary-after_ascii}
use Rattle.cfg_base.specs.Text.{is_in_line, run_end, line_end}
use Rattle.cfg_base.specs.Newlines.{line_start}

not_in_line : (c : ℕ) → is_in_line c ≡ false → c ≡ 10
not_in_line c h = grind (arith, nat_tests)

pub ordered : (text : List ℕ) (a b : ℕ) → a ≤ b → line_start text a ≤ line_end text b
unfolding run_end
ordered text a b le = omega (arith, le)

pub end_cut : (text : List ℕ) (a : ℕ) → a ≤ length text → IsCharBoundary text (line_end text a)
unfolding run_end
end_cut text a le =
    let k = prefix_len is_in_line (drop a text) in
    let long = length-drop a text in
    ⊎_elim
    (λ less.
    let feed : get_or text (a + k) 0 ≡ 10 = sym (get_or-drop a text k 0) ∙ not_in_line _ (prefix_len_stops is_in_line (drop a text) 0 (omega (arith, less, long))) in
    IsCharBoundary-before_ascii text (a + k) less (omega (arith, feed)))
    (λ more.
    let most = prefix_len-le-length is_in_line (drop a text) in
    let e : length text ≡ a + k = omega (arith, most, long, more, le) in
    subst (IsCharBoundary text) e (IsCharBoundary-end text))
    (cases_lt (a + k) (length text))

pub start_cut : (text : List ℕ) (b : ℕ) → IsUtf8 text → b ≤ length text → IsCharBoundary text (line_start text b)
start_cut text b u le =
    let xs = take b text in
    let n = suffix_len is_in_line xs in
    let long : length xs ≡ b = length-take-le b text le in
    ⊎_elim
    (λ less.
    let back : length (reverse xs) ≡ b = length-reverse xs ∙ long in
    let stops = prefix_len_stops is_in_line (reverse xs) 0 (omega (arith, less, back)) in
    let place : length xs - 1 - n ≡ b - n - 1 = omega (arith, long) in
    let at : get_or (reverse xs) n 0 ≡ get_or text (b - n - 1) 0 = get_or-reverse xs n 0 (omega (arith, less, long)) ∙ ap (λ j. get_or xs j 0) place ∙ get_or-take b text (b - n - 1) 0 (omega (arith, less)) in
    let feed : get_or text (b - n - 1) 0 ≡ 10 = sym at ∙ not_in_line _ stops in
    let e : b - n - 1 + 1 ≡ b - n = omega (arith, less) in
    subst (IsCharBoundary text) e (IsCharBoundary-after_ascii text (b - n - 1) u (omega (arith, less, le)) (omega (arith, feed))))
    (λ more. let e : 0 ≡ b - n = omega (arith, more) in subst (IsCharBoundary text) e (IsCharBoundary-start text u))
    (cases_lt n b)
