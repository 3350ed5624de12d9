-- Numbers, texts and pairs, as constructs.
use Rattle.std.proofs.Common.{◌≡◌, ℕ, suc, ◌+◌, ◌<◌, ◌≤◌, ◌^◌, Bool, true, false, List, [], ◌∷◌, length, drop, take, refl, ap, subst, arith, Global}
use Rattle.std.specs.Prelude.{slice_range, nat_lt, nat_eq, map}
use Rattle.std.specs.String.{string_bytes}
use Rattle.std.specs.declared.string.String.{String}
use Rattle.std.specs.Char.{digit_value, to_ascii_lowercase}
use Rattle.std.specs.Str.{IsUtf8}
use Rattle.std.specs.Str.Parse.{AllDigits, digits_value, without_leading_plus, IsNumeral}
use Rattle.std.specs.List.{prefix_len}
use Rattle.std.proofs.lemmas.Bool.Decides.{nat_tests}
use Rattle.std.proofs.lemmas.List.Folds.{length-prefix_len}
use Rattle.cfg_base.specs.SpanModel.{SpanModel}
use Rattle.cfg_sections.specs.declared.header.scan.TokenKind.TheVariants as tokens
use Rattle.cfg_sections.specs.declared.header.value.Setting.TheVariants as settings
use Rattle.cfg_sections.specs.declared.header.value.Value.{Value as RustValue}
use Rattle.cfg_sections.specs.HeaderTexts.{setting_text, value_text}
use Rattle.cfg_base.specs.Text.{run_end, is_digit}
use Rattle.cfg_sections.specs.HeaderWords.{token_at}
use Rattle.cfg_sections.specs.Sections.{Wanted, Value, Behind, At, Spaced, Key, Open, PairText, Steps, number, quote, number_at, number_end, text_end, span, key_of, key_end, pair_of}
use Rattle.cfg_sections.specs.SectionResults.{pair_text}
use Rattle.cfg_sections.proofs.HeaderRuns.{number_fits}
use Rattle.cfg_sections.proofs.SectionChains.{one, join}
use Rattle.cfg_sections.proofs.SettingTexts.{num_text, quoted_text}

pub span_is : (s : SpanModel) (a b : ℕ) → s.start ≡ a → s.end ≡ b → s ≡ span a b
span_is s a b h k = rw (← h, ← k) refl

pub quoted_reads : {bytes : List ℕ} {a b : ℕ} (k : Key) (o : Open) (x : List PairText) (t : String Global) (s : SpanModel) → token_at bytes a ≡ tokens.Quote → text_end bytes a < length bytes → string_bytes t ≡ slice_range bytes (a + 1) (text_end bytes a) → s.start ≡ a → s.end ≡ text_end bytes a + 1 →
    ((w : Wanted) (x : List PairText) → Steps bytes (Spaced w x (text_end bytes a + 1)) (At w x b)) → Steps bytes (At (Value k o) x a) (At (Behind k o (setting_text (settings.String t s))) x b)
quoted_reads k o x t s token short same start end gap = rw (quoted_text t s, same, span_is s _ _ start end) (join (one (quote token short)) (gap _ _))

pub num_reads : {bytes : List ℕ} {a b : ℕ} (k : Key) (o : Open) (x : List PairText) (n : ℕ) (s : SpanModel) → token_at bytes a ≡ tokens.Digit → n ≡ number_at bytes a → number_at bytes a < 2 ^ 64 → s.start ≡ a → s.end ≡ number_end bytes a →
    ((w : Wanted) (x : List PairText) → Steps bytes (Spaced w x (number_end bytes a)) (At w x b)) → Steps bytes (At (Value k o) x a) (At (Behind k o (setting_text (settings.Num n s))) x b)
num_reads k o x n s token same fits start end gap = rw (num_text n s, same, span_is s _ _ start end) (join (one (number token fits)) (gap _ _))

digit_is : (c : ℕ) → is_digit c ≡ true → digit_value c < 10
digit_is c h = grind (arith, nat_tests)

no_plus : (c : ℕ) → digit_value c < 10 → nat_eq c 43 ≡ false
no_plus c h = grind (arith, nat_tests)

run_on : (c : ℕ) (cs : List ℕ) (t : Bool) → AllDigits 10 (take (prefix_len is_digit cs) cs) → is_digit c ≡ t → AllDigits 10 (take (prefix_len is_digit (c ∷ cs)) (c ∷ cs))
run_on c cs true rest e =
    let more : suc (prefix_len is_digit cs) ≡ 1 + prefix_len is_digit cs = omega arith in
    rw e (subst (λ n. AllDigits 10 (take n (c ∷ cs))) more (digit_is c e, rest))
run_on c cs false rest e = rw e tt

run_digits : (bs : List ℕ) → AllDigits 10 (take (prefix_len is_digit bs) bs)
run_digits [] = tt
run_digits (c ∷ cs) = run_on c cs (is_digit c) (run_digits cs) refl

without_plus : (bs : List ℕ) → AllDigits 10 bs → without_leading_plus bs ≡ bs
without_plus [] h = refl
without_plus (c ∷ cs) h = rw (no_plus c h.0) refl

-- the digits of a number that begins at a
number_digits : (text : List ℕ) (a : ℕ) → slice_range text a (number_end text a) ≡ take (prefix_len is_digit (drop a text)) (drop a text)
unfolding run_end
number_digits text a = ap (λ n. take n (drop a text)) (omega arith)

digits_at : (text : List ℕ) (a : ℕ) → AllDigits 10 (slice_range text a (number_end text a))
digits_at text a = rw (number_digits text a) (run_digits (drop a text))

filled_at : (text : List ℕ) (a : ℕ) → IsUtf8 text → token_at text a ≡ tokens.Digit → 0 < length (slice_range text a (number_end text a))
unfolding run_end
filled_at text a utf8 h =
    let fits = number_fits text a utf8 h in
    let more : a < a + prefix_len is_digit (drop a text) = fits.more in
    rw (number_digits text a, length-prefix_len is_digit (drop a text)) (omega (arith, more))

-- a number of 64 bits, behind a plus that may stand first
abbrev Parses : List ℕ → Type 0
Parses bs = IsNumeral 10 (without_leading_plus bs) × (digits_value 10 (without_leading_plus bs) < 2 ^ 64)

pub number_ok : (text : List ℕ) (a v : ℕ) → IsUtf8 text → token_at text a ≡ tokens.Digit → Parses (slice_range text a (number_end text a)) × (v ≡ digits_value 10 (without_leading_plus (slice_range text a (number_end text a)))) →
    (number_at text a < 2 ^ 64) × (v ≡ number_at text a)
number_ok text a v utf8 h parsed = let p = rw (without_plus _ (digits_at text a)) at parsed in (p.0.1, p.1)

too_large : (n : ℕ) (t : Bool) → (n < 2 ^ 64 → ⊥) → nat_lt n (2 ^ 64) ≡ t → 2 ^ 64 ≤ n
too_large n true h e = let small : n < 2 ^ 64 = grind (arith, nat_tests) in absurd (h small)
too_large n false h e = grind (arith, nat_tests)

pub number_err : (text : List ℕ) (a : ℕ) → IsUtf8 text → token_at text a ≡ tokens.Digit → (Parses (slice_range text a (number_end text a)) → ⊥) → 2 ^ 64 ≤ number_at text a
number_err text a utf8 h parsed =
    let p = rw (without_plus _ (digits_at text a)) at parsed in
    too_large (number_at text a) (nat_lt (number_at text a) (2 ^ 64)) (λ small. p ((filled_at text a utf8 h, digits_at text a), small)) refl

pub pair_is : (bytes : List ℕ) (a : ℕ) (key : String Global) (s : SpanModel) (v : RustValue SpanModel) → string_bytes key ≡ map to_ascii_lowercase (slice_range bytes a (key_end bytes a)) → s ≡ span a (key_end bytes a) → pair_of (key_of bytes a (key_end bytes a)) (value_text v) ≡ pair_text (record { key = key; span = s; value = v })
pair_is bytes a key s v h e = rw (h, e) refl
