-- Tokens of a section, and the runs that they begin.
use Rattle.std.proofs.Common.{◌≡◌, ℕ, ◌+◌, ◌-◌, ◌<◌, ◌≤◌, Bool, true, false, List, length, drop, get_or, Option, Some, None, refl, sym, arith}
use Rattle.std.specs.Prelude.{slice_get, nat_lt}
use Rattle.std.specs.List.{prefix_len}
use Rattle.std.specs.Str.{IsUtf8, IsCharBoundary}
use Rattle.std.proofs.iter.FirstChar.{beside_ascii}
use Rattle.std.proofs.lemmas.Bool.Decides.{nat_tests}
use Rattle.std.proofs.lemmas.List.{get_or-drop, length-drop}
use Rattle.std.proofs.lemmas.Option.{slice_get_within}
use Rattle.std.proofs.lemmas.List.Sums.{prefix_len_stops}
use Rattle.cfg_sections.specs.declared.header.scan.TokenKind.{TokenKind}
use Rattle.cfg_sections.specs.declared.header.scan.TokenKind.TheVariants as tokens
use Rattle.cfg_base.specs.Text.{run_end, is_letter, is_digit, FitsWord}
use Rattle.cfg_sections.specs.HeaderWords.{is_key_byte, is_word_byte, is_in_text, token_at, token_of, begins_word, FitsToken}
use Rattle.cfg_base.proofs.TextRuns.{digit_ascii, one_byte, run_word}

pub letter_ascii : (c : ℕ) → is_letter c ≡ true → c < 128
letter_ascii c h = grind (arith, nat_tests)

pub key_ascii : (c : ℕ) → is_key_byte c ≡ true → c < 128
key_ascii c h = grind (arith, nat_tests)

pub word_ascii : (c : ℕ) → is_word_byte c ≡ true → c < 128
word_ascii c h = grind (arith, nat_tests)

large_byte : (b : ℕ) → 128 ≤ b → token_of (Some b) ≡ tokens.Other
large_byte b h = grind (arith, nat_tests)

any_token : (text : List ℕ) (a : ℕ) (m : TokenKind) → FitsWord text a (a + 1) → FitsToken text a m
any_token text a tokens.Letter f = f
any_token text a tokens.Underscore f = f
any_token text a tokens.Digit f = f
any_token text a tokens.Quote f = f
any_token text a tokens.Exclamation f = f
any_token text a tokens.OpenBrace f = f
any_token text a tokens.CloseBrace f = f
any_token text a tokens.OpenBracket f = f
any_token text a tokens.CloseBracket f = f
any_token text a tokens.OpenParen f = f
any_token text a tokens.CloseParen f = f
any_token text a tokens.Comma f = f
any_token text a tokens.Colon f = f
any_token text a tokens.Other f = tt

small_or_large : (text : List ℕ) (a b : ℕ) (t : Bool) → IsUtf8 text → slice_get text a ≡ Some b → nat_lt b 128 ≡ t → FitsToken text a (token_of (Some b))
small_or_large text a b true utf8 h e = let ascii : b < 128 = grind (arith, nat_tests) in any_token text a (token_of (Some b)) (one_byte text a b utf8 h ascii)
small_or_large text a b false utf8 h e = let big : 128 ≤ b = grind (arith, nat_tests) in rw (large_byte b big) tt

by_byte : (text : List ℕ) (a : ℕ) (o : Option ℕ) → IsUtf8 text → slice_get text a ≡ o → FitsToken text a (token_of o)
by_byte text a None utf8 h = tt
by_byte text a (Some b) utf8 h = small_or_large text a b (nat_lt b 128) utf8 h refl

pub token_fits : (text : List ℕ) (a : ℕ) → IsUtf8 text → FitsToken text a (token_at text a)
unfolding token_at
token_fits text a utf8 = by_byte text a (slice_get text a) utf8 refl

pub begins_byte : (b : ℕ) → begins_word (token_of (Some b)) ≡ true → is_word_byte b ≡ true
begins_byte b h = grind (arith, nat_tests)

begins_at : (text : List ℕ) (a : ℕ) (o : Option ℕ) → IsUtf8 text → slice_get text a ≡ o → begins_word (token_of o) ≡ true → FitsWord text a (run_end is_word_byte text a)
begins_at text a None utf8 h e = absurd cc
begins_at text a (Some b) utf8 h e = run_word is_word_byte word_ascii text a b utf8 h (begins_byte b e)

pub word_fits : (text : List ℕ) (a : ℕ) → IsUtf8 text → begins_word (token_at text a) ≡ true → FitsWord text a (run_end is_word_byte text a)
unfolding token_at
word_fits text a utf8 e = begins_at text a (slice_get text a) utf8 refl e

letter_byte : (b : ℕ) → token_of (Some b) ≡ tokens.Letter → is_letter b ≡ true
letter_byte b h = grind (arith, nat_tests)

pub key_byte : (b : ℕ) → token_of (Some b) ≡ tokens.Letter → is_key_byte b ≡ true
key_byte b h = rw (letter_byte b h) refl

letter_at : (text : List ℕ) (a : ℕ) (o : Option ℕ) → IsUtf8 text → slice_get text a ≡ o → token_of o ≡ tokens.Letter → FitsWord text a (run_end is_key_byte text a)
letter_at text a None utf8 h e = absurd cc
letter_at text a (Some b) utf8 h e = run_word is_key_byte key_ascii text a b utf8 h (key_byte b e)

pub key_fits : (text : List ℕ) (a : ℕ) → IsUtf8 text → token_at text a ≡ tokens.Letter → FitsWord text a (run_end is_key_byte text a)
unfolding token_at
key_fits text a utf8 e = letter_at text a (slice_get text a) utf8 refl e

pub digit_byte : (b : ℕ) → token_of (Some b) ≡ tokens.Digit → is_digit b ≡ true
digit_byte b h = grind (arith, nat_tests)

digit_at : (text : List ℕ) (a : ℕ) (o : Option ℕ) → IsUtf8 text → slice_get text a ≡ o → token_of o ≡ tokens.Digit → FitsWord text a (run_end is_digit text a)
digit_at text a None utf8 h e = absurd cc
digit_at text a (Some b) utf8 h e = run_word is_digit digit_ascii text a b utf8 h (digit_byte b e)

pub number_fits : (text : List ℕ) (a : ℕ) → IsUtf8 text → token_at text a ≡ tokens.Digit → FitsWord text a (run_end is_digit text a)
unfolding token_at
number_fits text a utf8 e = digit_at text a (slice_get text a) utf8 refl e

quote_byte : (c : ℕ) → is_in_text c ≡ false → c < 128
quote_byte c h = grind (arith, nat_tests)

-- the second quote of a text
pub end_quote : (text : List ℕ) (a : ℕ) → IsUtf8 text → run_end is_in_text text a < length text → IsCharBoundary text (run_end is_in_text text a)
unfolding run_end
end_quote text a utf8 h =
    let n = prefix_len is_in_text (drop a text) in
    let len : length (drop a text) ≡ length text - a = length-drop a text in
    let short : n < length (drop a text) = omega (arith, len, h) in
    let stops : is_in_text (get_or (drop a text) n 0) ≡ false = prefix_len_stops is_in_text (drop a text) 0 short in
    let ascii : get_or text (a + n) 0 < 128 = quote_byte _ (rw (← get_or-drop a text n 0) stops) in
    (beside_ascii text (a + n) utf8 h ascii).0

token_some : (text : List ℕ) (a : ℕ) (m : TokenKind) (o : Option ℕ) → slice_get text a ≡ o → token_of o ≡ m → (m ≡ tokens.Other → ⊥) → a < length text
token_some text a m None h e other = absurd (other (sym e))
token_some text a m (Some b) h e other = slice_get_within text a b h

-- a token other than `Other` stands within the text
pub token_within : (text : List ℕ) (a : ℕ) (m : TokenKind) → token_at text a ≡ m → (m ≡ tokens.Other → ⊥) → a < length text
unfolding token_at
token_within text a m e other = token_some text a m (slice_get text a) refl e other

pub letter_within : (text : List ℕ) (a : ℕ) → token_at text a ≡ tokens.Letter → a < length text
letter_within text a e = token_within text a tokens.Letter e (λ f. absurd cc)

pub digit_within : (text : List ℕ) (a : ℕ) → token_at text a ≡ tokens.Digit → a < length text
digit_within text a e = token_within text a tokens.Digit e (λ f. absurd cc)

pub quote_within : (text : List ℕ) (a : ℕ) → token_at text a ≡ tokens.Quote → a < length text
quote_within text a e = token_within text a tokens.Quote e (λ f. absurd cc)

pub exclamation_within : (text : List ℕ) (a : ℕ) → token_at text a ≡ tokens.Exclamation → a < length text
exclamation_within text a e = token_within text a tokens.Exclamation e (λ f. absurd cc)

pub open_bracket_within : (text : List ℕ) (a : ℕ) → token_at text a ≡ tokens.OpenBracket → a < length text
open_bracket_within text a e = token_within text a tokens.OpenBracket e (λ f. absurd cc)
