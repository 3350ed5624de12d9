-- From each state reading goes on, stops, or is at its end, and it doesn't go on for ever.
use Rattle.std.proofs.Common.{◌≡◌, ℕ, zero, suc, ◌+◌, ◌-◌, ◌*◌, ◌<◌, ◌≤◌, ◌^◌, Bool, true, false, List, [], ◌∷◌, length, drop, Option, Some, None, refl, sym, ◌∙◌, ap, subst, arith}
use Rattle.std.specs.Prelude.{slice_get, option_map, nat_lt, nat_eq, ◌==◌}
use Rattle.std.specs.List.{starts_with}
use Rattle.std.proofs.lemmas.List.{length-drop}
use lib.Chars.{codes}
use Rattle.std.proofs.lemmas.Bool.Decides.{nat_tests}
use Rattle.std.proofs.lemmas.Option.{slice_get_within}
use Rattle.cfg_base.specs.SpanModel.{SpanModel}
use Rattle.cfg_sections.specs.declared.header.scan.TokenKind.{TokenKind}
use Rattle.cfg_sections.specs.declared.header.scan.TokenKind.TheVariants as tokens
use Rattle.cfg_sections.specs.declared.header.scan.PathShape.{PathShape}
use Rattle.cfg_sections.specs.declared.header.scan.PathShape.TheVariants as paths
use Rattle.cfg_sections.specs.HeaderErrors.{KindText}
use Rattle.cfg_sections.specs.HeaderTexts.{PathText, SettingText, ItemsText}
use Rattle.cfg_base.specs.declared.text.GapPart.{GapPart}
use Rattle.cfg_base.specs.declared.text.GapPart.TheVariants as gaps
use Rattle.cfg_base.specs.Text.{is_digit, run_end, gap_at}
use Rattle.cfg_sections.specs.HeaderWords.{is_key_byte, is_word_byte, is_in_text, end_of_part, gap_part, token_of, token_at, begins_word, colons_at, path_at}
use Rattle.cfg_sections.specs.Sections.{PairText, Open, top, inside, depth, most_depth, Key, Wanted, Section, Brace, Pairs, Pair, Colon, PairEnd, Value, Paren, Argument, CloseParen, Items, Behind, Nothing, State, Spaced, At, IsPath, alone, within, number_at, text_end, is_section_at, is_colon, is_open_paren, is_close_paren, is_open_brace, is_close_brace, is_close_bracket, begins_key, begins_pair, ends_pair, ends_item, begins_setting, Step, gap_more, gap_end, section, no_section, open_brace, close_brace, next_pair, key, negated_key, colon, no_colon, comma, no_comma, number, quote, path, open_bracket, open_paren, no_paren, argument, close_paren, close_bracket, item, item_comma, no_item_comma, whole, no_word, no_member, Stops, missing, no_brace, no_end_brace, no_end_bracket, no_end_paren, no_pair, no_key, no_setting, no_path, no_argument, no_end_quote, large_number, deep_array, Steps, here, then, StopsFrom, beginning, Reads}
use Rattle.cfg_sections.specs.SectionRepeats.{repeats_of}
use Rattle.cfg_sections.specs.SectionResults.{IsAnswered, reads_header, repeats_keys, has_fault}
use Rattle.cfg_sections.proofs.HeaderTokens.{letter_begins}
use Rattle.cfg_base.proofs.TextRuns.{GapAdvances, gap_advances, run_beyond, run_from}
use Rattle.cfg_sections.proofs.HeaderRuns.{key_byte, digit_byte, begins_byte, token_within}
use Rattle.cfg_sections.proofs.SectionChains.{join_stops, one}

some_is : (x y : ℕ) → Some x ≡ Some y → x ≡ y
some_is x y e = cc

part_bounds : (text : List ℕ) (a b : ℕ) (part : GapPart) → GapAdvances text a part → end_of_part part ≡ Some b → (a < length text) × (a < b)
part_bounds text a b (gaps.Part c) h k = let same : c ≡ b = some_is _ _ k in (h.0, let more = h.1 in omega (arith, same, more))
part_bounds text a b gaps.Unclosed h k = absurd cc
part_bounds text a b gaps.NoPart h k = absurd cc

gap_bounds : (text : List ℕ) (a b : ℕ) → gap_part text a ≡ Some b → (a < length text) × (a < b)
unfolding gap_part
gap_bounds text a b k = part_bounds text a b (gap_at text a) (gap_advances text a) k

run_past : (p : ℕ → Bool) (text : List ℕ) (a : ℕ) (m : TokenKind) (o : Option ℕ) → slice_get text a ≡ o → token_of o ≡ m → (m ≡ tokens.Other → ⊥) → ((b : ℕ) → token_of (Some b) ≡ m → p b ≡ true) → a < run_end p text a
run_past p text a m None h e other passing = absurd (other (sym e))
run_past p text a m (Some b) h e other passing = run_beyond p text a b h (passing b e)

word_past : (text : List ℕ) (a : ℕ) (o : Option ℕ) → slice_get text a ≡ o → begins_word (token_of o) ≡ true → (a < length text) × (a < run_end is_word_byte text a)
word_past text a None h e = absurd cc
word_past text a (Some b) h e = (slice_get_within text a b h, run_beyond is_word_byte text a b h (begins_byte b e))

word_at : (text : List ℕ) (a : ℕ) → begins_word (token_at text a) ≡ true → (a < length text) × (a < run_end is_word_byte text a)
unfolding token_at
word_at text a e = word_past text a (slice_get text a) refl e

key_past : (text : List ℕ) (a : ℕ) → token_at text a ≡ tokens.Letter → a < run_end is_key_byte text a
unfolding token_at
key_past text a e = run_past is_key_byte text a tokens.Letter (slice_get text a) refl e (λ e. absurd cc) key_byte

digit_past : (text : List ℕ) (a : ℕ) → token_at text a ≡ tokens.Digit → a < run_end is_digit text a
unfolding token_at
digit_past text a e = run_past is_digit text a tokens.Digit (slice_get text a) refl e (λ e. absurd cc) digit_byte

is_less : (a b : ℕ) → nat_lt a b ≡ true → a < b
is_less a b e = grind (arith, nat_tests)

is_not_less : (a b : ℕ) → nat_lt a b ≡ false → b ≤ a
is_not_less a b e = grind (arith, nat_tests)

abbrev rank : Wanted → ℕ
rank (Section r) = 1
rank Brace = 1
rank Pairs = 2
rank Pair = 1
rank (Colon k) = 4
rank (PairEnd p) = 3
rank (Value k o) = 1
rank (Paren k o p) = 5
rank (Argument k o p) = 1
rank (CloseParen k o p q) = 1
rank (Items k o items start) = 2
rank (Behind k o s) = 4
rank Nothing = 1

-- how much is left to do
abbrev left : List ℕ → State → ℕ
left bytes (Spaced w x a) = 8 * (length bytes - a) + 7
left bytes (At Nothing x a) = 0
left bytes (At w x a) = 8 * (length bytes - a) + rank w

data Outcome (bytes : List ℕ) (s : State) : Type 0 where
  goes : (t : State) → Step bytes s t → left bytes t < left bytes s → Outcome bytes s
  stops : (kind : KindText) (offset : ℕ) → Stops bytes s kind offset → Outcome bytes s
  ends : (x : List PairText) (a : ℕ) → s ≡ At Nothing x a → Outcome bytes s

gap_ends : (bytes : List ℕ) (w : Wanted) (x : List PairText) (a : ℕ) → left bytes (At w x a) < left bytes (Spaced w x a)
gap_ends bytes (Section r) x a = omega arith
gap_ends bytes Brace x a = omega arith
gap_ends bytes Pairs x a = omega arith
gap_ends bytes Pair x a = omega arith
gap_ends bytes (Colon k) x a = omega arith
gap_ends bytes (PairEnd p) x a = omega arith
gap_ends bytes (Value k o) x a = omega arith
gap_ends bytes (Paren k o p) x a = omega arith
gap_ends bytes (Argument k o p) x a = omega arith
gap_ends bytes (CloseParen k o p q) x a = omega arith
gap_ends bytes (Items k o items start) x a = omega arith
gap_ends bytes (Behind k o s) x a = omega arith
gap_ends bytes Nothing x a = omega arith

-- a construct that takes a byte or more
taken : (l a b r : ℕ) → a < l → a < b → 8 * (l - b) + 7 < 8 * (l - a) + suc r
taken l a b r h k = omega (arith, h, k)

gap_outcome : (bytes : List ℕ) (w : Wanted) (x : List PairText) (a : ℕ) (o : Option ℕ) → gap_part bytes a ≡ o → Outcome bytes (Spaced w x a)
gap_outcome bytes w x a None e = goes _ (gap_end e) (gap_ends bytes w x a)
gap_outcome bytes w x a (Some b) e = let h = gap_bounds bytes a b e in let k : 8 * (length bytes - b) + 7 < 8 * (length bytes - a) + 7 = taken (length bytes) a b 6 h.0 h.1 in goes _ (gap_more e) k

section_some : (ds : List ℕ) → starts_with nat_eq ds (codes "%grmtools") ≡ true → 0 < length ds
section_some [] e = absurd cc
section_some (d ∷ ds) e = omega arith

section_within : (bytes : List ℕ) (a : ℕ) → is_section_at bytes a ≡ true → a < length bytes
section_within bytes a e = let h : 0 < length (drop a bytes) = section_some (drop a bytes) e in let len = length-drop a bytes in omega (arith, h, len)

token_true : (bytes : List ℕ) (a : ℕ) (f : TokenKind → Bool) → f tokens.Other ≡ false → f (token_at bytes a) ≡ true → a < length bytes
token_true bytes a f other e = token_within bytes a (token_at bytes a) refl (λ h. let same = ap f h in absurd cc)

alone_is : (x y : ℕ) → paths.Alone x ≡ paths.Alone y → x ≡ y
alone_is x y e = cc

within_is : (x y z w : ℕ) → paths.Within x y ≡ paths.Within z w → y ≡ w
within_is x y z w e = cc

alone_past : (bytes : List ℕ) (a b : ℕ) (t u v : Bool) → begins_word (token_at bytes a) ≡ t → colons_at bytes (run_end is_word_byte bytes a) ≡ u → begins_word (token_at bytes (run_end is_word_byte bytes a + 2)) ≡ v → path_at bytes a ≡ paths.Alone b → (a < length bytes) × (a < b)
unfolding path_at
alone_past bytes a b false u v e f g h = let k = rw e at h in absurd cc
alone_past bytes a b true false v e f g h = let same : run_end is_word_byte bytes a ≡ b = alone_is _ _ (rw (e, f) at h) in let w = word_at bytes a e in (w.0, (let more = w.1 in omega (arith, same, more)))
alone_past bytes a b true true true e f g h = let k = rw (e, f, g) at h in absurd cc
alone_past bytes a b true true false e f g h = let k = rw (e, f, g) at h in absurd cc

within_past : (bytes : List ℕ) (a b c : ℕ) (t u v : Bool) → begins_word (token_at bytes a) ≡ t → colons_at bytes (run_end is_word_byte bytes a) ≡ u → begins_word (token_at bytes (run_end is_word_byte bytes a + 2)) ≡ v → path_at bytes a ≡ paths.Within b c → (a < length bytes) × (a < c)
unfolding path_at
within_past bytes a b c false u v e f g h = let k = rw e at h in absurd cc
within_past bytes a b c true false v e f g h = let k = rw (e, f) at h in absurd cc
within_past bytes a b c true true true e f g h =
    let same : run_end is_word_byte bytes (run_end is_word_byte bytes a + 2) ≡ c = within_is _ _ _ _ (rw (e, f, g) at h) in
    let w = word_at bytes a e in
    let more = w.1 in
    let from = run_from is_word_byte bytes (run_end is_word_byte bytes a + 2) in
    (w.0, omega (arith, same, more, from))
within_past bytes a b c true true false e f g h = let k = rw (e, f, g) at h in absurd cc

path_past : (bytes : List ℕ) (a b : ℕ) (p : PathText SpanModel) → IsPath bytes a p b → (a < length bytes) × (a < b)
path_past bytes a b p (alone e) = alone_past bytes a b _ _ _ refl refl refl e
path_past bytes a c p (within e) = within_past bytes a _ c _ _ _ refl refl refl e

section_outcome : (bytes : List ℕ) (x : List PairText) (a : ℕ) (r t : Bool) → is_section_at bytes a ≡ t → Outcome bytes (At (Section r) x a)
section_outcome bytes x a true false e = stops _ _ (missing e)
section_outcome bytes x a false false e = goes _ (no_section e) (omega arith)
section_outcome bytes x a r true e = let h = section_within bytes a e in goes _ (section e) (taken (length bytes) a (a + 9) 0 h (omega arith))

brace_outcome : (bytes : List ℕ) (x : List PairText) (a : ℕ) (t : Bool) → is_open_brace (token_at bytes a) ≡ t → Outcome bytes (At Brace x a)
brace_outcome bytes x a true e = goes _ (open_brace e) (taken (length bytes) a (a + 1) 0 (token_true bytes a is_open_brace refl e) (omega arith))
brace_outcome bytes x a false e = stops _ _ (no_brace e)

pairs_outcome : (bytes : List ℕ) (x : List PairText) (a : ℕ) (t : Bool) → is_close_brace (token_at bytes a) ≡ t → Outcome bytes (At Pairs x a)
pairs_outcome bytes x a true e = goes _ (close_brace e) (omega arith)
pairs_outcome bytes x a false e = goes _ (next_pair e) (omega arith)

colon_outcome : (bytes : List ℕ) (x : List PairText) (a : ℕ) (k : Key) (t : Bool) → is_colon (token_at bytes a) ≡ t → Outcome bytes (At (Colon k) x a)
colon_outcome bytes x a k true e = goes _ (colon e) (taken (length bytes) a (a + 1) 3 (token_true bytes a is_colon refl e) (omega arith))
colon_outcome bytes x a k false e = goes _ (no_colon e) (omega arith)

paren_outcome : (bytes : List ℕ) (x : List PairText) (a : ℕ) (k : Key) (o : Open) (p : PathText SpanModel) (t : Bool) → is_open_paren (token_at bytes a) ≡ t → Outcome bytes (At (Paren k o p) x a)
paren_outcome bytes x a k o p true e = goes _ (open_paren e) (taken (length bytes) a (a + 1) 4 (token_true bytes a is_open_paren refl e) (omega arith))
paren_outcome bytes x a k o p false e = goes _ (no_paren e) (omega arith)

close_paren_outcome : (bytes : List ℕ) (x : List PairText) (a : ℕ) (k : Key) (o : Open) (p q : PathText SpanModel) (t : Bool) → is_close_paren (token_at bytes a) ≡ t → Outcome bytes (At (CloseParen k o p q) x a)
close_paren_outcome bytes x a k o p q true e = goes _ (close_paren e) (taken (length bytes) a (a + 1) 0 (token_true bytes a is_close_paren refl e) (omega arith))
close_paren_outcome bytes x a k o p q false e = stops _ _ (no_end_paren e)

items_outcome : (bytes : List ℕ) (x : List PairText) (a : ℕ) (k : Key) (o : Open) (items : ItemsText SpanModel) (start : SpanModel) (t : Bool) → is_close_bracket (token_at bytes a) ≡ t → Outcome bytes (At (Items k o items start) x a)
items_outcome bytes x a k o items start true e = goes _ (close_bracket e) (taken (length bytes) a (a + 1) 1 (token_true bytes a is_close_bracket refl e) (omega arith))
items_outcome bytes x a k o items start false e = goes _ (item e) (omega arith)

negated_outcome : (bytes : List ℕ) (x : List PairText) (a : ℕ) (t : Bool) → begins_key (token_at bytes (a + 1)) ≡ t → token_at bytes a ≡ tokens.Exclamation → Outcome bytes (At Pair x a)
negated_outcome bytes x a true e h =
    let letter = letter_begins _ e in
    let past = key_past bytes (a + 1) letter in
    goes _ (negated_key h letter) (taken (length bytes) a _ 0 (token_within bytes a tokens.Exclamation h (λ e. absurd cc)) (omega (arith, past)))
negated_outcome bytes x a false e h = stops _ _ (no_key h e)

number_outcome : (bytes : List ℕ) (k : Key) (o : Open) (x : List PairText) (a : ℕ) (t : Bool) → nat_lt (number_at bytes a) (2 ^ 64) ≡ t → token_at bytes a ≡ tokens.Digit → Outcome bytes (At (Value k o) x a)
number_outcome bytes k o x a true e h = goes _ (number h (is_less _ _ e)) (taken (length bytes) a _ 0 (token_within bytes a tokens.Digit h (λ e. absurd cc)) (digit_past bytes a h))
number_outcome bytes k o x a false e h = stops _ _ (large_number h (is_not_less _ _ e))

quote_outcome : (bytes : List ℕ) (k : Key) (o : Open) (x : List PairText) (a : ℕ) (t : Bool) → nat_lt (text_end bytes a) (length bytes) ≡ t → token_at bytes a ≡ tokens.Quote → Outcome bytes (At (Value k o) x a)
quote_outcome bytes k o x a true e h = let from = run_from is_in_text bytes (a + 1) in goes _ (quote h (is_less _ _ e)) (taken (length bytes) a _ 0 (token_within bytes a tokens.Quote h (λ e. absurd cc)) (omega (arith, from)))
quote_outcome bytes k o x a false e h = stops _ _ (no_end_quote h (is_not_less _ _ e))

bracket_outcome : (bytes : List ℕ) (k : Key) (o : Open) (x : List PairText) (a : ℕ) (t : Bool) → nat_lt (depth o) most_depth ≡ t → token_at bytes a ≡ tokens.OpenBracket → Outcome bytes (At (Value k o) x a)
bracket_outcome bytes k o x a true e h = goes _ (open_bracket h (is_less _ _ e)) (taken (length bytes) a (a + 1) 0 (token_within bytes a tokens.OpenBracket h (λ e. absurd cc)) (omega arith))
bracket_outcome bytes k o x a false e h = stops _ _ (deep_array h (is_not_less _ _ e))

path_outcome : (bytes : List ℕ) (k : Key) (o : Open) (x : List PairText) (a : ℕ) (m : PathShape) → path_at bytes a ≡ m → begins_word (token_at bytes a) ≡ true → Outcome bytes (At (Value k o) x a)
path_outcome bytes k o x a (paths.Alone b) e h = let p = path_past bytes a b _ (alone e) in goes _ (path h (alone e)) (taken (length bytes) a b 0 p.0 p.1)
path_outcome bytes k o x a (paths.Within b c) e h = let p = path_past bytes a c _ (within e) in goes _ (path h (within e)) (taken (length bytes) a c 0 p.0 p.1)
path_outcome bytes k o x a (paths.Unfinished b) e h = stops _ _ (no_path h (no_member e))
path_outcome bytes k o x a paths.NoPath e h = stops _ _ (no_path h (no_word e))

argument_outcome : (bytes : List ℕ) (k : Key) (o : Open) (p : PathText SpanModel) (x : List PairText) (a : ℕ) (m : PathShape) → path_at bytes a ≡ m → Outcome bytes (At (Argument k o p) x a)
argument_outcome bytes k o p x a (paths.Alone b) e = let h = path_past bytes a b _ (alone e) in goes _ (argument (alone e)) (taken (length bytes) a b 0 h.0 h.1)
argument_outcome bytes k o p x a (paths.Within b c) e = let h = path_past bytes a c _ (within e) in goes _ (argument (within e)) (taken (length bytes) a c 0 h.0 h.1)
argument_outcome bytes k o p x a (paths.Unfinished b) e = stops _ _ (no_argument (no_member e))
argument_outcome bytes k o p x a paths.NoPath e = stops _ _ (no_argument (no_word e))

pair_outcome : (bytes : List ℕ) (x : List PairText) (a : ℕ) (m : TokenKind) → token_at bytes a ≡ m → Outcome bytes (At Pair x a)
pair_outcome bytes x a tokens.Letter e = goes _ (key e) (taken (length bytes) a _ 0 (token_within bytes a tokens.Letter e (λ e. absurd cc)) (key_past bytes a e))
pair_outcome bytes x a tokens.Underscore e = stops _ _ (no_pair (ap begins_pair e))
pair_outcome bytes x a tokens.Digit e = stops _ _ (no_pair (ap begins_pair e))
pair_outcome bytes x a tokens.Quote e = stops _ _ (no_pair (ap begins_pair e))
pair_outcome bytes x a tokens.Exclamation e = negated_outcome bytes x a _ refl e
pair_outcome bytes x a tokens.OpenBrace e = stops _ _ (no_pair (ap begins_pair e))
pair_outcome bytes x a tokens.CloseBrace e = stops _ _ (no_pair (ap begins_pair e))
pair_outcome bytes x a tokens.OpenBracket e = stops _ _ (no_pair (ap begins_pair e))
pair_outcome bytes x a tokens.CloseBracket e = stops _ _ (no_pair (ap begins_pair e))
pair_outcome bytes x a tokens.OpenParen e = stops _ _ (no_pair (ap begins_pair e))
pair_outcome bytes x a tokens.CloseParen e = stops _ _ (no_pair (ap begins_pair e))
pair_outcome bytes x a tokens.Comma e = stops _ _ (no_pair (ap begins_pair e))
pair_outcome bytes x a tokens.Colon e = stops _ _ (no_pair (ap begins_pair e))
pair_outcome bytes x a tokens.Other e = stops _ _ (no_pair (ap begins_pair e))

pair_end_outcome : (bytes : List ℕ) (p : PairText) (x : List PairText) (a : ℕ) (m : TokenKind) → token_at bytes a ≡ m → Outcome bytes (At (PairEnd p) x a)
pair_end_outcome bytes p x a tokens.Letter e = stops _ _ (no_end_brace (ap ends_pair e))
pair_end_outcome bytes p x a tokens.Underscore e = stops _ _ (no_end_brace (ap ends_pair e))
pair_end_outcome bytes p x a tokens.Digit e = stops _ _ (no_end_brace (ap ends_pair e))
pair_end_outcome bytes p x a tokens.Quote e = stops _ _ (no_end_brace (ap ends_pair e))
pair_end_outcome bytes p x a tokens.Exclamation e = stops _ _ (no_end_brace (ap ends_pair e))
pair_end_outcome bytes p x a tokens.OpenBrace e = stops _ _ (no_end_brace (ap ends_pair e))
pair_end_outcome bytes p x a tokens.CloseBrace e = goes _ (no_comma e) (omega arith)
pair_end_outcome bytes p x a tokens.OpenBracket e = stops _ _ (no_end_brace (ap ends_pair e))
pair_end_outcome bytes p x a tokens.CloseBracket e = stops _ _ (no_end_brace (ap ends_pair e))
pair_end_outcome bytes p x a tokens.OpenParen e = stops _ _ (no_end_brace (ap ends_pair e))
pair_end_outcome bytes p x a tokens.CloseParen e = stops _ _ (no_end_brace (ap ends_pair e))
pair_end_outcome bytes p x a tokens.Comma e = goes _ (comma e) (taken (length bytes) a (a + 1) 2 (token_within bytes a tokens.Comma e (λ e. absurd cc)) (omega arith))
pair_end_outcome bytes p x a tokens.Colon e = stops _ _ (no_end_brace (ap ends_pair e))
pair_end_outcome bytes p x a tokens.Other e = stops _ _ (no_end_brace (ap ends_pair e))

behind_outcome : (bytes : List ℕ) (k : Key) (o : Open) (items : ItemsText SpanModel) (start : SpanModel) (s : SettingText SpanModel) (x : List PairText) (a : ℕ) (m : TokenKind) → token_at bytes a ≡ m → Outcome bytes (At (Behind k (inside o items start) s) x a)
behind_outcome bytes k o items start s x a tokens.Letter e = stops _ _ (no_end_bracket (ap ends_item e))
behind_outcome bytes k o items start s x a tokens.Underscore e = stops _ _ (no_end_bracket (ap ends_item e))
behind_outcome bytes k o items start s x a tokens.Digit e = stops _ _ (no_end_bracket (ap ends_item e))
behind_outcome bytes k o items start s x a tokens.Quote e = stops _ _ (no_end_bracket (ap ends_item e))
behind_outcome bytes k o items start s x a tokens.Exclamation e = stops _ _ (no_end_bracket (ap ends_item e))
behind_outcome bytes k o items start s x a tokens.OpenBrace e = stops _ _ (no_end_bracket (ap ends_item e))
behind_outcome bytes k o items start s x a tokens.CloseBrace e = stops _ _ (no_end_bracket (ap ends_item e))
behind_outcome bytes k o items start s x a tokens.OpenBracket e = stops _ _ (no_end_bracket (ap ends_item e))
behind_outcome bytes k o items start s x a tokens.CloseBracket e = goes _ (no_item_comma e) (omega arith)
behind_outcome bytes k o items start s x a tokens.OpenParen e = stops _ _ (no_end_bracket (ap ends_item e))
behind_outcome bytes k o items start s x a tokens.CloseParen e = stops _ _ (no_end_bracket (ap ends_item e))
behind_outcome bytes k o items start s x a tokens.Comma e = goes _ (item_comma e) (taken (length bytes) a (a + 1) 3 (token_within bytes a tokens.Comma e (λ e. absurd cc)) (omega arith))
behind_outcome bytes k o items start s x a tokens.Colon e = stops _ _ (no_end_bracket (ap ends_item e))
behind_outcome bytes k o items start s x a tokens.Other e = stops _ _ (no_end_bracket (ap ends_item e))

value_outcome : (bytes : List ℕ) (k : Key) (o : Open) (x : List PairText) (a : ℕ) (m : TokenKind) → token_at bytes a ≡ m → Outcome bytes (At (Value k o) x a)
value_outcome bytes k o x a tokens.Letter e = path_outcome bytes k o x a _ refl (ap begins_word e)
value_outcome bytes k o x a tokens.Underscore e = path_outcome bytes k o x a _ refl (ap begins_word e)
value_outcome bytes k o x a tokens.Digit e = number_outcome bytes k o x a _ refl e
value_outcome bytes k o x a tokens.Quote e = quote_outcome bytes k o x a _ refl e
value_outcome bytes k o x a tokens.Exclamation e = stops _ _ (no_setting (ap begins_setting e))
value_outcome bytes k o x a tokens.OpenBrace e = stops _ _ (no_setting (ap begins_setting e))
value_outcome bytes k o x a tokens.CloseBrace e = stops _ _ (no_setting (ap begins_setting e))
value_outcome bytes k o x a tokens.OpenBracket e = bracket_outcome bytes k o x a _ refl e
value_outcome bytes k o x a tokens.CloseBracket e = stops _ _ (no_setting (ap begins_setting e))
value_outcome bytes k o x a tokens.OpenParen e = stops _ _ (no_setting (ap begins_setting e))
value_outcome bytes k o x a tokens.CloseParen e = stops _ _ (no_setting (ap begins_setting e))
value_outcome bytes k o x a tokens.Comma e = stops _ _ (no_setting (ap begins_setting e))
value_outcome bytes k o x a tokens.Colon e = stops _ _ (no_setting (ap begins_setting e))
value_outcome bytes k o x a tokens.Other e = stops _ _ (no_setting (ap begins_setting e))

outcome : (bytes : List ℕ) (s : State) → Outcome bytes s
outcome bytes (Spaced w x a) = gap_outcome bytes w x a _ refl
outcome bytes (At (Section r) x a) = section_outcome bytes x a r _ refl
outcome bytes (At Brace x a) = brace_outcome bytes x a _ refl
outcome bytes (At Pairs x a) = pairs_outcome bytes x a _ refl
outcome bytes (At Pair x a) = pair_outcome bytes x a _ refl
outcome bytes (At (Colon k) x a) = colon_outcome bytes x a k _ refl
outcome bytes (At (PairEnd p) x a) = pair_end_outcome bytes p x a _ refl
outcome bytes (At (Value k o) x a) = value_outcome bytes k o x a _ refl
outcome bytes (At (Paren k o p) x a) = paren_outcome bytes x a k o p _ refl
outcome bytes (At (Argument k o p) x a) = argument_outcome bytes k o p x a _ refl
outcome bytes (At (CloseParen k o p q) x a) = close_paren_outcome bytes x a k o p q _ refl
outcome bytes (At (Items k o items start) x a) = items_outcome bytes x a k o items start _ refl
outcome bytes (At (Behind k top s) x a) = goes _ whole (omega arith)
outcome bytes (At (Behind k (inside o items start) s) x a) = behind_outcome bytes k o items start s x a _ refl
outcome bytes (At Nothing x a) = ends x a refl

-- how reading ends from a state
data Ending (bytes : List ℕ) (s : State) : Type 0 where
  reads : (x : List PairText) (a : ℕ) → Steps bytes s (At Nothing x a) → Ending bytes s
  faults : (kind : KindText) (offset : ℕ) → StopsFrom bytes s kind offset → Ending bytes s

after : (bytes : List ℕ) (s t : State) → Step bytes s t → Ending bytes t → Ending bytes s
after bytes s t p (reads x a r) = reads x a (then p r)
after bytes s t p (faults kind offset f) = faults kind offset (join_stops (one p) f)

ending_on : (bytes : List ℕ) (n : ℕ) (s : State) → ((t : State) → left bytes t < n → Ending bytes t) → left bytes s < suc n → Outcome bytes s → Ending bytes s
ending_on bytes n s rest h (goes t p less) = after bytes s t p (rest t (omega (arith, h, less)))
ending_on bytes n s rest h (stops kind offset q) = faults kind offset (record { last = s; steps = here; stops = q })
ending_on bytes n s rest h (ends x a e) = reads x a (subst (λ t. Steps bytes s t) e here)

ending : (bytes : List ℕ) (n : ℕ) (s : State) → left bytes s < n → Ending bytes s
ending bytes zero s h = absurd (omega (arith, h))
ending bytes (suc n) s h = ending_on bytes n s (λ t less. ending bytes n t less) h (outcome bytes s)

distinct_or_not : (required : Bool) (bytes : List ℕ) (x : List PairText) (a : ℕ) → Reads required bytes x a → (repeats : List (List SpanModel)) → repeats_of x ≡ repeats → IsAnswered required bytes
distinct_or_not required bytes x a r [] e = reads_header x a r e
distinct_or_not required bytes x a r (p ∷ ps) e = repeats_keys x a r (λ h. let f = sym e ∙ h in absurd cc)

answered_by : (required : Bool) (bytes : List ℕ) → Ending bytes (beginning required) → IsAnswered required bytes
answered_by required bytes (reads x a r) = distinct_or_not required bytes x a r _ refl
answered_by required bytes (faults kind offset f) = has_fault kind offset f

pub answered : (required : Bool) (bytes : List ℕ) → IsAnswered required bytes
answered required bytes = answered_by required bytes (ending bytes (suc (left bytes (beginning required))) (beginning required) (omega arith))
