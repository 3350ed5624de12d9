-- From each state at most one construct goes on, or one fault stops.
use Rattle.std.proofs.Common.{◌≡◌, ℕ, ◌+◌, ◌<◌, ◌≤◌, ◌^◌, Bool, true, false, cond, List, [], ◌∷◌, ◌++◌, length, Option, Some, None, refl, sym, ◌∙◌, subst, arith}
use Rattle.std.specs.Prelude.{slice_range, nat_lt}
use Rattle.std.proofs.lemmas.Bool.Decides.{nat_tests}
use lib.Chars.{codes}
use Rattle.cfg_base.specs.SpanModel.{SpanModel}
use Rattle.cfg_sections.specs.declared.header.scan.TokenKind.{TokenKind}
use Rattle.cfg_sections.specs.declared.header.scan.TokenKind.TheVariants as tokens
use Rattle.cfg_sections.specs.declared.header.scan.PathShape.{PathShape}
use Rattle.cfg_sections.specs.declared.header.scan.PathShape.TheVariants as paths
use Rattle.cfg_sections.specs.HeaderErrors.{KindText, missing_section, illegal_name, expected_token, invalid_entry}
use Rattle.cfg_sections.specs.HeaderTexts.{PathText, SettingText, unitary, construct, num, quoted, array, ItemsText, none, more, flag, setting}
use Rattle.cfg_sections.specs.HeaderWords.{gap_part, token_at, path_at, begins_word}
use Rattle.cfg_sections.specs.Sections.{span, PairText, Open, top, inside, depth, most_depth, Key, Wanted, Section, Brace, Pairs, Pair, Colon, PairEnd, Value, Paren, Argument, CloseParen, Items, Behind, Nothing, State, Spaced, At, key_of, pair_of, word_of, IsPath, alone, within, key_end, number_end, number_at, text_end, is_section_at, is_colon, is_open_paren, is_close_paren, is_open_brace, is_close_brace, is_close_bracket, begins_key, begins_pair, ends_pair, ends_item, begins_setting, Step, gap_more, gap_end, section, no_section, open_brace, close_brace, next_pair, key, negated_key, colon, no_colon, comma, no_comma, number, quote, path, open_bracket, open_paren, no_paren, argument, close_paren, close_bracket, item, item_comma, no_item_comma, whole, IsNoPath, no_word, no_member, Stops, missing, no_brace, no_end_brace, no_end_bracket, no_end_paren, no_pair, no_key, no_setting, no_path, no_argument, no_end_quote, large_number, deep_array, Steps, here, then, Reads, Faults}

-- what comes after a state
data Next : Type 0 where
  Goes : State → Next
  Fails : KindText → ℕ → Next
  Ends : Next

abbrev gap_next : Wanted → List PairText → ℕ → Option ℕ → Next
gap_next w x a (Some b) = Goes (Spaced w x b)
gap_next w x a None = Goes (At w x a)

abbrev no_section_next : Bool → List PairText → ℕ → Next
no_section_next true x a = Fails missing_section 0
no_section_next false x a = Goes (At Nothing x 0)

abbrev negated_next : List ℕ → List PairText → ℕ → Next
negated_next bytes x a = cond (begins_key (token_at bytes (a + 1))) (Goes (Spaced (PairEnd (pair_of (key_of bytes (a + 1) (key_end bytes (a + 1))) (flag false (span a (key_end bytes (a + 1)))))) x (key_end bytes (a + 1)))) (Fails illegal_name (a + 1))

abbrev pair_next : List ℕ → List PairText → ℕ → TokenKind → Next
pair_next bytes x a tokens.Letter = Goes (Spaced (Colon (key_of bytes a (key_end bytes a))) x (key_end bytes a))
pair_next bytes x a tokens.Exclamation = negated_next bytes x a
pair_next bytes x a _ = Fails illegal_name a

abbrev pair_end_next : PairText → List PairText → ℕ → TokenKind → Next
pair_end_next p x a tokens.Comma = Goes (Spaced Pairs (x ++ p ∷ []) (a + 1))
pair_end_next p x a tokens.CloseBrace = Goes (At Pairs (x ++ p ∷ []) a)
pair_end_next p x a _ = Fails (expected_token 125) a

-- f is told the path that stands at a
abbrev by_path : List ℕ → ℕ → (PathText SpanModel → ℕ → State) → PathShape → Next
by_path bytes a f (paths.Alone b) = Goes (f (record { namespace = None; member = word_of bytes a b }) b)
by_path bytes a f (paths.Within b c) = Goes (f (record { namespace = Some (word_of bytes a b); member = word_of bytes (b + 2) c }) c)
by_path bytes a f (paths.Unfinished b) = Fails illegal_name (b + 2)
by_path bytes a f paths.NoPath = Fails illegal_name a

abbrev number_next : List ℕ → Key → Open → List PairText → ℕ → Next
number_next bytes k o x a = cond (nat_lt (number_at bytes a) (2 ^ 64)) (Goes (Spaced (Behind k o (num (number_at bytes a) (span a (number_end bytes a)))) x (number_end bytes a))) (Fails (invalid_entry (codes "number")) a)

abbrev quote_next : List ℕ → Key → Open → List PairText → ℕ → Next
quote_next bytes k o x a = cond (nat_lt (text_end bytes a) (length bytes)) (Goes (Spaced (Behind k o (quoted (slice_range bytes (a + 1) (text_end bytes a)) (span a (text_end bytes a + 1)))) x (text_end bytes a + 1))) (Fails (expected_token 34) (length bytes))

abbrev bracket_next : Key → Open → List PairText → ℕ → Next
bracket_next k o x a = cond (nat_lt (depth o) most_depth) (Goes (Spaced (Items k o none (span a (a + 1))) x (a + 1))) (Fails (invalid_entry (codes "array")) a)

abbrev other_next : List ℕ → Key → Open → List PairText → ℕ → TokenKind → Next
other_next bytes k o x a tokens.Digit = number_next bytes k o x a
other_next bytes k o x a tokens.Quote = quote_next bytes k o x a
other_next bytes k o x a tokens.OpenBracket = bracket_next k o x a
other_next bytes k o x a _ = Fails illegal_name a

abbrev value_next : List ℕ → Key → Open → List PairText → ℕ → TokenKind → Next
value_next bytes k o x a m = cond (begins_word m) (by_path bytes a (λ p b. Spaced (Paren k o p) x b) (path_at bytes a)) (other_next bytes k o x a m)

abbrev behind_next : Key → Open → SettingText SpanModel → List PairText → ℕ → TokenKind → Next
behind_next k top s x a m = Goes (At (PairEnd (pair_of k (setting s))) x a)
behind_next k (inside o items start) s x a tokens.Comma = Goes (Spaced (Items k o (more items s) start) x (a + 1))
behind_next k (inside o items start) s x a tokens.CloseBracket = Goes (At (Items k o (more items s) start) x a)
behind_next k (inside o items start) s x a _ = Fails (expected_token 93) a

next : List ℕ → State → Next
next bytes (Spaced w x a) = gap_next w x a (gap_part bytes a)
next bytes (At (Section r) x a) = cond (is_section_at bytes a) (Goes (Spaced Brace x (a + 9))) (no_section_next r x a)
next bytes (At Brace x a) = cond (is_open_brace (token_at bytes a)) (Goes (Spaced Pairs x (a + 1))) (Fails (expected_token 123) a)
next bytes (At Pairs x a) = cond (is_close_brace (token_at bytes a)) (Goes (At Nothing x (a + 1))) (Goes (At Pair x a))
next bytes (At Pair x a) = pair_next bytes x a (token_at bytes a)
next bytes (At (Colon k) x a) = cond (is_colon (token_at bytes a)) (Goes (Spaced (Value k top) x (a + 1))) (Goes (At (PairEnd (pair_of k (flag true k.at))) x a))
next bytes (At (PairEnd p) x a) = pair_end_next p x a (token_at bytes a)
next bytes (At (Value k o) x a) = value_next bytes k o x a (token_at bytes a)
next bytes (At (Paren k o p) x a) = cond (is_open_paren (token_at bytes a)) (Goes (Spaced (Argument k o p) x (a + 1))) (Goes (At (Behind k o (unitary p)) x a))
next bytes (At (Argument k o p) x a) = by_path bytes a (λ q b. Spaced (CloseParen k o p q) x b) (path_at bytes a)
next bytes (At (CloseParen k o p q) x a) = cond (is_close_paren (token_at bytes a)) (Goes (Spaced (Behind k o (construct p q)) x (a + 1))) (Fails (expected_token 41) a)
next bytes (At (Items k o items start) x a) = cond (is_close_bracket (token_at bytes a)) (Goes (Spaced (Behind k o (array items start (span a (a + 1)))) x (a + 1))) (Goes (At (Value k (inside o items start)) x a))
next bytes (At (Behind k o s) x a) = behind_next k o s x a (token_at bytes a)
next bytes (At Nothing x a) = Ends

is_below : (a b : ℕ) → a < b → nat_lt a b ≡ true
is_below a b h = grind (arith, nat_tests)

is_not_below : (a b : ℕ) → b ≤ a → nat_lt a b ≡ false
is_not_below a b h = grind (arith, nat_tests)

path_goes : {bytes : List ℕ} {a b : ℕ} {p : PathText SpanModel} (f : PathText SpanModel → ℕ → State) → IsPath bytes a p b → by_path bytes a f (path_at bytes a) ≡ Goes (f p b)
path_goes f (alone e) = rw e refl
path_goes f (within e) = rw e refl

path_stops : {bytes : List ℕ} {a b : ℕ} {e : KindText} (f : PathText SpanModel → ℕ → State) → IsNoPath bytes a e b → by_path bytes a f (path_at bytes a) ≡ Fails e b
path_stops f (no_word e) = rw e refl
path_stops f (no_member e) = rw e refl

follows : {bytes : List ℕ} {s t : State} → Step bytes s t → next bytes s ≡ Goes t
unfolding next
follows (gap_more e) = rw e refl
follows (gap_end e) = rw e refl
follows (section e) = rw e refl
follows (no_section e) = rw e refl
follows (open_brace e) = rw e refl
follows (close_brace e) = rw e refl
follows (next_pair e) = rw e refl
follows (key e) = rw e refl
follows (negated_key e f) = rw (e, f) refl
follows (colon e) = rw e refl
follows (no_colon e) = rw e refl
follows (comma e) = rw e refl
follows (no_comma e) = rw e refl
follows (number e h) = rw (e, is_below _ _ h) refl
follows (quote e h) = rw (e, is_below _ _ h) refl
follows (path {x = x} {k = k} {o = o} e h) = rw e (path_goes (λ p b. Spaced (Paren k o p) x b) h)
follows (open_bracket e h) = rw (e, is_below _ _ h) refl
follows (open_paren e) = rw e refl
follows (no_paren e) = rw e refl
follows (argument {x = x} {k = k} {o = o} {p = p} h) = path_goes (λ q b. Spaced (CloseParen k o p q) x b) h
follows (close_paren e) = rw e refl
follows (close_bracket e) = rw e refl
follows (item e) = rw e refl
follows (item_comma e) = rw e refl
follows (no_item_comma e) = rw e refl
follows whole = refl

no_pair_next : (bytes : List ℕ) (x : List PairText) (a : ℕ) (m : TokenKind) → begins_pair m ≡ false → pair_next bytes x a m ≡ Fails illegal_name a
no_pair_next bytes x a tokens.Letter e = absurd cc
no_pair_next bytes x a tokens.Underscore e = refl
no_pair_next bytes x a tokens.Digit e = refl
no_pair_next bytes x a tokens.Quote e = refl
no_pair_next bytes x a tokens.Exclamation e = absurd cc
no_pair_next bytes x a tokens.OpenBrace e = refl
no_pair_next bytes x a tokens.CloseBrace e = refl
no_pair_next bytes x a tokens.OpenBracket e = refl
no_pair_next bytes x a tokens.CloseBracket e = refl
no_pair_next bytes x a tokens.OpenParen e = refl
no_pair_next bytes x a tokens.CloseParen e = refl
no_pair_next bytes x a tokens.Comma e = refl
no_pair_next bytes x a tokens.Colon e = refl
no_pair_next bytes x a tokens.Other e = refl

no_pair_end_next : (p : PairText) (x : List PairText) (a : ℕ) (m : TokenKind) → ends_pair m ≡ false → pair_end_next p x a m ≡ Fails (expected_token 125) a
no_pair_end_next p x a tokens.Letter e = refl
no_pair_end_next p x a tokens.Underscore e = refl
no_pair_end_next p x a tokens.Digit e = refl
no_pair_end_next p x a tokens.Quote e = refl
no_pair_end_next p x a tokens.Exclamation e = refl
no_pair_end_next p x a tokens.OpenBrace e = refl
no_pair_end_next p x a tokens.CloseBrace e = absurd cc
no_pair_end_next p x a tokens.OpenBracket e = refl
no_pair_end_next p x a tokens.CloseBracket e = refl
no_pair_end_next p x a tokens.OpenParen e = refl
no_pair_end_next p x a tokens.CloseParen e = refl
no_pair_end_next p x a tokens.Comma e = absurd cc
no_pair_end_next p x a tokens.Colon e = refl
no_pair_end_next p x a tokens.Other e = refl

no_value_next : (bytes : List ℕ) (k : Key) (o : Open) (x : List PairText) (a : ℕ) (m : TokenKind) → begins_setting m ≡ false → value_next bytes k o x a m ≡ Fails illegal_name a
no_value_next bytes k o x a tokens.Letter e = absurd cc
no_value_next bytes k o x a tokens.Underscore e = absurd cc
no_value_next bytes k o x a tokens.Digit e = absurd cc
no_value_next bytes k o x a tokens.Quote e = absurd cc
no_value_next bytes k o x a tokens.Exclamation e = refl
no_value_next bytes k o x a tokens.OpenBrace e = refl
no_value_next bytes k o x a tokens.CloseBrace e = refl
no_value_next bytes k o x a tokens.OpenBracket e = absurd cc
no_value_next bytes k o x a tokens.CloseBracket e = refl
no_value_next bytes k o x a tokens.OpenParen e = refl
no_value_next bytes k o x a tokens.CloseParen e = refl
no_value_next bytes k o x a tokens.Comma e = refl
no_value_next bytes k o x a tokens.Colon e = refl
no_value_next bytes k o x a tokens.Other e = refl

no_behind_next : (k : Key) (o : Open) (items : ItemsText SpanModel) (start : SpanModel) (s : SettingText SpanModel) (x : List PairText) (a : ℕ) (m : TokenKind) → ends_item m ≡ false → behind_next k (inside o items start) s x a m ≡ Fails (expected_token 93) a
no_behind_next k o items start s x a tokens.Letter e = refl
no_behind_next k o items start s x a tokens.Underscore e = refl
no_behind_next k o items start s x a tokens.Digit e = refl
no_behind_next k o items start s x a tokens.Quote e = refl
no_behind_next k o items start s x a tokens.Exclamation e = refl
no_behind_next k o items start s x a tokens.OpenBrace e = refl
no_behind_next k o items start s x a tokens.CloseBrace e = refl
no_behind_next k o items start s x a tokens.OpenBracket e = refl
no_behind_next k o items start s x a tokens.CloseBracket e = absurd cc
no_behind_next k o items start s x a tokens.OpenParen e = refl
no_behind_next k o items start s x a tokens.CloseParen e = refl
no_behind_next k o items start s x a tokens.Comma e = absurd cc
no_behind_next k o items start s x a tokens.Colon e = refl
no_behind_next k o items start s x a tokens.Other e = refl

fails : {bytes : List ℕ} {s : State} {kind : KindText} {offset : ℕ} → Stops bytes s kind offset → next bytes s ≡ Fails kind offset
unfolding next
fails (missing e) = rw e refl
fails (no_brace e) = rw e refl
fails (no_end_brace e) = no_pair_end_next _ _ _ _ e
fails (no_end_bracket e) = no_behind_next _ _ _ _ _ _ _ _ e
fails (no_end_paren e) = rw e refl
fails (no_pair e) = no_pair_next _ _ _ _ e
fails (no_key e f) = rw (e, f) refl
fails (no_setting e) = no_value_next _ _ _ _ _ _ e
fails (no_path {x = x} {k = k} {o = o} e h) = rw e (path_stops (λ p b. Spaced (Paren k o p) x b) h)
fails (no_argument {x = x} {k = k} {o = o} {p = p} h) = path_stops (λ q b. Spaced (CloseParen k o p q) x b) h
fails (no_end_quote e h) = rw (e, is_not_below _ _ h) refl
fails (large_number e h) = rw (e, is_not_below _ _ h) refl
fails (deep_array e h) = rw (e, is_not_below _ _ h) refl

same_step : {bytes : List ℕ} {s t u : State} → Step bytes s t → Step bytes s u → t ≡ u
same_step p q = let e = sym (follows p) ∙ follows q in cc

-- where reading ends: nothing goes on
abbrev IsLast : List ℕ → State → Type 0
IsLast bytes s = (t : State) → Step bytes s t → ⊥

moved : {bytes : List ℕ} {s t u : State} → s ≡ t → Steps bytes s u → Steps bytes t u
moved {bytes = bytes} {u = u} e k = subst (λ (v : State). Steps bytes v u) e k

one_end : {bytes : List ℕ} {s t u : State} → IsLast bytes t → IsLast bytes u → Steps bytes s t → Steps bytes s u → t ≡ u
one_end f g here here = refl
one_end f g here (then p r) = absurd (f _ p)
one_end f g (then p r) here = absurd (g _ p)
one_end f g (then p r) (then q k) = one_end f g r (moved (same_step q p) k)

done : (bytes : List ℕ) (x : List PairText) (a : ℕ) → IsLast bytes (At Nothing x a)
done bytes x a t p = elim p [ ]

stopped : {bytes : List ℕ} {s : State} {kind : KindText} {offset : ℕ} → Stops bytes s kind offset → IsLast bytes s
stopped h t p = let e = sym (follows p) ∙ fails h in absurd cc

pub one_reading : (required : Bool) (bytes : List ℕ) (x y : List PairText) (a b : ℕ) → Reads required bytes x a → Reads required bytes y b → (x ≡ y) × (a ≡ b)
one_reading required bytes x y a b p q = let e = one_end (done bytes x a) (done bytes y b) p q in (cc, cc)

ended : (bytes : List ℕ) (x : List PairText) (a b : ℕ) (kind : KindText) → next bytes (At Nothing x a) ≡ Fails kind b → ⊥
unfolding next
ended bytes x a b kind h = absurd cc

pub not_both : (required : Bool) (bytes : List ℕ) (x : List PairText) (a b : ℕ) (kind : KindText) → Reads required bytes x a → Faults required bytes kind b → ⊥
not_both required bytes x a b kind p f =
    let e = one_end (stopped f.stops) (done bytes x a) f.steps p in
    let h : next bytes (At Nothing x a) ≡ Fails kind b = subst (λ s. next bytes s ≡ Fails kind b) e (fails f.stops) in
    ended bytes x a b kind h

same_fault : (k l : KindText) (a b : ℕ) → Fails k a ≡ Fails l b → (k ≡ l) × (a ≡ b)
same_fault k l a b e = (cc, cc)

pub one_fault : (required : Bool) (bytes : List ℕ) (k l : KindText) (a b : ℕ) → Faults required bytes k a → Faults required bytes l b → (k ≡ l) × (a ≡ b)
one_fault required bytes k l a b f g =
    let e = one_end (stopped f.stops) (stopped g.stops) f.steps g.steps in
    same_fault k l a b (sym (subst (λ s. next bytes s ≡ Fails k a) e (fails f.stops)) ∙ fails g.stops)
