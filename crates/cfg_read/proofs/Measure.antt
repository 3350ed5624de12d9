-- Each construct leaves less to read, so that reading comes to an end.
use Rattle.std.proofs.Common.{◌≡◌, ℕ, zero, suc, ◌+◌, ◌-◌, ◌*◌, ◌<◌, ◌≤◌, Bool, true, false, cond, List, length, Option, Some, None, refl, subst, arith}
use Rattle.std.specs.Prelude.{slice_get}
use Rattle.std.proofs.lemmas.Option.{slice_get_within}
use Rattle.cfg_read.specs.declared.yacc.YaccKind.{YaccKind}
use Rattle.cfg_read.specs.declared.yacc.parser.declaration.Declaration.{Declaration}
use Rattle.cfg_read.specs.declared.yacc.parser.declaration.Declaration.TheVariants as declarations
use Rattle.cfg_read.specs.declared.yacc.parser.error.YaccGrammarErrorKind.{YaccGrammarErrorKind}
use Rattle.cfg_base.specs.declared.text.GapPart.TheVariants as gaps
use Rattle.cfg_read.specs.declared.yacc.parser.scan.TokenKind.{TokenKind}
use Rattle.cfg_read.specs.declared.yacc.parser.scan.TokenKind.TheVariants as tokens
use Rattle.cfg_read.specs.declared.yacc.parser.scan.StringKind.{StringKind}
use Rattle.cfg_read.specs.declared.yacc.parser.scan.StringKind.TheVariants as strings
use Rattle.cfg_base.specs.Text.{is_digit, stands, is_at, run_end, line_end, first_offset, comment_end}
use Rattle.cfg_read.specs.Bytes.{is_blank, is_name_start, is_name_byte, is_quote, is_quoted_by, is_keyword_byte, holds_line_feed}
use Rattle.cfg_read.specs.Words.{token_kind_at, token_kind_of, sign_kind, quoted_kind, line_gap_at, line_comment_part, keyword_end, string_at, string_of, string_stop, stops_string, closes_string}
use Rattle.cfg_read.specs.SyntaxTexts.{SymbolText, SyntaxText}
use Rattle.cfg_read.specs.SyntaxUpdates.{mark_end}
use Rattle.cfg_read.specs.Reading.{Wanted, Declared, DeclaredToken, LineItem, Rest, RuleName, Nothing, State, Spaced, InLine, At, IsToken, name, quoted, begins, Step, gap_part, gap_end, line_gap_part, line_gap_end, separator, declared, start_name, declared_token, tokens_end, line_item, list_end, number, epp_token, epp_string, action_type, parse_generics, parse_param, rules_end, programs, rule_name, colon, typed_colon, symbol, empty, prec, prec_token, action, bar, semicolon, Steps, here, then, beginning}
use Rattle.cfg_read.specs.SyntaxErrors.{StopsFrom, Outcome, reads, faulty}
use Rattle.cfg_read.proofs.Chains.{join_stops, and_stops}
use Rattle.cfg_read.proofs.Progress.{Progress, goes, fails, ends, progress}
use Rattle.cfg_base.proofs.TextRuns.{run_from, run_beyond, first_offset_from, stands_within, GapAdvances, gap_more}
use Rattle.cfg_read.proofs.Runs.{name_start_passes}

-- a token kind other than the end stands within the text, and ends behind its offset
Advances : List ℕ → ℕ → TokenKind → Type 0
Advances text a tokens.End = Unit {0}
Advances text a (tokens.Name b) = (a < length text) × (a < b)
Advances text a (tokens.Digits b) = (a < length text) × (a < b)
Advances text a (tokens.Quoted b) = (a < length text) × (a < b)
Advances text a _ = a < length text

abbrev is_sign : TokenKind → Bool
is_sign tokens.End = false
is_sign (tokens.Name b) = false
is_sign (tokens.Digits b) = false
is_sign (tokens.Quoted b) = false
is_sign _ = true

sign : (text : List ℕ) (a : ℕ) (m : TokenKind) → is_sign m ≡ true → a < length text → Advances text a m
unfolding Advances
sign text a tokens.End e h = absurd cc
sign text a (tokens.Name b) e h = absurd cc
sign text a (tokens.Digits b) e h = absurd cc
sign text a (tokens.Quoted b) e h = absurd cc
sign text a _ e h = h

name_leaf : (text : List ℕ) (a b : ℕ) → a < length text → a < b → Advances text a (tokens.Name b)
unfolding Advances
name_leaf text a b h k = (h, k)

digits_leaf : (text : List ℕ) (a b : ℕ) → a < length text → a < b → Advances text a (tokens.Digits b)
unfolding Advances
digits_leaf text a b h k = (h, k)

quoted_leaf : (text : List ℕ) (a b : ℕ) → a < length text → a < b → Advances text a (tokens.Quoted b)
unfolding Advances
quoted_leaf text a b h k = (h, k)

end_leaf : (text : List ℕ) (a : ℕ) → Advances text a tokens.End
unfolding Advances
end_leaf text a = tt

either : (text : List ℕ) (a : ℕ) (c : Bool) (x y : TokenKind) → Advances text a x → Advances text a y → Advances text a (cond c x y)
either text a true x y h k = h
either text a false x y h k = k

sign_advances : (text : List ℕ) (a b : ℕ) → a < length text → Advances text a (sign_kind b text a)
sign_advances text a b h =
    either text a _ _ _ (either text a _ _ _ (sign text a tokens.Separator refl h) (sign text a tokens.Percent refl h))
    (either text a _ _ _ (sign text a tokens.Colon refl h)
    (either text a _ _ _ (sign text a tokens.Semicolon refl h)
    (either text a _ _ _ (sign text a tokens.Bar refl h)
    (either text a _ _ _ (sign text a tokens.Brace refl h)
    (either text a _ _ _ (sign text a tokens.Arrow refl h)
    (either text a _ _ _ (sign text a tokens.Break refl h) (sign text a tokens.Other refl h)))))))

quoted_advances : (text : List ℕ) (a q : ℕ) → a < length text → Advances text a (quoted_kind q text a)
quoted_advances text a q h =
    let from = run_from (is_quoted_by q) text (a + 2) in
    either text a _ _ _ (quoted_leaf text a (run_end (is_quoted_by q) text (a + 2)) h (omega (arith, from))) (sign text a tokens.OpenQuote refl h)

byte_advances : (text : List ℕ) (a b : ℕ) → slice_get text a ≡ Some b → Advances text a (token_kind_of (Some b) text a)
byte_advances text a b e = go (is_name_start b) refl (is_digit b) refl (is_quote b) refl
  where
    within : a < length text
    within = slice_get_within text a b e

    go : (n : Bool) → is_name_start b ≡ n → (d : Bool) → is_digit b ≡ d → (q : Bool) → is_quote b ≡ q → Advances text a (token_kind_of (Some b) text a)
    go true e₁ d e₂ q e₃ = rw e₁ (name_leaf text a _ within (run_beyond is_name_byte text a b e (name_start_passes b e₁)))
    go false e₁ true e₂ q e₃ = rw (e₁, e₂) (digits_leaf text a _ within (run_beyond is_digit text a b e e₂))
    go false e₁ false e₂ true e₃ = rw (e₁, e₂, e₃) (quoted_advances text a b within)
    go false e₁ false e₂ false e₃ = rw (e₁, e₂, e₃) (sign_advances text a b within)

kind_advances : (text : List ℕ) (a : ℕ) → Advances text a (token_kind_at text a)
unfolding token_kind_at
kind_advances text a = go (slice_get text a) refl
  where
    go : (o : Option ℕ) → slice_get text a ≡ o → Advances text a (token_kind_of o text a)
    go None e = end_leaf text a
    go (Some b) e = byte_advances text a b e

name_more : (text : List ℕ) (a b : ℕ) → token_kind_at text a ≡ tokens.Name b → (a < length text) × (a < b)
unfolding Advances
name_more text a b e = subst (Advances text a) e (kind_advances text a)

digits_more : (text : List ℕ) (a b : ℕ) → token_kind_at text a ≡ tokens.Digits b → (a < length text) × (a < b)
unfolding Advances
digits_more text a b e = subst (Advances text a) e (kind_advances text a)

quoted_more : (text : List ℕ) (a b : ℕ) → token_kind_at text a ≡ tokens.Quoted b → (a < length text) × (a < b)
unfolding Advances
quoted_more text a b e = subst (Advances text a) e (kind_advances text a)

of_sign : (text : List ℕ) (a : ℕ) (m : TokenKind) → is_sign m ≡ true → Advances text a m → a < length text
unfolding Advances
of_sign text a tokens.End e h = absurd cc
of_sign text a (tokens.Name b) e h = absurd cc
of_sign text a (tokens.Digits b) e h = absurd cc
of_sign text a (tokens.Quoted b) e h = absurd cc
of_sign text a _ e h = h

sign_more : (text : List ℕ) (a : ℕ) (m : TokenKind) → is_sign m ≡ true → token_kind_at text a ≡ m → a < length text
sign_more text a m s e = of_sign text a m s (subst (Advances text a) e (kind_advances text a))

line_comment_advances : (text : List ℕ) (a : ℕ) (o : Option ℕ) → a < length text → comment_end text (a + 2) ≡ o → GapAdvances text a (line_comment_part text (a + 2) o)
line_comment_advances text a None h e = tt
line_comment_advances text a (Some b) h e = go (holds_line_feed text (a + 2) b) refl
  where
    go : (t : Bool) → holds_line_feed text (a + 2) b ≡ t → GapAdvances text a (line_comment_part text (a + 2) (Some b))
    go true k = rw k tt
    go false k = rw k (h, let from = first_offset_from _ _ _ b e in omega (arith, from))

line_gap_advances : (text : List ℕ) (a : ℕ) → GapAdvances text a (line_gap_at text a)
unfolding line_gap_at
line_gap_advances text a = go (stands text a is_blank) refl (is_at text a 47) refl (is_at text (a + 1) 42) refl
  where
    go : (w : Bool) → stands text a is_blank ≡ w → (s : Bool) → is_at text a 47 ≡ s → (u : Bool) → is_at text (a + 1) 42 ≡ u → GapAdvances text a (line_gap_at text a)
    go true e₁ s e₂ u e₄ = rw e₁ (stands_within text a is_blank e₁, omega arith)
    go false e₁ false e₂ u e₄ = rw (e₁, e₂) tt
    go false e₁ true e₂ false e₄ = rw (e₁, e₂, e₄) tt
    go false e₁ true e₂ true e₄ = rw (e₁, e₂, e₄) (line_comment_advances text a (comment_end text (a + 2)) (stands_within text a _ e₂) refl)

line_gap_more : (text : List ℕ) (a b : ℕ) → line_gap_at text a ≡ gaps.Part b → (a < length text) × (a < b)
line_gap_more text a b e = subst (GapAdvances text a) e (line_gap_advances text a)

-- a string's second quote stands behind its first
abbrev StringAdvances : List ℕ → ℕ → StringKind → Type 0
StringAdvances text a (strings.Closed b) = (a < length text) × (a < b)
StringAdvances text a (strings.Broken b) = Unit {0}

string_advances : (text : List ℕ) (a : ℕ) → StringAdvances text a (string_at text a)
unfolding string_at
string_advances text a = go (slice_get text a) refl
  where
    stop : (q b : ℕ) → slice_get text a ≡ Some q → (o : Option ℕ) → first_offset (stops_string q text) (a + 1) (length text) ≡ o → StringAdvances text a (string_stop q text o)
    stop q b e None h = tt
    stop q b e (Some c) h = go₂ (closes_string q text c) refl
      where
        go₂ : (t : Bool) → closes_string q text c ≡ t → StringAdvances text a (string_stop q text (Some c))
        go₂ true k = rw k (slice_get_within text a q e, let from = first_offset_from _ _ _ c h in omega (arith, from))
        go₂ false k = rw k tt

    go : (o : Option ℕ) → slice_get text a ≡ o → StringAdvances text a (string_of o text a)
    go None e = tt
    go (Some q) e = go₃ (is_quote q) refl
      where
        go₃ : (t : Bool) → is_quote q ≡ t → StringAdvances text a (string_of (Some q) text a)
        go₃ true k = rw k (stop q q e (first_offset (stops_string q text) (a + 1) (length text)) refl)
        go₃ false k = rw k tt

string_more : (text : List ℕ) (a b : ℕ) → string_at text a ≡ strings.Closed b → (a < length text) × (a < b)
string_more text a b e = subst (StringAdvances text a) e (string_advances text a)

token_more : {text : List ℕ} {a b : ℕ} {t : SymbolText} → IsToken text a t b → (a < length text) × (a < b)
token_more {text = text} {a = a} (name {b = b} e) = name_more text a b e
token_more {text = text} {a = a} (quoted {b = b} e) = let h = quoted_more text a b e in (h.0, omega (arith, h.1))

-- a mark may stand behind a symbol
mark_from : (text : List ℕ) (b : ℕ) → b ≤ mark_end text b
mark_from text b = go (is_at text b 63)
  where
    go : (m : Bool) → b ≤ cond m (b + 1) b
    go true = omega arith
    go false = omega arith

-- Some things that are wanted lead on at the same offset.
abbrev rank : Wanted → ℕ
rank DeclaredToken = 1
rank (LineItem l ts) = 1
rank (Rest r) = 1
rank RuleName = 1
rank _ = 0

rank_small : (w : Wanted) → rank w ≤ 1
rank_small DeclaredToken = omega arith
rank_small (LineItem l ts) = omega arith
rank_small (Rest r) = omega arith
rank_small RuleName = omega arith
rank_small _ = omega arith

-- what is left to read
abbrev left : List ℕ → State → ℕ
left text (Spaced w x a) = 4 * (length text - a) + (2 * rank w + 1)
left text (InLine w x a) = 4 * (length text - a) + (2 * rank w + 1)
left text (At w x a) = 4 * (length text - a) + 2 * rank w

further : (len a b r q : ℕ) → a < len → a < b → r ≤ 3 → 4 * (len - b) + r < 4 * (len - a) + q
further len a b r q h k l = omega arith

declared_less : (text : List ℕ) (d : Declaration) (x : SyntaxText) (a b : ℕ) → a < length text → a < b → left text (begins d x b) < left text (At Declared x a)
declared_less text declarations.Token x a b h k = further (length text) a b 3 0 h k (omega arith)
declared_less text declarations.Start x a b h k = further (length text) a b 1 0 h k (omega arith)
declared_less text declarations.Epp x a b h k = further (length text) a b 1 0 h k (omega arith)
declared_less text (declarations.Items l) x a b h k = further (length text) a b 3 0 h k (omega arith)
declared_less text (declarations.Number c) x a b h k = further (length text) a b 1 0 h k (omega arith)
declared_less text (declarations.Rest r) x a b h k = further (length text) a b 2 0 h k (omega arith)

line_less : (len a b : ℕ) → a ≤ b → 4 * (len - b) + 1 < 4 * (len - a) + 2
line_less len a b h = omega arith

step_less : {kind : YaccKind} {text : List ℕ} {s t : State} → Step kind text s t → left text t < left text s
step_less {text = text} (gap_part {w = w} {a = a} {b = b} e) = let m = gap_more text a b e in let r = rank_small w in further (length text) a b (2 * rank w + 1) (2 * rank w + 1) m.0 m.1 (omega (arith, r))
step_less (gap_end e) = omega arith
step_less {text = text} (line_gap_part {w = w} {a = a} {b = b} e) = let m = line_gap_more text a b e in let r = rank_small w in further (length text) a b (2 * rank w + 1) (2 * rank w + 1) m.0 m.1 (omega (arith, r))
step_less (line_gap_end e) = omega arith
step_less {text = text} (separator {a = a} e) = further (length text) a (a + 2) 3 0 (sign_more text a tokens.Separator refl e) (omega arith) (omega arith)
step_less {text = text} (declared {x = x} {a = a} {d = d} e h) = let from = run_from is_keyword_byte text (a + 1) in declared_less text d x a (keyword_end text a) (sign_more text a tokens.Percent refl e) (omega (arith, from))
step_less {text = text} (start_name {a = a} {b = b} e) = let m = name_more text a b e in further (length text) a b 1 0 m.0 m.1 (omega arith)
step_less {text = text} (declared_token {a = a} {b = b} e) = let m = token_more e in further (length text) a b 3 2 m.0 m.1 (omega arith)
step_less (tokens_end e) = omega arith
step_less {text = text} (line_item {a = a} {b = b} e) = let m = token_more e in further (length text) a b 3 2 m.0 m.1 (omega arith)
step_less (list_end e) = omega arith
step_less {text = text} (number {a = a} {b = b} e h) = let m = digits_more text a b e in further (length text) a b 1 0 m.0 m.1 (omega arith)
step_less {text = text} (epp_token {a = a} {b = b} e) = let m = token_more e in further (length text) a b 1 0 m.0 m.1 (omega arith)
step_less {text = text} (epp_string {a = a} {b = b} e) = let m = string_more text a b e in further (length text) a (b + 1) 1 0 m.0 (omega (arith, m.1)) (omega arith)
step_less {text = text} (action_type {a = a} e) = line_less (length text) a (line_end text a) (run_from _ text a)
step_less {text = text} (parse_generics {a = a} e) = line_less (length text) a (line_end text a) (run_from _ text a)
step_less {text = text} (parse_param {a = a} e h) = line_less (length text) a (line_end text a) (run_from _ text a)
step_less (rules_end e) = omega arith
step_less (programs e) = omega arith
step_less {text = text} (rule_name {a = a} {b = b} e) = let m = name_more text a b e in further (length text) a b 1 2 m.0 m.1 (omega arith)
step_less {text = text} (colon {a = a} k e) = further (length text) a (a + 1) 1 0 (sign_more text a tokens.Colon refl e) (omega arith) (omega arith)
step_less {text = text} (typed_colon {a = a} {c = c} k e h) = let from = first_offset_from _ _ _ c h in further (length text) a (c + 1) 1 0 (sign_more text a tokens.Arrow refl e) (omega (arith, from)) (omega arith)
step_less {text = text} (symbol {a = a} {b = b} e n o) = let m = token_more e in let from = mark_from text b in further (length text) a (mark_end text b) 1 0 m.0 (omega (arith, m.1, from)) (omega arith)
step_less {text = text} (empty {a = a} e s n o) = further (length text) a (a + 6) 1 0 (sign_more text a tokens.Percent refl e.0) (omega arith) (omega arith)
step_less {text = text} (prec {a = a} e o) = further (length text) a (a + 5) 1 0 (sign_more text a tokens.Percent refl e.0) (omega arith) (omega arith)
step_less {text = text} (prec_token {b = b} {c = c} e) = let m = token_more e in further (length text) b c 1 0 m.0 m.1 (omega arith)
step_less {text = text} (action {a = a} {c = c} e n h) = let from = first_offset_from _ _ _ c h in further (length text) a (c + 1) 1 0 (sign_more text a tokens.Brace refl e) (omega (arith, from)) (omega arith)
step_less {text = text} (bar {a = a} e) = further (length text) a (a + 1) 1 0 (sign_more text a tokens.Bar refl e) (omega arith) (omega arith)
step_less {text = text} (semicolon {a = a} e) = further (length text) a (a + 1) 3 0 (sign_more text a tokens.Semicolon refl e) (omega arith) (omega arith)

data Reached (kind : YaccKind) (text : List ℕ) (s : State) : Type 0 where
  ended : {x : SyntaxText} {a : ℕ} → Steps kind text s (At Nothing x a) → Reached kind text s
  failed : {e : YaccGrammarErrorKind} {offset : ℕ} → StopsFrom kind text s e offset → Reached kind text s

after : {kind : YaccKind} {text : List ℕ} {s t : State} → Step kind text s t → Reached kind text t → Reached kind text s
after p (ended r) = ended (then p r)
after p (failed f) = failed (join_stops (then p here) f)

reaches : (n : ℕ) (kind : YaccKind) (text : List ℕ) (s : State) → left text s < n → Reached kind text s
reaches zero kind text s h = absurd (omega arith)
reaches (suc n) kind text s h = go (progress kind text s) (λ t k. reaches n kind text t k)
  where
    go : Progress kind text s → ((t : State) → left text t < n → Reached kind text t) → Reached kind text s
    go (goes {t = t} p) r = let less = step_less p in after p (r t (omega (arith, less, h)))
    go (fails f) r = failed (and_stops here f)
    go (ends {x = x} {a = a} e) r = ended {x = x} {a = a} (subst (λ (t : State). Steps kind text s t) e here)

pub outcome : (kind : YaccKind) (text : List ℕ) (start : ℕ) → Outcome kind text start
outcome kind text start = go (reaches (suc (left text (beginning start))) kind text (beginning start) (omega arith))
  where
    go : Reached kind text (beginning start) → Outcome kind text start
    go (ended {x = x} {a = a} r) = reads x (a, r)
    go (failed {e = e} {offset = offset} f) = faulty e offset f
