-- Symbols of a text: what their names are, where these stand, and the `?` behind them.
use Rattle.std.proofs.Common.{◌≡◌, ℕ, ◌+◌, ◌-◌, ◌^◌, ◌<◌, Bool, true, false, List, Option, Some, None, refl, sym, subst, ◌∙◌, arith}
use Rattle.std.specs.Prelude.{not, ◌&&◌, if◌then◌else◌}
use Rattle.std.specs.Option.{is_none}
use Rattle.cfg_base.specs.SpanModel.{SpanModel}
use Rattle.cfg_base.specs.Text.{is_at}
use Rattle.cfg_read.specs.declared.yacc.YaccKind.{YaccKind}
use Rattle.cfg_read.specs.SyntaxTexts.{WordText, SymbolText, RuleText, SyntaxText}
use Rattle.cfg_read.specs.SyntaxUpdates.{Part, token_text, mark_end, marked, put_precedence}
use Rattle.cfg_read.specs.SyntaxModels.{next, mark_at}
use Rattle.cfg_read.specs.Scanning.{Encloses}
use Rattle.cfg_read.specs.Reading.{EppToken, EppString, PrecToken, More, At, Spaced, IsToken, Step, epp_token, prec_token}

-- a span by its two ends
pub span_is : (s : SpanModel) (a b : ℕ) → s.start ≡ a → s.end ≡ b → s ≡ record { start = a; end = b }
span_is s a b e f = rw (sym e, sym f) refl

next_is : (b : ℕ) → b < 2 ^ 64 - 1 → next b ≡ b + 1
next_is b h = omega (arith, h)

-- a symbol from a to b that is read without a `?` behind it
unmarked : (is_quoted : Bool) (at : SpanModel) → mark_at is_quoted false at ≡ None
unmarked true at = refl
unmarked false at = refl

-- one that is read with it
marks : (is_quoted : Bool) (at : SpanModel) (a b : ℕ) → Encloses is_quoted at a b → b < 2 ^ 64 - 1 → mark_at is_quoted true at ≡ Some (record { start = a; end = b + 1 })
marks true at a b h lt =
    let start : a + 1 ≡ at.start = h.start in
    let end : at.end + 1 ≡ b = h.end in
    let first : at.start - 1 ≡ a = omega (arith, start) in
    let last : next at.end ≡ b = next_is at.end (omega (arith, end, lt)) ∙ end in
    let after : next b ≡ b + 1 = next_is b lt in
    rw (first, last, after) refl
marks false at a b h lt =
    let start : a ≡ at.start = h.start in
    let end : at.end ≡ b = h.end in
    let after : next b ≡ b + 1 = next_is b lt in
    rw (sym start, end, after) refl

-- only symbols were read
pub only_symbols : (ss : List SymbolText) (e : Bool) (p a : Option WordText) (s : Option SpanModel) → (not e && (is_none p && is_none a)) ≡ true
    → ◌≡◌ {A = Part} (record { symbols = ss; is_empty = e; precedence = p; action = a; span = s }) (record { symbols = ss; is_empty = false; precedence = None; action = None; span = s })
only_symbols ss false None None s h = refl
only_symbols ss true p a s h = absurd cc
only_symbols ss false (Some w) a s h = absurd cc
only_symbols ss false None (Some w) s h = absurd cc

-- a token of which the word alone is kept
pub epp_word : {kind : YaccKind} {text : List ℕ} {x : SyntaxText} {a b : ℕ} {w : WordText} → ((t : SymbolText) × (t.word ≡ w) × IsToken text a t b) →
    Step kind text (At EppToken x a) (Spaced (EppString w) x b)
epp_word {kind = kind} {text = text} {x = x} {a = a} {b = b} h = subst (λ (w : WordText). Step kind text (At EppToken x a) (Spaced (EppString w) x b)) h.1 (epp_token h.2)

pub prec_word : {kind : YaccKind} {text : List ℕ} {x : SyntaxText} {a b c : ℕ} {r : RuleText} {p : Part} {w : WordText} → ((t : SymbolText) × (t.word ≡ w) × IsToken text b t c) →
    Step kind text (At (PrecToken r p a) x b) (Spaced (More r (put_precedence p w a c)) x c)
prec_word {kind = kind} {text = text} {x = x} {a = a} {b = b} {c = c} {r = r} {p = p} h = subst (λ (w : WordText). Step kind text (At (PrecToken r p a) x b) (Spaced (More r (put_precedence p w a c)) x c)) h.1 (prec_token h.2)

-- the symbol that is read, with the `?` behind it or without
pub is_marked : (text : List ℕ) (is_quoted is_optional : Bool) (at : SpanModel) (a b : ℕ) → Encloses is_quoted at a b → (is_optional ≡ true → b < 2 ^ 64 - 1) → is_at text b 63 ≡ is_optional
    → record (token_text text is_quoted at) { optional = mark_at is_quoted is_optional at } ≡ marked text a b (token_text text is_quoted at)
is_marked text is_quoted true at a b h lt e = rw (e, marks is_quoted at a b h (lt refl)) refl
is_marked text is_quoted false at a b h lt e = rw (e, unmarked is_quoted at) refl

pub ends_behind : (text : List ℕ) (b : ℕ) (is_optional : Bool) → is_at text b 63 ≡ is_optional → mark_end text b ≡ (if is_optional then b + 1 else b)
ends_behind text b is_optional e = rw e refl
