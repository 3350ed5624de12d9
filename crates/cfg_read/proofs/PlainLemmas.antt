-- What reads without optional symbols reads as the same with them.
use Rattle.std.proofs.Common.{◌≡◌, ℕ, Bool, true, false, List, [], ◌∷◌, ◌++◌, flat_map, fold, Option, None, Some, All, refl, sym, ap, ◌∙◌, subst, true≢false}
use Rattle.std.specs.Prelude.{slice_get, nat_eq}
use Rattle.std.proofs.lemmas.Bool.{eqb-true}
use Rattle.std.proofs.lemmas.List.Elements.{All-append, All-head, All-nil, All-push, All-tail}
use Rattle.cfg_base.specs.declared.text.GapPart.TheVariants as gaps
use Rattle.cfg_base.specs.Text.{passes, is_at, gap_at}
use Rattle.cfg_read.specs.declared.yacc.YaccKind.{YaccKind}
use Rattle.cfg_read.specs.declared.yacc.parser.scan.TokenKind.TheVariants as tokens
use Rattle.cfg_read.specs.declared.yacc.parser.declaration.Count.{Count}
use Rattle.cfg_read.specs.declared.yacc.parser.declaration.Count.TheVariants as counts
use Rattle.cfg_read.specs.declared.yacc.parser.declaration.Declaration.{Declaration}
use Rattle.cfg_read.specs.declared.yacc.parser.declaration.Declaration.TheVariants as declarations
use Rattle.cfg_read.specs.declared.yacc.parser.declaration.LineList.{LineList}
use Rattle.cfg_read.specs.declared.yacc.parser.declaration.LineList.TheVariants as lists
use Rattle.cfg_read.specs.Words.{token_kind_at}
use Rattle.cfg_read.specs.SyntaxTexts.{SymbolText, AlternativeText, RuleText, NumberText, SyntaxText}
use Rattle.cfg_read.specs.SyntaxUpdates.{Part, append_symbol, append_list, append_number, mark_end, marked}
use Rattle.cfg_read.specs.Names.{symbols_in, symbols_used, is_among, declared_tokens}
use Rattle.cfg_read.specs.FreshRules.{fresh_at, optional_in, with_fresh, fresh_of}
use Rattle.cfg_read.specs.Scanning.{begins_token}
use Rattle.cfg_read.specs.Reading.{Wanted, More, PrecToken, Nothing, State, Spaced, InLine, At, IsToken, name, quoted, begins, Step, gap_part, gap_end, line_gap_part, line_gap_end, separator, declared, start_name, declared_token, tokens_end, line_item, list_end, number, epp_token, epp_string, action_type, parse_generics, parse_param, rules_end, programs, rule_name, colon, typed_colon, symbol, empty, prec, prec_token, action, bar, semicolon, Steps, here, then, Reads}
use Rattle.cfg_read.specs.SyntaxErrors.{alternative_fault, no_part_stands}
use Rattle.cfg_read.specs.PlainReading.{is_at_symbol, PlainStep, plain_symbol, other, PlainSteps, ended, before, ReadsPlain}
use Rattle.cfg_read.proofs.Next.{same_step, no_both}

-- A `?` is no gap, and no construct of an alternative begins with it.
mark_there : (text : List ℕ) (b : ℕ) → is_at text b 63 ≡ true → slice_get text b ≡ Some 63
mark_there text b h = go (slice_get text b) h
  where
    go : (o : Option ℕ) → passes (λ c. nat_eq c 63) o ≡ true → o ≡ Some 63
    go None k = absurd cc
    go (Some c) k = ap Some (eqb-true c 63 k)

mark_no_gap : (text : List ℕ) (b : ℕ) → is_at text b 63 ≡ true → gap_at text b ≡ gaps.NoPart
unfolding gap_at
mark_no_gap text b h = rw (mark_there text b h) refl

mark_other : (text : List ℕ) (b : ℕ) → is_at text b 63 ≡ true → token_kind_at text b ≡ tokens.Other
unfolding token_kind_at
mark_other text b h = rw (mark_there text b h) refl

no_token : {text : List ℕ} {a b : ℕ} {t : SymbolText} → token_kind_at text a ≡ tokens.Other → IsToken text a t b → ⊥
no_token o (name e) = absurd (let z = sym o ∙ e in cc)
no_token o (quoted e) = absurd (let z = sym o ∙ e in cc)

stuck_at : {kind : YaccKind} {text : List ℕ} {r : RuleText} {p : Part} {x y : SyntaxText} {b c : ℕ} → token_kind_at text b ≡ tokens.Other → PlainSteps kind text (At (More r p) x b) (At Nothing y c) → ⊥
stuck_at o (before (plain_symbol e n k) rest) = no_token o e
stuck_at o (before (other n s) rest) = no_both s (no_part_stands (ap alternative_fault o))

stuck : {kind : YaccKind} {text : List ℕ} {r : RuleText} {p : Part} {x y : SyntaxText} {b c : ℕ} → gap_at text b ≡ gaps.NoPart → token_kind_at text b ≡ tokens.Other
    → PlainSteps kind text (Spaced (More r p) x b) (At Nothing y c) → ⊥
stuck {kind = kind} {text = text} {y = y} {c = c} g o (before (other n s) rest) = stuck_at o (subst (λ (t : State). PlainSteps kind text t (At Nothing y c)) (same_step s (gap_end g)) rest)

-- a symbol without a `?` behind it
unmarked : {text : List ℕ} {a b : ℕ} {t : SymbolText} → IsToken text a t b → is_at text b 63 ≡ false → marked text a b t ≡ t
unmarked (name e) h = rw h refl
unmarked (quoted e) h = rw h refl

ends_there : (text : List ℕ) (b : ℕ) → is_at text b 63 ≡ false → mark_end text b ≡ b
ends_there text b h = rw h refl

reads_on : {kind : YaccKind} {text : List ℕ} {s : State} {y : SyntaxText} {c : ℕ} → PlainSteps kind text s (At Nothing y c) → Steps kind text s (At Nothing y c)
reads_on ended = here
reads_on (before (other n s) rest) = then s (reads_on rest)
reads_on {kind = kind} {text = text} {y = y} {c = c} (before (plain_symbol {x = x} {a = a} {b = b} {r = r} {p = p} {t = t} e n o) rest) = go (is_at text b 63) refl (reads_on rest)
  where
    go : (m : Bool) → is_at text b 63 ≡ m → Steps kind text (Spaced (More r (append_symbol p t a b)) x b) (At Nothing y c) → Steps kind text (At (More r p) x a) (At Nothing y c)
    go true h more = absurd (stuck (mark_no_gap text b h) (mark_other text b h) rest)
    go false h more =
        then (subst (λ (u : SymbolText). Step kind text (At (More r p) x a) (Spaced (More r (append_symbol p u a b)) x b)) (unmarked e h)
        (subst (λ n. Step kind text (At (More r p) x a) (Spaced (More r (append_symbol p (marked text a b t) a n)) x n)) (ends_there text b h) (symbol e n o))) more

pub plain_reads : (kind : YaccKind) (text : List ℕ) (start : ℕ) (x : SyntaxText) → ReadsPlain kind text start x → Reads kind text start x
plain_reads kind text start x r = (r.0, reads_on r.1)

-- No symbol of it is optional: so it is of what is read so far, and of the alternative that is being read.
abbrev IsPlain : SymbolText → Type 0
IsPlain s = s.optional ≡ None

abbrev PlainRule : RuleText → Type 0
PlainRule r = All (λ (a : AlternativeText). All IsPlain a.symbols) r.alternatives

abbrev PlainRules : SyntaxText → Type 0
PlainRules x = All PlainRule x.rules

abbrev WantsPlain : Wanted → Type 0
WantsPlain (More r p) = PlainRule r × All IsPlain p.symbols
WantsPlain (PrecToken r p a) = PlainRule r × All IsPlain p.symbols
WantsPlain _ = Unit {0}

abbrev HasPlain : State → Type 0
HasPlain (Spaced w x a) = WantsPlain w × PlainRules x
HasPlain (InLine w x a) = WantsPlain w × PlainRules x
HasPlain (At w x a) = WantsPlain w × PlainRules x

plain_begun : (d : Declaration) (x : SyntaxText) (b : ℕ) → PlainRules x → HasPlain (begins d x b)
plain_begun declarations.Token x b h = (tt, h)
plain_begun declarations.Start x b h = (tt, h)
plain_begun declarations.Epp x b h = (tt, h)
plain_begun (declarations.Items l) x b h = (tt, h)
plain_begun (declarations.Number c) x b h = (tt, h)
plain_begun (declarations.Rest r) x b h = (tt, h)

plain_line : (l : LineList) (x : SyntaxText) (ts : List SymbolText) → PlainRules x → PlainRules (append_list x l ts)
plain_line (lists.Level k) x ts h = h
plain_line lists.AvoidInsert x ts h = h
plain_line lists.ImplicitTokens x ts h = h
plain_line lists.ExpectUnused x ts h = h

plain_count : (c : Count) (x : SyntaxText) (n : NumberText) → PlainRules x → PlainRules (append_number x c n)
plain_count counts.Expect x n h = h
plain_count counts.ExpectRR x n h = h

token_begins : {text : List ℕ} {a b : ℕ} {t : SymbolText} → IsToken text a t b → begins_token (token_kind_at text a) ≡ true
token_begins (name e) = ap begins_token e
token_begins (quoted e) = ap begins_token e

token_plain : {text : List ℕ} {a b : ℕ} {t : SymbolText} → IsToken text a t b → IsPlain t
token_plain (name e) = refl
token_plain (quoted e) = refl

keeps_plain : {kind : YaccKind} {text : List ℕ} {s t : State} → is_at_symbol text s ≡ false → Step kind text s t → HasPlain s → HasPlain t
keeps_plain n (gap_part e) h = h
keeps_plain n (gap_end e) h = h
keeps_plain n (line_gap_part e) h = h
keeps_plain n (line_gap_end e) h = h
keeps_plain n (separator e) h = h
keeps_plain n (declared {x = x} {d = d} e f) h = plain_begun d x _ h.1
keeps_plain n (start_name e) h = h
keeps_plain n (declared_token e) h = h
keeps_plain n (tokens_end e) h = h
keeps_plain n (line_item e) h = h
keeps_plain n (list_end {x = x} {l = l} {ts = ts} e) h = (tt, plain_line l x ts h.1)
keeps_plain n (number {x = x} {c = c} e f) h = (tt, plain_count c x _ h.1)
keeps_plain n (epp_token e) h = h
keeps_plain n (epp_string e) h = h
keeps_plain n (action_type e) h = h
keeps_plain n (parse_generics e) h = h
keeps_plain n (parse_param e f) h = h
keeps_plain n (rules_end e) h = h
keeps_plain n (programs e) h = h
keeps_plain n (rule_name e) h = h
keeps_plain n (colon k e) h = ((All-nil (λ (a : AlternativeText). All IsPlain a.symbols), All-nil IsPlain), h.1)
keeps_plain n (typed_colon k e f) h = ((All-nil (λ (a : AlternativeText). All IsPlain a.symbols), All-nil IsPlain), h.1)
keeps_plain n (symbol e f g) h = absurd (true≢false (sym (token_begins e) ∙ n))
keeps_plain n (empty e f g k) h = h
keeps_plain n (prec e f) h = h
keeps_plain n (prec_token e) h = h
keeps_plain n (action e f g) h = h
keeps_plain n (bar {r = r} e) h = ((All-push (λ (a : AlternativeText). All IsPlain a.symbols) r.alternatives _ h.0.0 h.0.1, All-nil IsPlain), h.1)
keeps_plain n (semicolon {x = x} {r = r} e) h = (tt, All-push PlainRule x.rules _ h.1 (All-push (λ (a : AlternativeText). All IsPlain a.symbols) r.alternatives _ h.0.0 h.0.1))

step_plain : {kind : YaccKind} {text : List ℕ} {s t : State} → PlainStep kind text s t → HasPlain s → HasPlain t
step_plain (other n e) h = keeps_plain n e h
step_plain (plain_symbol {p = p} {t = t} e n o) h = ((h.0.0, All-push IsPlain p.symbols t h.0.1 (token_plain e)), h.1)

all_plain : {kind : YaccKind} {text : List ℕ} {s t : State} → PlainSteps kind text s t → HasPlain s → HasPlain t
all_plain ended h = h
all_plain (before e rest) h = all_plain rest (step_plain e h)

flat_all : {X Y : Type 0} (P : Y → Type 0) (g : X → List Y) (xs : List X) → All (λ x. All P (g x)) xs → All P (flat_map g xs)
flat_all P g [] h = All-nil P
flat_all P g (x ∷ xs) h = All-append P (g x) (flat_map g xs) (All-head (λ y. All P (g y)) x xs h) (flat_all P g xs (All-tail (λ y. All P (g y)) x xs h))

used_plain : (rs : List RuleText) → All PlainRule rs → All IsPlain (flat_map symbols_in rs)
used_plain [] h = All-nil IsPlain
used_plain (r ∷ rs) h =
    All-append IsPlain (symbols_in r) (flat_map symbols_in rs) (flat_all IsPlain (λ (a : AlternativeText). a.symbols) r.alternatives (All-head PlainRule r rs h)) (used_plain rs (All-tail PlainRule r rs h))

none_optional : (declares : List ℕ → Bool) (ss : List SymbolText) → All IsPlain ss → optional_in declares ss ≡ []
none_optional declares [] h = refl
none_optional declares (s ∷ ss) h =
    ap (λ o. fresh_at declares s o ++ optional_in declares ss) (All-head IsPlain s ss h) ∙ none_optional declares ss (All-tail IsPlain s ss h)

pub plain_fresh : (kind : YaccKind) (text : List ℕ) (start : ℕ) (x : SyntaxText) → ReadsPlain kind text start x → fresh_of x ≡ []
plain_fresh kind text start x r =
    ap (fold with_fresh []) (none_optional (is_among (declared_tokens x)) (symbols_used x) (used_plain x.rules (all_plain r.1 (tt, All-nil PlainRule)).1))
