-- From each state at most one construct goes on, or one error stops reading.
use Rattle.std.proofs.Common.{◌≡◌, ◌≢◌, ℕ, ◌+◌, Bool, true, false, not, ◌&&◌, cond, List, [], ◌∷◌, ◌++◌, length, drop, Option, Some, None, refl, sym, ◌∙◌, subst}
use Rattle.std.specs.Prelude.{slice_range, nat_eq}
use Rattle.std.specs.Option.{is_none}
use Rattle.std.specs.List.{starts_with}
use Rattle.std.proofs.lemmas.Bool.{eqb-true}
use lib.Chars.{codes}
use Rattle.cfg_read.specs.declared.yacc.YaccKind.{YaccKind}
use Rattle.cfg_read.specs.declared.yacc.parser.declaration.Count.{Count}
use Rattle.cfg_read.specs.declared.yacc.parser.declaration.Declaration.{Declaration}
use Rattle.cfg_read.specs.declared.yacc.parser.declaration.LineText.TheVariants as texts
use Rattle.cfg_read.specs.declared.yacc.parser.error.YaccGrammarErrorKind.{YaccGrammarErrorKind}
use Rattle.cfg_read.specs.declared.yacc.parser.error.YaccGrammarErrorKind.TheVariants as faults
use Rattle.cfg_base.specs.declared.text.GapPart.{GapPart}
use Rattle.cfg_base.specs.declared.text.GapPart.TheVariants as gaps
use Rattle.cfg_read.specs.declared.yacc.parser.scan.TokenKind.{TokenKind}
use Rattle.cfg_read.specs.declared.yacc.parser.scan.TokenKind.TheVariants as tokens
use Rattle.cfg_read.specs.declared.yacc.parser.scan.StringKind.{StringKind}
use Rattle.cfg_read.specs.declared.yacc.parser.scan.StringKind.TheVariants as strings
use Rattle.cfg_base.specs.Text.{is_white, run_end, line_end, gap_at}
use Rattle.cfg_read.specs.Words.{token_kind_at, line_gap_at, keyword, keyword_end, number_of, string_at, lone_colon, action_end}
use Rattle.cfg_read.specs.SyntaxTexts.{WordText, SymbolText, RuleText, ParamText, SyntaxText}
use Rattle.cfg_read.specs.SyntaxUpdates.{word, trimmed_word, string_word, Part, no_part, is_open, mark_end, marked, append_symbol, put_empty, put_precedence, put_action, alternative, heading, append_alternative, append_start, append_token, append_list, append_number, append_epp, append_action_type, put_parse_param, put_parse_generics, append_rule, put_programs, rest_of_line, parameter}
use Rattle.cfg_read.specs.Declarations.{is_grmtools, declaration_of}
use Rattle.cfg_read.specs.Reading.{Wanted, Declared, StartName, DeclaredToken, LineItem, NumberWord, EppToken, EppString, Rest, RuleName, RuleColon, More, PrecToken, Nothing, State, Spaced, InLine, At, IsToken, name, quoted, literal_end, has_letters, ends_tokens, ends_line, begins, Step, gap_part, gap_end, line_gap_part, line_gap_end, separator, declared, start_name, declared_token, tokens_end, line_item, list_end, number, epp_token, epp_string, action_type, parse_generics, parse_param, rules_end, programs, rule_name, colon, typed_colon, symbol, empty, prec, prec_token, action, bar, semicolon, Steps, here, then, Reads}
use Rattle.cfg_read.specs.SyntaxErrors.{name_fault, token_fault, declaration_fault, rule_fault, number_at, alternative_fault, Stops, unclosed, line_unclosed, no_declaration, unknown_declaration, no_start_name, no_declared_token, no_line_item, no_epp_token, no_number, no_string, nothing_on_line, no_parameter, no_rule_name, no_colon, no_arrow, no_typed_colon, no_part_stands, symbol_after_empty, empty_after_symbol, late_symbol, late_empty, late_prec, other_word, late_action, open_action, no_prec_token, Faults}

-- what comes after a state
data Next : Type 0 where
  Goes : State → Next
  Fails : YaccGrammarErrorKind → ℕ → Next
  Ends : Next

-- the token that stands there, and where it ends
data Found : Type 0 where
  Token : SymbolText → ℕ → Found
  NoToken : YaccGrammarErrorKind → Found

abbrev found : List ℕ → ℕ → TokenKind → Found
found text a (tokens.Name b) = Token (record { is_quoted = false; word = word text a b; optional = None }) b
found text a (tokens.Quoted b) = Token (record { is_quoted = true; word = word text (a + 1) b; optional = None }) (b + 1)
found text a tokens.OpenQuote = NoToken faults.IllegalString
found text a _ = NoToken faults.IllegalName

abbrev by_token : (SymbolText → ℕ → State) → ℕ → Found → Next
by_token f a (Token t b) = Goes (f t b)
by_token f a (NoToken e) = Fails e a

abbrev gap_next : Wanted → SyntaxText → ℕ → GapPart → Next
gap_next w x a (gaps.Part b) = Goes (Spaced w x b)
gap_next w x a gaps.NoPart = Goes (At w x a)
gap_next w x a gaps.Unclosed = Fails faults.IncompleteComment a

abbrev line_gap_next : Wanted → SyntaxText → ℕ → GapPart → Next
line_gap_next w x a (gaps.Part b) = Goes (InLine w x b)
line_gap_next w x a gaps.NoPart = Goes (At w x a)
line_gap_next w x a gaps.Unclosed = Fails faults.IncompleteComment a

abbrev word_next : SyntaxText → ℕ → ℕ → Option Declaration → Next
word_next x a b None = Fails faults.UnknownDeclaration a
word_next x a b (Some d) = Goes (begins d x b)

abbrev declaration_next : YaccKind → List ℕ → SyntaxText → ℕ → TokenKind → Next
declaration_next kind text x a tokens.Separator = Goes (Spaced RuleName x (a + 2))
declaration_next kind text x a tokens.Percent = word_next x a (keyword_end text a) (declaration_of kind (keyword text a))
declaration_next kind text x a tokens.End = Fails faults.PrematureEnd a
declaration_next kind text x a _ = Fails faults.UnknownDeclaration a

abbrev start_next : List ℕ → SyntaxText → ℕ → TokenKind → Next
start_next text x a (tokens.Name b) = Goes (Spaced Declared (append_start x (word text a b)) b)
start_next text x a _ = Fails faults.IllegalName a

abbrev value_next : Count → SyntaxText → ℕ → ℕ → Option ℕ → Next
value_next c x a b None = Fails faults.IllegalInteger a
value_next c x a b (Some n) = Goes (Spaced Declared (append_number x c (record { value = n; span = record { start = a; end = b } })) b)

abbrev number_next : List ℕ → Count → SyntaxText → ℕ → TokenKind → Next
number_next text c x a (tokens.Digits b) = value_next c x a b (number_of (slice_range text a b))
number_next text c x a _ = Fails faults.IllegalInteger a

abbrev string_next : List ℕ → WordText → SyntaxText → ℕ → StringKind → Next
string_next text t x a (strings.Closed b) = Goes (Spaced Declared (append_epp x t (string_word text a b)) (b + 1))
string_next text t x a (strings.Broken b) = Fails faults.InvalidString b

abbrev rest_next : (WordText → Next) → ℕ → Option WordText → Next
rest_next f b None = Fails faults.ReachedEOL b
rest_next f b (Some w) = f w

abbrev param_next : SyntaxText → ℕ → Option ParamText → Next
param_next x b None = Fails faults.MissingColon b
param_next x b (Some p) = Goes (Spaced Declared (put_parse_param x p) b)

abbrev rule_next : List ℕ → SyntaxText → ℕ → TokenKind → Next
rule_next text x a tokens.End = Goes (At Nothing x a)
rule_next text x a tokens.Separator = Goes (At Nothing (put_programs x (word text (run_end is_white text (a + 2)) (length text))) (length text))
rule_next text x a (tokens.Name b) = Goes (Spaced (RuleColon (word text a b)) x b)
rule_next text x a _ = Fails faults.IllegalName a

abbrev colon_next : WordText → SyntaxText → ℕ → TokenKind → Next
colon_next r x a tokens.Colon = Goes (Spaced (More (heading r None) no_part) x (a + 1))
colon_next r x a _ = Fails faults.MissingColon a

abbrev type_next : List ℕ → WordText → SyntaxText → ℕ → Option ℕ → Next
type_next text r x a None = Fails faults.MissingColon (length text)
type_next text r x a (Some c) = Goes (Spaced (More (heading r (Some (trimmed_word text (a + 2) c))) no_part) x (c + 1))

abbrev arrow_next : List ℕ → WordText → SyntaxText → ℕ → TokenKind → Next
arrow_next text r x a tokens.Arrow = type_next text r x a (lone_colon text (a + 2) (length text))
arrow_next text r x a _ = Fails faults.MissingRightArrow a

abbrev if_nil : List SymbolText → ℕ → Next → Next
if_nil [] a n = n
if_nil (s ∷ ss) a n = Fails faults.NonEmptyProduction a

abbrev symbol_next : List ℕ → RuleText → Part → SyntaxText → ℕ → SymbolText → ℕ → Next
symbol_next text r p x a t b =
    cond p.is_empty (Fails faults.NonEmptyProduction a)
    (cond (is_open p) (Goes (Spaced (More r (append_symbol p (marked text a b t) a (mark_end text b))) x (mark_end text b))) (Fails faults.ProductionNotTerminated a))

abbrev empty_next : RuleText → Part → SyntaxText → ℕ → Next
empty_next r p x a = if_nil p.symbols a (cond (not p.is_empty && is_open p) (Goes (Spaced (More r (put_empty p a (literal_end a "empty"))) x (literal_end a "empty"))) (Fails faults.ProductionNotTerminated a))

abbrev prec_next : RuleText → Part → SyntaxText → ℕ → Next
prec_next r p x a = cond (is_open p) (Goes (Spaced (PrecToken r p a) x (literal_end a "prec"))) (Fails faults.ProductionNotTerminated a)

abbrev percent_next : List ℕ → RuleText → Part → SyntaxText → ℕ → Next
percent_next text r p x a = cond (has_letters text a "empty") (empty_next r p x a) (cond (has_letters text a "prec") (prec_next r p x a) (Fails faults.ProductionNotTerminated a))

abbrev action_next : List ℕ → RuleText → Part → SyntaxText → ℕ → Option ℕ → Next
action_next text r p x a None = Fails faults.IncompleteAction a
action_next text r p x a (Some c) = Goes (Spaced (More r (put_action p (trimmed_word text (a + 1) c))) x (c + 1))

abbrev more_next : List ℕ → RuleText → Part → SyntaxText → ℕ → TokenKind → Next
more_next text r p x a (tokens.Name b) = symbol_next text r p x a (record { is_quoted = false; word = word text a b; optional = None }) b
more_next text r p x a (tokens.Quoted b) = symbol_next text r p x a (record { is_quoted = true; word = word text (a + 1) b; optional = None }) (b + 1)
more_next text r p x a tokens.Percent = percent_next text r p x a
more_next text r p x a tokens.Brace = cond (is_none p.action) (action_next text r p x a (action_end text (a + 1))) (Fails faults.ProductionNotTerminated a)
more_next text r p x a tokens.Bar = Goes (Spaced (More (append_alternative r (alternative p a)) no_part) x (a + 1))
more_next text r p x a tokens.Semicolon = Goes (Spaced RuleName (append_rule x (append_alternative r (alternative p a))) (a + 1))
more_next text r p x a tokens.End = Fails faults.IncompleteRule a
more_next text r p x a tokens.OpenQuote = Fails faults.IllegalString a
more_next text r p x a _ = Fails faults.ProductionNotTerminated a

abbrev prec_token_next : RuleText → Part → SyntaxText → ℕ → ℕ → Found → Next
prec_token_next r p x a b (Token t c) = Goes (Spaced (More r (put_precedence p t.word a c)) x c)
prec_token_next r p x a b (NoToken e) = Fails faults.PrecNotFollowedByToken b

next : YaccKind → List ℕ → State → Next
next kind text (Spaced w x a) = gap_next w x a (gap_at text a)
next kind text (InLine w x a) = line_gap_next w x a (line_gap_at text a)
next kind text (At Declared x a) = declaration_next kind text x a (token_kind_at text a)
next kind text (At StartName x a) = start_next text x a (token_kind_at text a)
next kind text (At DeclaredToken x a) = cond (ends_tokens (token_kind_at text a)) (Goes (At Declared x a)) (by_token (λ t b. Spaced DeclaredToken (append_token x t) b) a (found text a (token_kind_at text a)))
next kind text (At (LineItem l ts) x a) = cond (ends_line (token_kind_at text a)) (Goes (Spaced Declared (append_list x l ts) a)) (by_token (λ t b. InLine (LineItem l (ts ++ t ∷ [])) x b) a (found text a (token_kind_at text a)))
next kind text (At (NumberWord c) x a) = number_next text c x a (token_kind_at text a)
next kind text (At EppToken x a) = by_token (λ t b. Spaced (EppString t.word) x b) a (found text a (token_kind_at text a))
next kind text (At (EppString t) x a) = string_next text t x a (string_at text a)
next kind text (At (Rest texts.ActionType) x a) = rest_next (λ w. Goes (Spaced Declared (append_action_type x w) (line_end text a))) (line_end text a) (rest_of_line text a)
next kind text (At (Rest texts.ParseGenerics) x a) = rest_next (λ w. Goes (Spaced Declared (put_parse_generics x w) (line_end text a))) (line_end text a) (rest_of_line text a)
next kind text (At (Rest texts.ParseParam) x a) = rest_next (λ w. param_next x (line_end text a) (parameter text a)) (line_end text a) (rest_of_line text a)
next kind text (At RuleName x a) = rule_next text x a (token_kind_at text a)
next kind text (At (RuleColon r) x a) = cond (is_grmtools kind) (arrow_next text r x a (token_kind_at text a)) (colon_next r x a (token_kind_at text a))
next kind text (At (More r p) x a) = more_next text r p x a (token_kind_at text a)
next kind text (At (PrecToken r p a) x b) = prec_token_next r p x a b (found text b (token_kind_at text b))
next kind text (At Nothing x a) = Ends

no_ends_tokens : {text : List ℕ} {a b : ℕ} {t : SymbolText} → IsToken text a t b → ends_tokens (token_kind_at text a) ≡ false
no_ends_tokens (name e) = rw e refl
no_ends_tokens (quoted e) = rw e refl

no_ends_line : {text : List ℕ} {a b : ℕ} {t : SymbolText} → IsToken text a t b → ends_line (token_kind_at text a) ≡ false
no_ends_line (name e) = rw e refl
no_ends_line (quoted e) = rw e refl

found_token : {text : List ℕ} {a b : ℕ} {t : SymbolText} → IsToken text a t b → found text a (token_kind_at text a) ≡ Token t b
found_token (name e) = rw e refl
found_token (quoted e) = rw e refl

more_token : {text : List ℕ} {a b : ℕ} {t : SymbolText} (r : RuleText) (p : Part) (x : SyntaxText) → IsToken text a t b → more_next text r p x a (token_kind_at text a) ≡ symbol_next text r p x a t b
more_token r p x (name e) = rw e refl
more_token r p x (quoted e) = rw e refl

-- `prec` doesn't begin as `empty` does
pub other_letters : (text : List ℕ) (a : ℕ) → has_letters text a "prec" ≡ true → has_letters text a "empty" ≡ false
unfolding has_letters
other_letters text a h = go (drop (a + 1) text) h
  where
    go : (bs : List ℕ) → starts_with nat_eq bs (codes "prec") ≡ true → starts_with nat_eq bs (codes "empty") ≡ false
    go [] h = absurd cc
    go (b ∷ bs) h = go₂ (nat_eq 112 b) refl
      where
        go₂ : (t : Bool) → nat_eq 112 b ≡ t → starts_with nat_eq (b ∷ bs) (codes "empty") ≡ false
        go₂ true e = let is : 112 ≡ b = eqb-true 112 b e in rw (← is) refl
        go₂ false e = absurd (let z = rw e at h in cc)

follows : {kind : YaccKind} {text : List ℕ} {s t : State} → Step kind text s t → next kind text s ≡ Goes t
unfolding next
follows (gap_part e) = rw e refl
follows (gap_end e) = rw e refl
follows (line_gap_part e) = rw e refl
follows (line_gap_end e) = rw e refl
follows (separator e) = rw e refl
follows (declared e h) = rw (e, h) refl
follows (start_name e) = rw e refl
follows (declared_token e) = rw (no_ends_tokens e, found_token e) refl
follows (tokens_end e) = rw e refl
follows (line_item e) = rw (no_ends_line e, found_token e) refl
follows (list_end e) = rw e refl
follows (number e h) = rw (e, h) refl
follows (epp_token e) = rw (found_token e) refl
follows (epp_string e) = rw e refl
follows (action_type e) = rw e refl
follows (parse_generics e) = rw e refl
follows (parse_param e h) = rw (e, h) refl
follows (rules_end e) = rw e refl
follows (programs e) = rw e refl
follows (rule_name e) = rw e refl
follows (colon k e) = rw (k, e) refl
follows (typed_colon k e h) = rw (k, e, h) refl
follows (symbol {x = x} {r = r} {p = p} e n o) = more_token r p x e ∙ rw (n, o) refl
follows (empty e s n o) = rw (e.0, e.1, s, n, o) refl
follows {text = text} (prec {a = a} e o) = rw (e.0, other_letters text a e.1, e.1, o) refl
follows (prec_token e) = rw (found_token e) refl
follows (action e n h) = rw (e, n, h) refl
follows (bar e) = rw e refl
follows (semicolon e) = rw e refl

no_declaration_next : (kind : YaccKind) (text : List ℕ) (x : SyntaxText) (a : ℕ) (m : TokenKind) (e : YaccGrammarErrorKind) → declaration_fault m ≡ Some e → declaration_next kind text x a m ≡ Fails e a
no_declaration_next kind text x a tokens.Separator e h = absurd cc
no_declaration_next kind text x a tokens.Percent e h = absurd cc
no_declaration_next kind text x a tokens.End e h = cc
no_declaration_next kind text x a _ e h = cc

no_start_next : (text : List ℕ) (x : SyntaxText) (a : ℕ) (m : TokenKind) (e : YaccGrammarErrorKind) → name_fault m ≡ Some e → start_next text x a m ≡ Fails e a
no_start_next text x a (tokens.Name b) e h = absurd cc
no_start_next text x a _ e h = cc

no_found : (text : List ℕ) (a : ℕ) (m : TokenKind) (e : YaccGrammarErrorKind) → token_fault m ≡ Some e → found text a m ≡ NoToken e
no_found text a (tokens.Name b) e h = absurd cc
no_found text a (tokens.Quoted b) e h = absurd cc
no_found text a tokens.OpenQuote e h = cc
no_found text a _ e h = cc

no_number_next : (text : List ℕ) (c : Count) (x : SyntaxText) (a : ℕ) (m : TokenKind) → number_at text a m ≡ None → number_next text c x a m ≡ Fails faults.IllegalInteger a
no_number_next text c x a (tokens.Digits b) h = rw h refl
no_number_next text c x a _ h = refl

no_rule_next : (text : List ℕ) (x : SyntaxText) (a : ℕ) (m : TokenKind) (e : YaccGrammarErrorKind) → rule_fault m ≡ Some e → rule_next text x a m ≡ Fails e a
no_rule_next text x a (tokens.Name b) e h = absurd cc
no_rule_next text x a tokens.End e h = absurd cc
no_rule_next text x a tokens.Separator e h = absurd cc
no_rule_next text x a _ e h = cc

no_colon_next : (r : WordText) (x : SyntaxText) (a : ℕ) (m : TokenKind) → m ≢ tokens.Colon → colon_next r x a m ≡ Fails faults.MissingColon a
no_colon_next r x a tokens.Colon other = absurd (other refl)
no_colon_next r x a _ other = refl

no_arrow_next : (text : List ℕ) (r : WordText) (x : SyntaxText) (a : ℕ) (m : TokenKind) → m ≢ tokens.Arrow → arrow_next text r x a m ≡ Fails faults.MissingRightArrow a
no_arrow_next text r x a tokens.Arrow other = absurd (other refl)
no_arrow_next text r x a _ other = refl

no_more_next : (text : List ℕ) (r : RuleText) (p : Part) (x : SyntaxText) (a : ℕ) (m : TokenKind) (e : YaccGrammarErrorKind) → alternative_fault m ≡ Some e → more_next text r p x a m ≡ Fails e a
no_more_next text r p x a (tokens.Name b) e h = absurd cc
no_more_next text r p x a (tokens.Quoted b) e h = absurd cc
no_more_next text r p x a tokens.Percent e h = absurd cc
no_more_next text r p x a tokens.Brace e h = absurd cc
no_more_next text r p x a tokens.Bar e h = absurd cc
no_more_next text r p x a tokens.Semicolon e h = absurd cc
no_more_next text r p x a tokens.End e h = cc
no_more_next text r p x a tokens.OpenQuote e h = cc
no_more_next text r p x a _ e h = cc

not_nil : (ss : List SymbolText) (a : ℕ) (n : Next) → ss ≢ [] → if_nil ss a n ≡ Fails faults.NonEmptyProduction a
not_nil [] a n other = absurd (other refl)
not_nil (s ∷ ss) a n other = refl

stops : {kind : YaccKind} {text : List ℕ} {s : State} {e : YaccGrammarErrorKind} {offset : ℕ} → Stops kind text s e offset → next kind text s ≡ Fails e offset
unfolding next
stops (unclosed e) = rw e refl
stops (line_unclosed e) = rw e refl
stops (no_declaration e) = no_declaration_next _ _ _ _ _ _ e
stops (unknown_declaration e h) = rw (e, h) refl
stops (no_start_name e) = no_start_next _ _ _ _ _ e
stops (no_declared_token f e) = rw (f, no_found _ _ _ _ e) refl
stops (no_line_item f e) = rw (f, no_found _ _ _ _ e) refl
stops (no_epp_token e) = rw (no_found _ _ _ _ e) refl
stops {text = text} (no_number {x = x} {a = a} {c = c} e) = no_number_next text c x a (token_kind_at text a) e
stops (no_string e) = rw e refl
stops (nothing_on_line {r = texts.ActionType} e) = rw e refl
stops (nothing_on_line {r = texts.ParseGenerics} e) = rw e refl
stops (nothing_on_line {r = texts.ParseParam} e) = rw e refl
stops (no_parameter e h) = rw (e, h) refl
stops (no_rule_name e) = no_rule_next _ _ _ _ _ e
stops {text = text} (no_colon {x = x} {a = a} {r = r} k other) = rw k (no_colon_next r x a (token_kind_at text a) other)
stops {text = text} (no_arrow {x = x} {a = a} {r = r} k other) = rw k (no_arrow_next text r x a (token_kind_at text a) other)
stops (no_typed_colon k e h) = rw (k, e, h) refl
stops (no_part_stands e) = no_more_next _ _ _ _ _ _ _ e
stops (symbol_after_empty {x = x} {r = r} {p = p} e n) = more_token r p x e ∙ rw n refl
stops (empty_after_symbol {a = a} {p = p} e n) = rw (e.0, e.1) (not_nil p.symbols a _ n)
stops (late_symbol {x = x} {r = r} {p = p} e n o) = more_token r p x e ∙ rw (n, o) refl
stops (late_empty e s n) = rw (e.0, e.1, s, n) refl
stops {text = text} (late_prec {a = a} e o) = rw (e.0, other_letters text a e.1, e.1, o) refl
stops (other_word e n k) = rw (e, n, k) refl
stops (late_action e n) = rw (e, n) refl
stops (open_action e n h) = rw (e, n, h) refl
stops (no_prec_token e) = rw (no_found _ _ _ _ e) refl

pub same_step : {kind : YaccKind} {text : List ℕ} {s t u : State} → Step kind text s t → Step kind text s u → t ≡ u
same_step p q = let e = sym (follows p) ∙ follows q in cc

pub no_both : {kind : YaccKind} {text : List ℕ} {s t : State} {e : YaccGrammarErrorKind} {offset : ℕ} → Step kind text s t → Stops kind text s e offset → ⊥
no_both p q = let h = sym (follows p) ∙ stops q in absurd cc

same_stop : {kind : YaccKind} {text : List ℕ} {s : State} {d e : YaccGrammarErrorKind} {p q : ℕ} → Stops kind text s d p → Stops kind text s e q → (d ≡ e) × (p ≡ q)
same_stop f g = let h = sym (stops f) ∙ stops g in (cc, cc)

-- where nothing goes on
abbrev Final : YaccKind → List ℕ → State → Type 0
Final kind text s = (t : State) → Step kind text s t → ⊥

moved : {kind : YaccKind} {text : List ℕ} {s t u : State} → s ≡ t → Steps kind text s u → Steps kind text t u
moved {kind = kind} {text = text} {u = u} e k = subst (λ (v : State). Steps kind text v u) e k

-- all ways to read on end at one offset
one_end : {kind : YaccKind} {text : List ℕ} {s t u : State} → Final kind text t → Final kind text u → Steps kind text s t → Steps kind text s u → t ≡ u
one_end f g here here = refl
one_end f g here (then p r) = absurd (f _ p)
one_end f g (then p r) here = absurd (g _ p)
one_end f g (then p r) (then q k) = one_end f g r (moved (same_step q p) k)

stopped : {kind : YaccKind} {text : List ℕ} {s : State} {e : YaccGrammarErrorKind} {offset : ℕ} → Stops kind text s e offset → Final kind text s
stopped f t p = no_both p f

done : (kind : YaccKind) (text : List ℕ) (x : SyntaxText) (a : ℕ) → Final kind text (At Nothing x a)
done kind text x a t p = elim p [ ]

pub one_syntax : (kind : YaccKind) (text : List ℕ) (start : ℕ) (x y : SyntaxText) → Reads kind text start x → Reads kind text start y → x ≡ y
one_syntax kind text start x y p q = let e = one_end (done kind text x p.0) (done kind text y q.0) p.1 q.1 in cc

not_stopped : {kind : YaccKind} {text : List ℕ} {x : SyntaxText} {a : ℕ} {e : YaccGrammarErrorKind} {offset : ℕ} → Stops kind text (At Nothing x a) e offset → ⊥
not_stopped f = elim f [ ]

pub not_both : (kind : YaccKind) (text : List ℕ) (start : ℕ) (x : SyntaxText) (e : YaccGrammarErrorKind) (offset : ℕ) → Reads kind text start x → Faults kind text start e offset → ⊥
not_both kind text start x e offset p f =
    let h = one_end (stopped f.stops) (done kind text x p.0) f.steps p.1 in
    not_stopped (subst (λ (s : State). Stops kind text s e offset) h f.stops)

pub one_fault : (kind : YaccKind) (text : List ℕ) (start : ℕ) (d e : YaccGrammarErrorKind) (p q : ℕ) → Faults kind text start d p → Faults kind text start e q → (d ≡ e) × (p ≡ q)
one_fault kind text start d e p q f g =
    let h = one_end (stopped f.stops) (stopped g.stops) f.steps g.steps in
    same_stop (subst (λ (s : State). Stops kind text s d p) h f.stops) g.stops
