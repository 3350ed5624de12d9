-- Headings that are read have names of the file grammar, and so have the rules of trees that aren't fresh.
use Rattle.std.proofs.Common.{◌≡◌, ℕ, suc, ◌+◌, ◌-◌, Bool, true, false, ◌&&◌, ◌||◌, cond, List, [], ◌∷◌, ◌++◌, map, take, drop, get_or, Option, Some, None, All, refl, sym, ap, ◌∙◌, subst, arith}
use Rattle.std.specs.Prelude.{slice_get, slice_range, unwrap_or}
use Rattle.std.specs.List.{prefix_len, list_all}
use Rattle.std.proofs.lemmas.List.{drop_more}
use Rattle.std.proofs.lemmas.List.Elements.{All-append, All-map, All-nil, All-push, All-weaker}
use Rattle.std.proofs.lemmas.Option.{slice_get_within, unwrap_or-slice_get}
use Rattle.cfg_read.specs.declared.yacc.YaccKind.{YaccKind}
use Rattle.cfg_read.specs.declared.yacc.parser.declaration.Count.{Count}
use Rattle.cfg_read.specs.declared.yacc.parser.declaration.Count.TheVariants as counts
use Rattle.cfg_read.specs.declared.yacc.parser.declaration.Declaration.{Declaration}
use Rattle.cfg_read.specs.declared.yacc.parser.declaration.Declaration.TheVariants as declarations
use Rattle.cfg_read.specs.declared.yacc.parser.declaration.LineList.{LineList}
use Rattle.cfg_read.specs.declared.yacc.parser.declaration.LineList.TheVariants as lists
use Rattle.cfg_read.specs.declared.yacc.parser.scan.TokenKind.{TokenKind}
use Rattle.cfg_read.specs.declared.yacc.parser.scan.TokenKind.TheVariants as tokens
use Rattle.cfg_base.specs.Text.{is_digit, run_end}
use Rattle.cfg_read.specs.Bytes.{is_name_start, is_name_byte, is_quote, is_quoted_by}
use Rattle.cfg_read.specs.Words.{token_kind_at, token_kind_of, sign_kind}
use Rattle.cfg_read.specs.SyntaxTexts.{WordText, SymbolText, RuleText, NumberText, SyntaxText}
use Rattle.cfg_read.specs.SyntaxUpdates.{append_list, append_number}
use Rattle.cfg_read.specs.Names.{is_among, declared_tokens, symbols_used, headings}
use Rattle.cfg_read.specs.FreshRules.{fresh_words, rule_words, is_fresh_name}
use Rattle.cfg_read.specs.Reading.{Wanted, RuleColon, More, PrecToken, State, Spaced, InLine, At, begins, Step, gap_part, gap_end, line_gap_part, line_gap_end, separator, declared, start_name, declared_token, tokens_end, line_item, list_end, number, epp_token, epp_string, action_type, parse_generics, parse_param, rules_end, programs, rule_name, colon, typed_colon, symbol, empty, prec, prec_token, action, bar, semicolon, Steps, here, then, Reads}
use Rattle.cfg_read.specs.Asts.{RuleAst, rule_ast, ast_of}
use Rattle.cfg_read.specs.WellFormedAst.{is_name_text, is_rule_name, NamesAreWords}
use Rattle.cfg_read.specs.ValidityInfo.{HeadingsAreWords}
use Rattle.cfg_read.proofs.WellFormedNames.{or_true, All-distinct}
use Rattle.cfg_read.proofs.FreshLemmas.{fresh_named}

read_at : (text : List ℕ) (a b : ℕ) → slice_get text a ≡ Some b → get_or text a 0 ≡ b
read_at text a b h = sym (unwrap_or-slice_get text a 0) ∙ ap (λ o. unwrap_or o 0) h

-- All of a longest run passes.
run_passes : (p : ℕ → Bool) (xs : List ℕ) → list_all p (take (prefix_len p xs) xs) ≡ true
run_passes p [] = refl
run_passes p (x ∷ xs) = by (p x) refl (run_passes p xs)
  where
    one_more : 1 + prefix_len p xs ≡ suc (prefix_len p xs)
    one_more = omega arith

    by : (b : Bool) → p x ≡ b → list_all p (take (prefix_len p xs) xs) ≡ true → list_all p (take (cond b (1 + prefix_len p xs) 0) (x ∷ xs)) ≡ true
    by true e rest = rw one_more (ap (λ b. b && list_all p (take (prefix_len p xs) xs)) e ∙ rest)
    by false e rest = refl

-- the word that begins with such a byte
name_from : (b : ℕ) (bs : List ℕ) → is_name_start b ≡ true → is_name_text (take (prefix_len is_name_byte (b ∷ bs)) (b ∷ bs)) ≡ true
name_from b bs h =
    let passes : is_name_byte b ≡ true = rw h refl in
    let one_more : 1 + prefix_len is_name_byte bs ≡ suc (prefix_len is_name_byte bs) = omega arith in
    ap (λ c. is_name_text (take (cond c (1 + prefix_len is_name_byte bs) 0) (b ∷ bs))) passes
    ∙ ap (λ n. is_name_text (take n (b ∷ bs))) one_more
    ∙ (ap (λ c. c && list_all is_name_byte (take (prefix_len is_name_byte bs) bs)) h ∙ run_passes is_name_byte bs)

name_at : (text : List ℕ) (a b : ℕ) → slice_get text a ≡ Some b → is_name_start b ≡ true → is_name_text (slice_range text a (run_end is_name_byte text a)) ≡ true
unfolding run_end
name_at text a b e h =
    let from : drop a text ≡ b ∷ drop (a + 1) text = drop_more text a 0 (slice_get_within text a b e) ∙ ap (λ c. c ∷ drop (a + 1) text) (read_at text a b e) in
    let n : a + prefix_len is_name_byte (drop a text) - a ≡ prefix_len is_name_byte (drop a text) = omega arith in
    ap (λ m. is_name_text (take m (drop a text))) n
    ∙ (ap (λ xs. is_name_text (take (prefix_len is_name_byte xs) xs)) from ∙ name_from b (drop (a + 1) text) h)

-- what a token kind tells of a name
IsWord : List ℕ → ℕ → TokenKind → Type 0
IsWord text a (tokens.Name b) = is_name_text (slice_range text a b) ≡ true
IsWord text a _ = Unit {0}

abbrev no_name : TokenKind → Bool
no_name (tokens.Name b) = false
no_name _ = true

other : (text : List ℕ) (a : ℕ) (m : TokenKind) → no_name m ≡ true → IsWord text a m
unfolding IsWord
other text a (tokens.Name b) e = absurd cc
other text a _ e = tt

name_leaf : (text : List ℕ) (a b : ℕ) → is_name_text (slice_range text a b) ≡ true → IsWord text a (tokens.Name b)
unfolding IsWord
name_leaf text a b h = h

either : (text : List ℕ) (a : ℕ) (c : Bool) (x y : TokenKind) → IsWord text a x → IsWord text a y → IsWord text a (cond c x y)
either text a true x y h k = h
either text a false x y h k = k

sign_word : (text : List ℕ) (a b : ℕ) → IsWord text a (sign_kind b text a)
sign_word text a b =
    either text a _ _ _ (either text a _ _ _ (other text a tokens.Separator refl) (other text a tokens.Percent refl))
    (either text a _ _ _ (other text a tokens.Colon refl)
    (either text a _ _ _ (other text a tokens.Semicolon refl)
    (either text a _ _ _ (other text a tokens.Bar refl)
    (either text a _ _ _ (other text a tokens.Brace refl)
    (either text a _ _ _ (other text a tokens.Arrow refl)
    (either text a _ _ _ (other text a tokens.Break refl) (other text a tokens.Other refl)))))))

byte_word : (text : List ℕ) (a b : ℕ) → slice_get text a ≡ Some b → IsWord text a (token_kind_of (Some b) text a)
byte_word text a b e = go (is_name_start b) refl (is_digit b) refl (is_quote b) refl
  where
    go : (n : Bool) → is_name_start b ≡ n → (d : Bool) → is_digit b ≡ d → (q : Bool) → is_quote b ≡ q → IsWord text a (token_kind_of (Some b) text a)
    go true e₁ d e₂ q e₃ = rw e₁ (name_leaf text a _ (name_at text a b e e₁))
    go false e₁ true e₂ q e₃ = rw (e₁, e₂) (other text a (tokens.Digits (run_end is_digit text a)) refl)
    go false e₁ false e₂ true e₃ = rw (e₁, e₂, e₃) (either text a _ _ _ (other text a (tokens.Quoted (run_end (is_quoted_by b) text (a + 2))) refl) (other text a tokens.OpenQuote refl))
    go false e₁ false e₂ false e₃ = rw (e₁, e₂, e₃) (sign_word text a b)

word_at_kind : (text : List ℕ) (a : ℕ) → IsWord text a (token_kind_at text a)
unfolding token_kind_at
word_at_kind text a = go (slice_get text a) refl
  where
    go : (o : Option ℕ) → slice_get text a ≡ o → IsWord text a (token_kind_of o text a)
    go None e = other text a tokens.End refl
    go (Some b) e = byte_word text a b e

name_word : (text : List ℕ) (a b : ℕ) → token_kind_at text a ≡ tokens.Name b → is_name_text (slice_range text a b) ≡ true
unfolding IsWord
name_word text a b e = subst (IsWord text a) e (word_at_kind text a)

-- what is read so far, and the heading that is being read
abbrev IsHeading : RuleText → Type 0
IsHeading r = is_name_text r.name.text ≡ true

abbrev WantsName : Wanted → Type 0
WantsName (RuleColon w) = is_name_text w.text ≡ true
WantsName (More r p) = IsHeading r
WantsName (PrecToken r p a) = IsHeading r
WantsName _ = Unit {0}

abbrev HasNames : State → Type 0
HasNames (Spaced w x a) = WantsName w × HeadingsAreWords x
HasNames (InLine w x a) = WantsName w × HeadingsAreWords x
HasNames (At w x a) = WantsName w × HeadingsAreWords x

begun : (d : Declaration) (x : SyntaxText) (b : ℕ) → HeadingsAreWords x → HasNames (begins d x b)
begun declarations.Token x b h = (tt, h)
begun declarations.Start x b h = (tt, h)
begun declarations.Epp x b h = (tt, h)
begun (declarations.Items l) x b h = (tt, h)
begun (declarations.Number c) x b h = (tt, h)
begun (declarations.Rest r) x b h = (tt, h)

with_line : (l : LineList) (x : SyntaxText) (ts : List SymbolText) → HeadingsAreWords x → HeadingsAreWords (append_list x l ts)
with_line (lists.Level k) x ts h = h
with_line lists.AvoidInsert x ts h = h
with_line lists.ImplicitTokens x ts h = h
with_line lists.ExpectUnused x ts h = h

with_count : (c : Count) (x : SyntaxText) (n : NumberText) → HeadingsAreWords x → HeadingsAreWords (append_number x c n)
with_count counts.Expect x n h = h
with_count counts.ExpectRR x n h = h

keeps : {kind : YaccKind} {text : List ℕ} {s t : State} → Step kind text s t → HasNames s → HasNames t
keeps (gap_part e) h = h
keeps (gap_end e) h = h
keeps (line_gap_part e) h = h
keeps (line_gap_end e) h = h
keeps (separator e) h = h
keeps (declared {x = x} {a = a} {d = d} e f) h = begun d x _ h.1
keeps (start_name e) h = h
keeps (declared_token e) h = h
keeps (tokens_end e) h = h
keeps (line_item e) h = h
keeps (list_end {x = x} {l = l} {ts = ts} e) h = (tt, with_line l x ts h.1)
keeps (number {x = x} {c = c} e f) h = (tt, with_count c x _ h.1)
keeps (epp_token e) h = h
keeps (epp_string e) h = h
keeps (action_type e) h = h
keeps (parse_generics e) h = h
keeps (parse_param e f) h = h
keeps (rules_end e) h = h
keeps (programs e) h = h
keeps {text = text} (rule_name {a = a} {b = b} e) h = (name_word text a b e, h.1)
keeps (colon k e) h = h
keeps (typed_colon k e f) h = h
keeps (symbol e f g) h = h
keeps (empty e f g k) h = h
keeps (prec e f) h = h
keeps (prec_token e) h = h
keeps (action e f g) h = h
keeps (bar e) h = h
keeps (semicolon {x = x} e) h = (tt, All-push IsHeading x.rules _ h.1 h.0)

all_keep : {kind : YaccKind} {text : List ℕ} {s t : State} → Steps kind text s t → HasNames s → HasNames t
all_keep here h = h
all_keep (then e more) h = all_keep more (keeps e h)

pub headings_are_words : (kind : YaccKind) (text : List ℕ) (start : ℕ) (x : SyntaxText) → Reads kind text start x → HeadingsAreWords x
headings_are_words kind text start x r = (all_keep r.1 (tt, All-nil IsHeading)).1

pub names_are_words : (told : Bool) (x : SyntaxText) → HeadingsAreWords x → NamesAreWords (ast_of told x)
names_are_words told x h =
    let P : List ℕ → Type 0 = λ name. is_rule_name name ≡ true in
    let Q : WordText → Type 0 = λ w. is_rule_name w.text ≡ true in
    let named : All Q (headings x) =
    All-map Q (λ (r : RuleText). r.name) x.rules
    (All-weaker (λ (r : RuleText). is_name_text r.name.text ≡ true) (λ (r : RuleText). is_rule_name r.name.text ≡ true) (λ r k. ap (λ b. b || is_fresh_name r.name.text) k) x.rules h) in
    let fresh : All Q (fresh_words x) =
    All-weaker (λ (w : WordText). is_fresh_name w.text ≡ true) Q (λ w k. or_true (is_name_text w.text) (is_fresh_name w.text) k) (fresh_words x) (fresh_named (is_among (declared_tokens x)) (symbols_used x)) in
    let once : All Q (rule_words x) = All-distinct Q (headings x ++ fresh_words x) [] (All-nil Q) (All-append Q (headings x) (fresh_words x) named fresh) in
    All-map P (λ (r : RuleAst). r.name.text) (map (rule_ast x) (rule_words x))
    (All-map (λ (r : RuleAst). is_rule_name r.name.text ≡ true) (rule_ast x) (rule_words x) once)
