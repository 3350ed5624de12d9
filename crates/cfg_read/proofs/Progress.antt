-- From each state a construct goes on, or an error stops reading, or all is read.
use Rattle.std.proofs.Common.{◌≡◌, ℕ, ◌+◌, Bool, true, false, List, [], ◌∷◌, length, Option, Some, None, refl, ap, ◌∙◌}
use Rattle.std.specs.Prelude.{slice_range}
use Rattle.std.specs.Option.{is_none}
use Rattle.cfg_read.specs.declared.yacc.YaccKind.{YaccKind}
use Rattle.cfg_read.specs.declared.yacc.parser.declaration.Count.{Count}
use Rattle.cfg_read.specs.declared.yacc.parser.declaration.Declaration.{Declaration}
use Rattle.cfg_read.specs.declared.yacc.parser.declaration.LineText.TheVariants as texts
use Rattle.cfg_read.specs.declared.yacc.parser.error.YaccGrammarErrorKind.{YaccGrammarErrorKind}
use Rattle.cfg_base.specs.declared.text.GapPart.{GapPart}
use Rattle.cfg_base.specs.declared.text.GapPart.TheVariants as gaps
use Rattle.cfg_read.specs.declared.yacc.parser.scan.TokenKind.{TokenKind}
use Rattle.cfg_read.specs.declared.yacc.parser.scan.TokenKind.TheVariants as tokens
use Rattle.cfg_read.specs.declared.yacc.parser.scan.StringKind.{StringKind}
use Rattle.cfg_read.specs.declared.yacc.parser.scan.StringKind.TheVariants as strings
use Rattle.cfg_base.specs.Text.{gap_at}
use Rattle.cfg_read.specs.Words.{token_kind_at, line_gap_at, keyword, number_of, string_at, lone_colon, action_end}
use Rattle.cfg_read.specs.SyntaxTexts.{WordText, SymbolText, RuleText, ParamText, SyntaxText}
use Rattle.cfg_read.specs.SyntaxUpdates.{Part, is_open, rest_of_line, parameter}
use Rattle.cfg_read.specs.Declarations.{is_grmtools, declaration_of}
use Rattle.cfg_read.specs.Reading.{Declared, StartName, DeclaredToken, LineItem, NumberWord, EppToken, EppString, Rest, RuleName, RuleColon, More, PrecToken, Nothing, State, Spaced, InLine, At, IsToken, name, quoted, has_letters, ends_tokens, ends_line, Step, gap_part, gap_end, line_gap_part, line_gap_end, separator, declared, start_name, declared_token, tokens_end, line_item, list_end, number, epp_token, epp_string, action_type, parse_generics, parse_param, rules_end, programs, rule_name, colon, typed_colon, symbol, empty, prec, prec_token, action, bar, semicolon}
use Rattle.cfg_read.specs.SyntaxErrors.{name_fault, token_fault, declaration_fault, rule_fault, number_at, alternative_fault, Stops, unclosed, line_unclosed, no_declaration, unknown_declaration, no_start_name, no_declared_token, no_line_item, no_epp_token, no_number, no_string, nothing_on_line, no_parameter, no_rule_name, no_colon, no_arrow, no_typed_colon, no_part_stands, symbol_after_empty, empty_after_symbol, late_symbol, late_empty, late_prec, other_word, late_action, open_action, no_prec_token}

pub data Progress (kind : YaccKind) (text : List ℕ) (s : State) : Type 0 where
  goes : {t : State} → Step kind text s t → Progress kind text s
  fails : {e : YaccGrammarErrorKind} {offset : ℕ} → Stops kind text s e offset → Progress kind text s
  ends : {x : SyntaxText} {a : ℕ} → s ≡ At Nothing x a → Progress kind text s

symbol_on : (kind : YaccKind) (text : List ℕ) (x : SyntaxText) (a b : ℕ) (r : RuleText) (p : Part) (t : SymbolText) → IsToken text a t b → Progress kind text (At (More r p) x a)
symbol_on kind text x a b r p t e = go p.is_empty refl (is_open p) refl
  where
    go : (n : Bool) → p.is_empty ≡ n → (o : Bool) → is_open p ≡ o → Progress kind text (At (More r p) x a)
    go true n o h = fails (symbol_after_empty e n)
    go false n true h = goes (symbol e n h)
    go false n false h = fails (late_symbol e n h)

empty_on : (kind : YaccKind) (text : List ℕ) (x : SyntaxText) (a : ℕ) (r : RuleText) (p : Part) → token_kind_at text a ≡ tokens.Percent → has_letters text a "empty" ≡ true → Progress kind text (At (More r p) x a)
empty_on kind text x a r p e l = go p.symbols refl p.is_empty refl (is_open p) refl
  where
    go : (ss : List SymbolText) → p.symbols ≡ ss → (n : Bool) → p.is_empty ≡ n → (o : Bool) → is_open p ≡ o → Progress kind text (At (More r p) x a)
    go (s ∷ ss) h n k o j = fails (empty_after_symbol (e, l) (λ nil. absurd (let z = nil in cc)))
    go [] h true k o j = fails (late_empty (e, l) h (rw k refl))
    go [] h false k true j = goes (empty (e, l) h k j)
    go [] h false k false j = fails (late_empty (e, l) h (rw (k, j) refl))

percent_on : (kind : YaccKind) (text : List ℕ) (x : SyntaxText) (a : ℕ) (r : RuleText) (p : Part) → token_kind_at text a ≡ tokens.Percent → Progress kind text (At (More r p) x a)
percent_on kind text x a r p e = go (has_letters text a "empty") refl (has_letters text a "prec") refl (is_open p) refl
  where
    go : (l : Bool) → has_letters text a "empty" ≡ l → (m : Bool) → has_letters text a "prec" ≡ m → (o : Bool) → is_open p ≡ o → Progress kind text (At (More r p) x a)
    go true l m k o j = empty_on kind text x a r p e l
    go false l true k true j = goes (prec (e, k) j)
    go false l true k false j = fails (late_prec (e, k) j)
    go false l false k o j = fails (other_word e l k)

action_on : (kind : YaccKind) (text : List ℕ) (x : SyntaxText) (a : ℕ) (r : RuleText) (p : Part) → token_kind_at text a ≡ tokens.Brace → Progress kind text (At (More r p) x a)
action_on kind text x a r p e = go (is_none p.action) refl (action_end text (a + 1)) refl
  where
    go : (n : Bool) → is_none p.action ≡ n → (c : Option ℕ) → action_end text (a + 1) ≡ c → Progress kind text (At (More r p) x a)
    go false n c h = fails (late_action e n)
    go true n None h = fails (open_action e n h)
    go true n (Some c) h = goes (action e n h)

declared_on : (kind : YaccKind) (text : List ℕ) (x : SyntaxText) (a : ℕ) → token_kind_at text a ≡ tokens.Percent → Progress kind text (At Declared x a)
declared_on kind text x a e = go (declaration_of kind (keyword text a)) refl
  where
    go : (d : Option Declaration) → declaration_of kind (keyword text a) ≡ d → Progress kind text (At Declared x a)
    go None h = fails (unknown_declaration e h)
    go (Some d) h = goes (declared e h)

type_on : (kind : YaccKind) (text : List ℕ) (x : SyntaxText) (a : ℕ) (r : WordText) → is_grmtools kind ≡ true → token_kind_at text a ≡ tokens.Arrow → Progress kind text (At (RuleColon r) x a)
type_on kind text x a r k e = go (lone_colon text (a + 2) (length text)) refl
  where
    go : (c : Option ℕ) → lone_colon text (a + 2) (length text) ≡ c → Progress kind text (At (RuleColon r) x a)
    go None h = fails (no_typed_colon k e h)
    go (Some c) h = goes (typed_colon k e h)

number_on : (kind : YaccKind) (text : List ℕ) (x : SyntaxText) (a b : ℕ) (c : Count) → token_kind_at text a ≡ tokens.Digits b → Progress kind text (At (NumberWord c) x a)
number_on kind text x a b c e = go (number_of (slice_range text a b)) refl
  where
    go : (n : Option ℕ) → number_of (slice_range text a b) ≡ n → Progress kind text (At (NumberWord c) x a)
    go None h = fails (no_number (ap (number_at text a) e ∙ h))
    go (Some n) h = goes (number e h)

param_on : (kind : YaccKind) (text : List ℕ) (x : SyntaxText) (a : ℕ) (w : WordText) → rest_of_line text a ≡ Some w → Progress kind text (At (Rest texts.ParseParam) x a)
param_on kind text x a w e = go (parameter text a) refl
  where
    go : (p : Option ParamText) → parameter text a ≡ p → Progress kind text (At (Rest texts.ParseParam) x a)
    go None h = fails (no_parameter e h)
    go (Some p) h = goes (parse_param e h)

pub progress : (kind : YaccKind) (text : List ℕ) (s : State) → Progress kind text s
progress kind text (Spaced w x a) = go (gap_at text a) refl
  where
    go : (m : GapPart) → gap_at text a ≡ m → Progress kind text (Spaced w x a)
    go (gaps.Part b) e = goes (gap_part e)
    go gaps.NoPart e = goes (gap_end e)
    go gaps.Unclosed e = fails (unclosed e)
progress kind text (InLine w x a) = go (line_gap_at text a) refl
  where
    go : (m : GapPart) → line_gap_at text a ≡ m → Progress kind text (InLine w x a)
    go (gaps.Part b) e = goes (line_gap_part e)
    go gaps.NoPart e = goes (line_gap_end e)
    go gaps.Unclosed e = fails (line_unclosed e)
progress kind text (At Declared x a) = go (token_kind_at text a) refl
  where
    go : (m : TokenKind) → token_kind_at text a ≡ m → Progress kind text (At Declared x a)
    go tokens.Separator e = goes (separator e)
    go tokens.Percent e = declared_on kind text x a e
    go tokens.End e = fails (no_declaration (ap declaration_fault e))
    go _ e = fails (no_declaration (ap declaration_fault e))
progress kind text (At StartName x a) = go (token_kind_at text a) refl
  where
    go : (m : TokenKind) → token_kind_at text a ≡ m → Progress kind text (At StartName x a)
    go (tokens.Name b) e = goes (start_name e)
    go _ e = fails (no_start_name (ap name_fault e))
progress kind text (At DeclaredToken x a) = go (token_kind_at text a) refl
  where
    go : (m : TokenKind) → token_kind_at text a ≡ m → Progress kind text (At DeclaredToken x a)
    go (tokens.Name b) e = goes (declared_token (name e))
    go (tokens.Quoted b) e = goes (declared_token (quoted e))
    go tokens.End e = goes (tokens_end (ap ends_tokens e))
    go tokens.Separator e = goes (tokens_end (ap ends_tokens e))
    go tokens.Percent e = goes (tokens_end (ap ends_tokens e))
    go tokens.OpenQuote e = fails (no_declared_token (ap ends_tokens e) (ap token_fault e))
    go _ e = fails (no_declared_token (ap ends_tokens e) (ap token_fault e))
progress kind text (At (LineItem l ts) x a) = go (token_kind_at text a) refl
  where
    go : (m : TokenKind) → token_kind_at text a ≡ m → Progress kind text (At (LineItem l ts) x a)
    go (tokens.Name b) e = goes (line_item (name e))
    go (tokens.Quoted b) e = goes (line_item (quoted e))
    go tokens.End e = goes (list_end (ap ends_line e))
    go tokens.Break e = goes (list_end (ap ends_line e))
    go tokens.OpenQuote e = fails (no_line_item (ap ends_line e) (ap token_fault e))
    go _ e = fails (no_line_item (ap ends_line e) (ap token_fault e))
progress kind text (At (NumberWord c) x a) = go (token_kind_at text a) refl
  where
    go : (m : TokenKind) → token_kind_at text a ≡ m → Progress kind text (At (NumberWord c) x a)
    go (tokens.Digits b) e = number_on kind text x a b c e
    go _ e = fails (no_number (ap (number_at text a) e))
progress kind text (At EppToken x a) = go (token_kind_at text a) refl
  where
    go : (m : TokenKind) → token_kind_at text a ≡ m → Progress kind text (At EppToken x a)
    go (tokens.Name b) e = goes (epp_token (name e))
    go (tokens.Quoted b) e = goes (epp_token (quoted e))
    go tokens.OpenQuote e = fails (no_epp_token (ap token_fault e))
    go _ e = fails (no_epp_token (ap token_fault e))
progress kind text (At (EppString t) x a) = go (string_at text a) refl
  where
    go : (m : StringKind) → string_at text a ≡ m → Progress kind text (At (EppString t) x a)
    go (strings.Closed b) e = goes (epp_string e)
    go (strings.Broken b) e = fails (no_string e)
progress kind text (At (Rest texts.ActionType) x a) = go (rest_of_line text a) refl
  where
    go : (w : Option WordText) → rest_of_line text a ≡ w → Progress kind text (At (Rest texts.ActionType) x a)
    go None e = fails (nothing_on_line e)
    go (Some w) e = goes (action_type e)
progress kind text (At (Rest texts.ParseGenerics) x a) = go (rest_of_line text a) refl
  where
    go : (w : Option WordText) → rest_of_line text a ≡ w → Progress kind text (At (Rest texts.ParseGenerics) x a)
    go None e = fails (nothing_on_line e)
    go (Some w) e = goes (parse_generics e)
progress kind text (At (Rest texts.ParseParam) x a) = go (rest_of_line text a) refl
  where
    go : (w : Option WordText) → rest_of_line text a ≡ w → Progress kind text (At (Rest texts.ParseParam) x a)
    go None e = fails (nothing_on_line e)
    go (Some w) e = param_on kind text x a w e
progress kind text (At RuleName x a) = go (token_kind_at text a) refl
  where
    go : (m : TokenKind) → token_kind_at text a ≡ m → Progress kind text (At RuleName x a)
    go tokens.End e = goes (rules_end e)
    go tokens.Separator e = goes (programs e)
    go (tokens.Name b) e = goes (rule_name e)
    go _ e = fails (no_rule_name (ap rule_fault e))
progress kind text (At (RuleColon r) x a) = go (is_grmtools kind) refl (token_kind_at text a) refl
  where
    go : (k : Bool) → is_grmtools kind ≡ k → (m : TokenKind) → token_kind_at text a ≡ m → Progress kind text (At (RuleColon r) x a)
    go false k tokens.Colon e = goes (colon k e)
    go true k tokens.Arrow e = type_on kind text x a r k e
    go false k _ e = fails (no_colon k (λ h. absurd (let z = h in cc)))
    go true k _ e = fails (no_arrow k (λ h. absurd (let z = h in cc)))
progress kind text (At (More r p) x a) = go (token_kind_at text a) refl
  where
    go : (m : TokenKind) → token_kind_at text a ≡ m → Progress kind text (At (More r p) x a)
    go (tokens.Name b) e = symbol_on kind text x a b r p _ (name e)
    go (tokens.Quoted b) e = symbol_on kind text x a (b + 1) r p _ (quoted e)
    go tokens.Percent e = percent_on kind text x a r p e
    go tokens.Brace e = action_on kind text x a r p e
    go tokens.Bar e = goes (bar e)
    go tokens.Semicolon e = goes (semicolon e)
    go tokens.End e = fails (no_part_stands (ap alternative_fault e))
    go tokens.OpenQuote e = fails (no_part_stands (ap alternative_fault e))
    go _ e = fails (no_part_stands (ap alternative_fault e))
progress kind text (At (PrecToken r p a) x b) = go (token_kind_at text b) refl
  where
    go : (m : TokenKind) → token_kind_at text b ≡ m → Progress kind text (At (PrecToken r p a) x b)
    go (tokens.Name c) e = goes (prec_token (name e))
    go (tokens.Quoted c) e = goes (prec_token (quoted e))
    go tokens.OpenQuote e = fails (no_prec_token (ap token_fault e))
    go _ e = fails (no_prec_token (ap token_fault e))
progress kind text (At Nothing x a) = ends refl
