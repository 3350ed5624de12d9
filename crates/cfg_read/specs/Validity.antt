-- What is wrong with a text that reads. A reading is valid where the list of its failures is empty.
use Rattle.std.specs.Prelude.{◌≡◌, ℕ, Bool, not, ◌&&◌, ◌||◌, List, [], ◌∷◌, ◌++◌, map, filter, option_to_list}
use Rattle.std.specs.List.{flat_map}
use Rattle.cfg_base.specs.SpanModel.{SpanModel}
use Rattle.cfg_sections.specs.HeaderErrors.{KindText, spanskind_of}
use Rattle.cfg_sections.specs.SectionResults.{ErrorText}
use Rattle.cfg_base.specs.declared.span.SpansKind.{SpansKind}
use Rattle.cfg_base.specs.declared.span.SpansKind.TheVariants as spans
use Rattle.cfg_read.specs.declared.yacc.parser.error.YaccGrammarErrorKind.{YaccGrammarErrorKind}
use Rattle.cfg_read.specs.SyntaxTexts.{WordText, SymbolText, AlternativeText, RuleText, NumberText, EppText, SyntaxText}
use Rattle.cfg_read.specs.Names.{is_named, is_among, distinct, is_rule, rules_used, is_grammar_token, level_tokens, avoided_tokens, implicit_tokens_of}

pub data FailureKind : Type 0 where
  NoStartRule : FailureKind
  InvalidStartRule : List ℕ → FailureKind
  UnknownRuleRef : List ℕ → FailureKind
  NoPrecForToken : List ℕ → FailureKind
  UnknownEPP : List ℕ → FailureKind
  UnknownToken : List ℕ → FailureKind
  UnknownSymbol : FailureKind
  DuplicatePrecedence : FailureKind
  DuplicateEPP : FailureKind
  DuplicateAvoidInsertDeclaration : FailureKind
  DuplicateImplicitTokensDeclaration : FailureKind
  DuplicateStartDeclaration : FailureKind
  DuplicateExpectDeclaration : FailureKind
  DuplicateExpectRRDeclaration : FailureKind
  DuplicateActiontypeDeclaration : FailureKind
  -- a fault of reading, which no text that reads shows
  Fault : YaccGrammarErrorKind → FailureKind
  -- an error of the section, and what its spans are
  Header : KindText → SpansKind → FailureKind

-- a failure, and all spans that show it
pub record FailureText : Type 0 where
  pub kind : FailureKind
  pub spans : List SpanModel

abbrev pub header_failure : ErrorText → FailureText
header_failure e = record { kind = Header e.0 (spanskind_of e.0); spans = e.1 }

abbrev pub failure_at : FailureKind → SpanModel → FailureText
failure_at k at = record { kind = k; spans = at ∷ [] }

-- a failure for each word
abbrev pub failures_at : (List ℕ → FailureKind) → List WordText → List FailureText
failures_at kind ws = map (λ (w : WordText). failure_at (kind w.text) w.span) ws

-- those words whose text isn't as asked, and a failure for each
abbrev pub without : (List ℕ → Bool) → List WordText → List WordText
without p ws = filter (λ (w : WordText). not (p w.text)) ws

abbrev pub unknown_by : (List ℕ → FailureKind) → (List ℕ → Bool) → List WordText → List FailureText
unknown_by kind known ws = failures_at kind (without known ws)

-- There is a `%start` or a rule.
abbrev pub no_start_rule : List WordText → List RuleText → List FailureText
no_start_rule [] [] = failure_at NoStartRule (record { start = 0; end = 0 }) ∷ []
no_start_rule [] (r ∷ rules) = []
no_start_rule (w ∷ starts) rules = []

-- The first `%start` names a rule.
abbrev pub invalid_start_rule : (List ℕ → Bool) → List WordText → List FailureText
invalid_start_rule known [] = []
invalid_start_rule known (w ∷ starts) = unknown_by InvalidStartRule known (w ∷ [])

-- Each token of a `%prec` has a precedence.
abbrev pub precs_in : RuleText → List WordText
precs_in r = flat_map (λ (a : AlternativeText). option_to_list a.precedence) r.alternatives

abbrev pub unknown_precs : SyntaxText → List FailureText
unknown_precs x = unknown_by NoPrecForToken (is_among (level_tokens x)) (flat_map precs_in x.rules)

-- Each token of an `%epp`, and each of an `%avoid_insert`, is a token of the grammar.
abbrev pub epp_tokens : SyntaxText → List WordText
epp_tokens x = map (λ (e : EppText). e.token) x.epp

-- Each name of an `%expect-unused` is a rule or a token of the grammar, each quoted one a token.
abbrev pub known_by : (List ℕ → Bool) → (List ℕ → Bool) → SymbolText → Bool
known_by rules tokens s = tokens s.word.text || (not s.is_quoted && rules s.word.text)

abbrev pub expected_symbols : SyntaxText → List SymbolText
expected_symbols x = flat_map (λ (l : List SymbolText). l) x.expect_unused

abbrev pub unknown_symbols_by : (SymbolText → Bool) → List SymbolText → List FailureText
unknown_symbols_by known ss = map (λ (s : SymbolText). failure_at UnknownSymbol s.word.span) (filter (λ (s : SymbolText). not (known s)) ss)

-- what stands for nothing in `%start` and in rules, and in the declarations
abbrev pub unknown_in_rules : (List ℕ → Bool) → SyntaxText → List FailureText
unknown_in_rules rules x = invalid_start_rule rules x.starts ++ (unknown_by UnknownRuleRef rules (rules_used x) ++ unknown_precs x)

abbrev pub unknown_in_declarations : (List ℕ → Bool) → (List ℕ → Bool) → SyntaxText → List FailureText
unknown_in_declarations rules tokens x = unknown_by UnknownEPP tokens (epp_tokens x) ++ (unknown_by UnknownToken tokens (avoided_tokens x) ++ unknown_symbols_by (known_by rules tokens) (expected_symbols x))

abbrev pub unknown_names : SyntaxText → List FailureText
unknown_names x = unknown_in_rules (is_rule x) x ++ unknown_in_declarations (is_rule x) (is_grammar_token x) x

-- More than one span is one failure, with all of them.
abbrev pub repeated : FailureKind → List SpanModel → List FailureText
repeated k [] = []
repeated k (at ∷ []) = []
repeated k (at ∷ behind ∷ more) = record { kind = k; spans = at ∷ behind ∷ more } ∷ []

abbrev pub word_spans : List WordText → List SpanModel
word_spans ws = map (λ (w : WordText). w.span) ws

-- for each name, in the order of the first appearances, its spans
abbrev pub groups_of : List WordText → List (List SpanModel)
groups_of ws = map (λ (w : WordText). word_spans (filter (is_named w.text) ws)) (distinct ws)

-- Each of the words stands there once; the names that don't, in the order of their first appearances.
abbrev pub repeated_names : FailureKind → List WordText → List FailureText
repeated_names k ws = flat_map (repeated k) (groups_of ws)

abbrev pub repeated_words : SyntaxText → List FailureText
repeated_words x =
    repeated_names DuplicatePrecedence (level_tokens x)
    ++ (repeated_names DuplicateEPP (epp_tokens x)
    ++ (repeated_names DuplicateAvoidInsertDeclaration (avoided_tokens x)
    ++ repeated_names DuplicateImplicitTokensDeclaration (implicit_tokens_of x)))

abbrev pub number_spans : List NumberText → List SpanModel
number_spans ns = map (λ (n : NumberText). n.span) ns

-- Each of these declarations stands there once.
abbrev pub repeated_declarations : SyntaxText → List FailureText
repeated_declarations x =
    repeated DuplicateStartDeclaration (word_spans x.starts)
    ++ (repeated DuplicateExpectDeclaration (number_spans x.expect)
    ++ (repeated DuplicateExpectRRDeclaration (number_spans x.expect_rr)
    ++ repeated DuplicateActiontypeDeclaration (word_spans x.action_types)))

-- all failures, in order
abbrev pub failures : SyntaxText → List FailureText
failures x = no_start_rule x.starts x.rules ++ (unknown_names x ++ (repeated_words x ++ repeated_declarations x))

abbrev pub IsValid : SyntaxText → Type 0
IsValid x = failures x ≡ []

-- What the spans of a failure are: all occurrences of what should stand once, or where an error is.
abbrev pub kind_of_spans : FailureKind → SpansKind
kind_of_spans DuplicatePrecedence = spans.DuplicationError
kind_of_spans DuplicateEPP = spans.DuplicationError
kind_of_spans DuplicateAvoidInsertDeclaration = spans.DuplicationError
kind_of_spans DuplicateImplicitTokensDeclaration = spans.DuplicationError
kind_of_spans DuplicateStartDeclaration = spans.DuplicationError
kind_of_spans DuplicateExpectDeclaration = spans.DuplicationError
kind_of_spans DuplicateExpectRRDeclaration = spans.DuplicationError
kind_of_spans DuplicateActiontypeDeclaration = spans.DuplicationError
kind_of_spans (Header kind its) = its
kind_of_spans _ = spans.Error
