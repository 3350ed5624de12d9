-- What the errors of the program say, without where they lie in memory.
use Rattle.std.specs.Prelude.{ℕ, zero, suc, List, [], ◌∷◌, ◌++◌, map, Vec}
use Rattle.std.specs.declared.alloc.Global.{Global}
use Rattle.cfg_base.specs.SpanModel.{SpanModel}
use Rattle.std.specs.String.{string_bytes}
use Rattle.cfg_base.specs.declared.span.SpansKind.{SpansKind}
use Rattle.cfg_sections.specs.HeaderErrors.{kind_text}
use Rattle.cfg_read.specs.declared.yacc.parser.error.YaccGrammarErrorKind.{YaccGrammarErrorKind}
use Rattle.cfg_read.specs.declared.yacc.parser.error.YaccGrammarErrorKind.TheVariants as kinds
use Rattle.cfg_read.specs.declared.yacc.validity.YaccGrammarError.{YaccGrammarError}
use Rattle.cfg_read.specs.declared.yacc.validity.unknown.Unknown.{Unknown}
use Rattle.cfg_read.specs.declared.yacc.validity.unknown.Unknown.TheVariants as unknown
use Rattle.cfg_read.specs.declared.yacc.validity.repeated.Repeated.{Repeated}
use Rattle.cfg_read.specs.declared.yacc.validity.repeated.Repeated.TheVariants as twice
use Rattle.cfg_read.specs.Validity as told
use Rattle.cfg_read.specs.Validity.{FailureKind, FailureText, kind_of_spans}

abbrev pub kind_of : YaccGrammarErrorKind → FailureKind
kind_of kinds.NoStartRule = told.NoStartRule
kind_of (kinds.InvalidStartRule name) = told.InvalidStartRule (string_bytes name)
kind_of (kinds.UnknownRuleRef name) = told.UnknownRuleRef (string_bytes name)
kind_of (kinds.NoPrecForToken name) = told.NoPrecForToken (string_bytes name)
kind_of (kinds.UnknownEPP name) = told.UnknownEPP (string_bytes name)
kind_of (kinds.UnknownToken name) = told.UnknownToken (string_bytes name)
kind_of kinds.UnknownSymbol = told.UnknownSymbol
kind_of kinds.DuplicatePrecedence = told.DuplicatePrecedence
kind_of kinds.DuplicateEPP = told.DuplicateEPP
kind_of kinds.DuplicateAvoidInsertDeclaration = told.DuplicateAvoidInsertDeclaration
kind_of kinds.DuplicateImplicitTokensDeclaration = told.DuplicateImplicitTokensDeclaration
kind_of kinds.DuplicateStartDeclaration = told.DuplicateStartDeclaration
kind_of kinds.DuplicateExpectDeclaration = told.DuplicateExpectDeclaration
kind_of kinds.DuplicateExpectRRDeclaration = told.DuplicateExpectRRDeclaration
kind_of kinds.DuplicateActiontypeDeclaration = told.DuplicateActiontypeDeclaration
kind_of (kinds.Header kind spans) = told.Header (kind_text kind) spans
kind_of kind = told.Fault kind

-- which failure each of these means
abbrev pub unknown_failure : Unknown → List ℕ → FailureKind
unknown_failure unknown.StartRule = told.InvalidStartRule
unknown_failure unknown.Rule = told.UnknownRuleRef
unknown_failure unknown.Precedence = told.NoPrecForToken
unknown_failure unknown.Epp = told.UnknownEPP
unknown_failure unknown.Token = told.UnknownToken

abbrev pub repeated_failure : Repeated → FailureKind
repeated_failure twice.Precedence = told.DuplicatePrecedence
repeated_failure twice.Epp = told.DuplicateEPP
repeated_failure twice.AvoidInsert = told.DuplicateAvoidInsertDeclaration
repeated_failure twice.ImplicitToken = told.DuplicateImplicitTokensDeclaration
repeated_failure twice.Start = told.DuplicateStartDeclaration
repeated_failure twice.Expect = told.DuplicateExpectDeclaration
repeated_failure twice.ExpectRR = told.DuplicateExpectRRDeclaration
repeated_failure twice.ActionType = told.DuplicateActiontypeDeclaration

-- lists of spans, and one more span in the list of this index, or in a new one behind the last
abbrev pub span_lists : List (Vec SpanModel Global) → List (List SpanModel)
span_lists gs = map (λ (g : Vec SpanModel Global). g.items) gs

abbrev pub with_span : List (List SpanModel) → ℕ → SpanModel → List (List SpanModel)
with_span [] n at = (at ∷ []) ∷ []
with_span (g ∷ gs) zero at = (g ++ at ∷ []) ∷ gs
with_span (g ∷ gs) (suc n) at = g ∷ with_span gs n at

abbrev pub failure_of : YaccGrammarError → FailureText
failure_of e = record { kind = kind_of e.kind; spans = e.spans.items }

abbrev pub failures_in : List YaccGrammarError → List FailureText
failures_in es = map failure_of es

abbrev pub spans_kind : YaccGrammarErrorKind → SpansKind
spans_kind kind = kind_of_spans (kind_of kind)
