-- Constructs with their ends given.
use Rattle.std.proofs.Common.{◌≡◌, ℕ, List, Some, None, sym, subst}
use Rattle.cfg_read.specs.declared.yacc.YaccKind.{YaccKind}
use Rattle.cfg_read.specs.declared.yacc.parser.declaration.Count.{Count}
use Rattle.cfg_read.specs.declared.yacc.parser.declaration.Declaration.{Declaration}
use Rattle.cfg_read.specs.declared.yacc.parser.declaration.LineText.TheVariants as texts
use Rattle.cfg_read.specs.declared.yacc.parser.error.ReadError.{ReadError}
use Rattle.cfg_read.specs.declared.yacc.parser.error.ReadError.TheVariants as errors
use Rattle.cfg_read.specs.declared.yacc.parser.error.YaccGrammarErrorKind.TheVariants as faults
use Rattle.cfg_read.specs.declared.yacc.parser.scan.TokenKind.TheVariants as tokens
use Rattle.cfg_base.specs.Text.{line_end}
use Rattle.cfg_read.specs.Words.{token_kind_at, keyword, keyword_end}
use Rattle.cfg_read.specs.SyntaxTexts.{WordText, NumberText, ParamText, SyntaxText}
use Rattle.cfg_read.specs.SyntaxUpdates.{append_number, append_epp, append_action_type, put_parse_param, put_parse_generics, rest_of_line, parameter}
use Rattle.cfg_read.specs.Declarations.{declaration_of}
use Rattle.cfg_read.specs.Reading.{Declared, NumberWord, EppString, Rest, State, Spaced, At, begins, Step, declared, number, epp_string, action_type, parse_generics, parse_param, Steps}
use Rattle.cfg_read.specs.SyntaxErrors.{Stops, no_string, no_parameter, FailsFrom}
use Rattle.cfg_read.specs.Scanning.{IsNumber, IsString, IsStringFault}
use Rattle.cfg_read.proofs.Chains.{and_stops}

module _ {kind : YaccKind} {text : List ℕ} {x : SyntaxText} where
  pub declared_to : {a : ℕ} {d : Declaration} (b : ℕ) → token_kind_at text a ≡ tokens.Percent → declaration_of kind (keyword text a) ≡ Some d → b ≡ keyword_end text a → Step kind text (At Declared x a) (begins d x b)
  declared_to b e h at = rw at (declared e h)

  pub number_to : {a b : ℕ} {c : Count} (n : NumberText) → IsNumber text a n b → Step kind text (At (NumberWord c) x a) (Spaced Declared (append_number x c n) b)
  number_to {a = a} {b = b} {c = c} n h = subst (λ s. Step kind text (At (NumberWord c) x a) (Spaced Declared (append_number x c (record { value = n.value; span = s })) b)) (sym h.span) (number h.digits h.value)

  pub string_to : {a b : ℕ} {t w : WordText} → IsString text a w b → Step kind text (At (EppString t) x a) (Spaced Declared (append_epp x t w) b)
  string_to h = rw (h.word, h.end) (epp_string h.closed)

  pub string_fails : {s : State} {a : ℕ} {t : WordText} (e : ReadError) → Steps kind text s (At (EppString t) x a) → IsStringFault text a e → FailsFrom kind text s e
  string_fails (errors.Memory m) r h = tt
  string_fails (errors.Fault e offset) r h = rw h.1 (and_stops r (no_string h.0))

  pub action_type_to : {a : ℕ} {w : WordText} (b : ℕ) → rest_of_line text a ≡ Some w → b ≡ line_end text a → Step kind text (At (Rest texts.ActionType) x a) (Spaced Declared (append_action_type x w) b)
  action_type_to b h at = rw at (action_type h)

  pub parse_generics_to : {a : ℕ} {w : WordText} (b : ℕ) → rest_of_line text a ≡ Some w → b ≡ line_end text a → Step kind text (At (Rest texts.ParseGenerics) x a) (Spaced Declared (put_parse_generics x w) b)
  parse_generics_to b h at = rw at (parse_generics h)

  pub parse_param_to : {a : ℕ} {w : WordText} {p : ParamText} (b : ℕ) → rest_of_line text a ≡ Some w → parameter text a ≡ Some p → b ≡ line_end text a → Step kind text (At (Rest texts.ParseParam) x a) (Spaced Declared (put_parse_param x p) b)
  parse_param_to b e h at = rw at (parse_param e h)

  pub no_parameter_at : {a : ℕ} {w : WordText} (b : ℕ) → rest_of_line text a ≡ Some w → b ≡ line_end text a → parameter text a ≡ None → Stops kind text (At (Rest texts.ParseParam) x a) faults.MissingColon b
  no_parameter_at b h at e = rw at (no_parameter h e)
