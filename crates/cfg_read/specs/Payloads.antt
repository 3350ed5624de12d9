-- Which kinds of errors hold a value.
use Rattle.std.specs.Prelude.{Bool, true, false}
use Rattle.cfg_read.specs.declared.yacc.parser.error.YaccGrammarErrorKind.{YaccGrammarErrorKind}
use Rattle.cfg_read.specs.declared.yacc.parser.error.YaccGrammarErrorKind.TheVariants as kinds

abbrev pub holds_value : YaccGrammarErrorKind → Bool
holds_value (kinds.InvalidStartRule name) = true
holds_value (kinds.UnknownRuleRef name) = true
holds_value (kinds.UnknownToken name) = true
holds_value (kinds.NoPrecForToken name) = true
holds_value (kinds.UnknownEPP name) = true
holds_value (kinds.Header kind places) = true
holds_value _ = false
