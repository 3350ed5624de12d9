-- Parsers of texts.
use Rattle.std.specs.Prelude.{◌≡◌, ℕ, ◌<◌, ◌≤◌, ⊤, List, [], ◌++◌, length, drop, Option, None, Some, string_bytes}
use Rattle.std.specs.Str.{IsUtf8}
use Rattle.grammar_report.specs.Outcomes.{HasNoKit, IsKitIn}
use Rattle.lrlex.specs.LexTexts.{ReadsRules}
use Rattle.lrlex.specs.declared.rules.LexRules.{LexRules}
use Rattle.lrkit_c.specs.Answers.{PutsNothing, answer_of}
use Rattle.lrkit_c.specs.declared.answers.LrkitAnswer.{LrkitAnswer}
use Rattle.lrkit_c.specs.declared.handle.LrkitParser.{LrkitParser}
use Rattle.lrkit_c.specs.declared.held.Held.{Held}
use Rattle.lrkit_c.specs.declared.making.Refusal.{Refusal}
use Rattle.lrkit_c.specs.declared.making.Refusal.TheVariants as refusals
use Rattle.lrkit_c.specs.declared.status.Status.TheVariants as statuses

-- the rules of a lexer's text; none for an empty one
abbrev pub AreRulesFor : List ℕ → Option LexRules → Type 0
AreRulesFor text None = text ≡ []
AreRulesFor text (Some rules) = ReadsRules text rules

-- the kit of the grammar's text, with the rules of the lexer's
pub record IsMadeOf (grammar lexer : List ℕ) (h : Held) : Type 0 where
  pub kit : IsKitIn grammar h.kit
  pub rules : AreRulesFor lexer h.rules

-- why a grammar's text has no kit
abbrev pub IsGrammarRefusal : List ℕ → Refusal → Type 0
IsGrammarRefusal text refusals.Memory = ⊤
IsGrammarRefusal text refusals.NotUtf8 = IsUtf8 text → ⊥
IsGrammarRefusal text (refusals.Grammar message) = HasNoKit text
IsGrammarRefusal text (refusals.Lexer message) = ⊥

-- why a lexer's text has no rules
abbrev pub IsLexerRefusal : List ℕ → Refusal → Type 0
IsLexerRefusal text refusals.Memory = ⊤
IsLexerRefusal text refusals.NotUtf8 = IsUtf8 text → ⊥
IsLexerRefusal text (refusals.Grammar message) = ⊥
IsLexerRefusal text (refusals.Lexer message) = ⊤

-- the refusal is that of the grammar's text, or else of the lexer's
pub data IsRefusal (grammar lexer : List ℕ) (r : Refusal) : Type 0 where
  of_grammar : IsGrammarRefusal grammar r → IsRefusal grammar lexer r
  of_lexer : IsLexerRefusal lexer r → IsRefusal grammar lexer r

-- a handle holds what is made of the texts
abbrev pub HoldsMade : (grammar lexer : List ℕ) → Option Held → Type 0
HoldsMade grammar lexer held = (h : Held) × IsMadeOf grammar lexer h × (held ≡ Some h)

-- a room with room for the text has it at its front, and behind it what was there; a smaller one is as it was
abbrev pub Shows : (text old new : List ℕ) → Type 0
Shows text old new = (length text ≤ length old → new ≡ text ++ drop (length text) old) × (length old < length text → new ≡ old)

-- the message of a refusal is shown, and counted
abbrev pub TellsRefusal : Refusal → (old new : List ℕ) → LrkitAnswer → Type 0
TellsRefusal refusals.Memory old new a = PutsNothing statuses.Memory old new a
TellsRefusal refusals.NotUtf8 old new a = PutsNothing statuses.NotUtf8 old new a
TellsRefusal (refusals.Grammar message) old new a = Shows (string_bytes message) old new × (a ≡ answer_of statuses.Grammar (length (string_bytes message)))
TellsRefusal (refusals.Lexer message) old new a = Shows (string_bytes message) old new × (a ≡ answer_of statuses.Lexer (length (string_bytes message)))

-- the handle holds what is made of the texts, and no message is shown; or it is as it was, and the message says why
pub data MakesParser (grammar lexer : List ℕ) (parser parser' : LrkitParser) (old new : List ℕ) (a : LrkitAnswer) : Type 0 where
  made : HoldsMade grammar lexer parser'.value → PutsNothing statuses.Done old new a → MakesParser grammar lexer parser parser' old new a
  refused : (r : Refusal) → IsRefusal grammar lexer r → parser' ≡ parser → TellsRefusal r old new a → MakesParser grammar lexer parser parser' old new a
