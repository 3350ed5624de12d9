-- The lexemes of a text, and what calls write of them.
use Rattle.std.specs.Prelude.{◌≡◌, ℕ, ⊤, List, [], ◌∷◌, Option, None, Some, Ok, Err, IfSome, IsSome}
use Rattle.std.specs.List.{flat_map}
use Rattle.std.specs.Str.{IsUtf8}
use Rattle.cfg_numbered.specs.Value.{GrammarValue}
use Rattle.lrlex.specs.Lexing.{AreMeanings, Lexes, names_of, rules_of}
use Rattle.lrlex.specs.declared.bound.Meaning.{Meaning}
use Rattle.lrlex.specs.declared.lex_error.LRLexError.{LRLexError}
use Rattle.lrlex.specs.declared.rules.LexRules.{LexRules}
use Rattle.lrkit_c.specs.Answers.{Puts, answer_of}
use Rattle.lrkit_c.specs.Making.{IsMadeOf, IsRefusal}
use Rattle.lrkit_c.specs.Nodes.{itself}
use Rattle.lrkit_c.specs.Parses.{AnswersParse, Item, lexeme_for, lexing_place}
use Rattle.lrkit_c.specs.declared.answers.LrkitAnswer.{LrkitAnswer}
use Rattle.lrkit_c.specs.declared.answers.LrkitPlace.{LrkitPlace}
use Rattle.lrkit_c.specs.declared.held.Held.{Held}
use Rattle.lrkit_c.specs.declared.lexemes.LrkitLexeme.{LrkitLexeme}
use Rattle.lrkit_c.specs.declared.making.Refusal.{Refusal}
use Rattle.lrkit_c.specs.declared.making.Refusal.TheVariants as refusals
use Rattle.lrkit_c.specs.declared.nodes.LrkitNode.{LrkitNode}
use Rattle.lrkit_c.specs.declared.status.Status.{Status}
use Rattle.lrkit_c.specs.declared.status.Status.TheVariants as statuses

-- the text's items, by rules for the tokens of a grammar
pub record IsLexedBy (g : GrammarValue) (rules : LexRules) (text : List ℕ) (items : List Item) : Type 0 where
  pub meanings : List (Meaning ℕ)
  pub are : AreMeanings itself g (names_of rules) meanings
  pub lexes : Lexes (rules_of rules) meanings text items

-- the same by those that a parser was made with
abbrev pub IsLexed : Held → (text : List ℕ) → (items : List Item) → Type 0
IsLexed h text items = IfSome h.rules (λ rules. IsLexedBy h.kit.parser.grammar rules text items) × IsSome h.rules

-- why a text is not lexed
abbrev pub IsUnlexable : Held → List ℕ → Status → Type 0
IsUnlexable h text statuses.Memory = ⊤
IsUnlexable h text statuses.NotUtf8 = IsUtf8 text → ⊥
IsUnlexable h text statuses.NoLexer = h.rules ≡ None
IsUnlexable h text status = ⊥

-- a call that refuses writes nothing
abbrev pub Refuses : {X : Type 0} → Status → (old new : List X) → (place place' : LrkitPlace) → LrkitAnswer → Type 0
Refuses status old new place place' a = (new ≡ old) × (place' ≡ place) × (a ≡ answer_of status 0)

-- what is found of the text's items by the kit's parse is written; or nothing is, of a text that is not lexed
pub data AnswersText (h : Held) (text : List ℕ) (old new : List LrkitNode) (place place' : LrkitPlace) (a : LrkitAnswer) : Type 0 where
  lexed : (items : List Item) → IsLexed h text items → AnswersParse h.kit.parser items old new place place' a → AnswersText h text old new place place' a
  refused : (status : Status) → IsUnlexable h text status → Refuses status old new place place' a → AnswersText h text old new place place' a

-- the number of the status alone says why there is no parser
abbrev pub number_for : Refusal → ℕ
number_for refusals.Memory = 1
number_for refusals.NotUtf8 = 2
number_for (refusals.Grammar message) = 4
number_for (refusals.Lexer message) = 5

-- the same by a parser that is made of texts; where there is none, nothing is written
pub data AnswersOnce (grammar lexer text : List ℕ) (old new : List LrkitNode) (place place' : LrkitPlace) (a : LrkitAnswer) : Type 0 where
  made : (h : Held) → IsMadeOf grammar lexer h → AnswersText h text old new place place' a → AnswersOnce grammar lexer text old new place place' a
  refused : (r : Refusal) → IsRefusal grammar lexer r → new ≡ old → place' ≡ place → a.status ≡ number_for r → AnswersOnce grammar lexer text old new place place' a

-- an item as C sees it; an error is no lexeme
abbrev pub shown_item : Item → List LrkitLexeme
shown_item (Ok x) = lexeme_for x ∷ []
shown_item (Err e) = []

-- the first error of items
abbrev pub first_fault : List Item → Option LRLexError
first_fault [] = None
first_fault (Ok x ∷ items) = first_fault items
first_fault (Err e ∷ items) = Some e

-- the lexemes are put, and the place of the error, if there is one
abbrev pub WritesLexemes : Option LRLexError → List LrkitLexeme → (old new : List LrkitLexeme) → (place place' : LrkitPlace) → LrkitAnswer → Type 0
WritesLexemes None lexemes old new place place' a = Puts statuses.Done lexemes old new a × (place' ≡ place)
WritesLexemes (Some e) lexemes old new place place' a = Puts statuses.Unlexed lexemes old new a × (place' ≡ lexing_place e)

-- the lexemes and the first error of a text's items
pub record HasLexed (h : Held) (text : List ℕ) (lexemes : List LrkitLexeme) (fault : Option LRLexError) : Type 0 where
  pub items : List Item
  pub is : IsLexed h text items
  pub lexemes_are : lexemes ≡ flat_map shown_item items
  pub fault_is : fault ≡ first_fault items

-- they are written; or nothing is, of a text that is not lexed
pub data AnswersLex (h : Held) (text : List ℕ) (old new : List LrkitLexeme) (place place' : LrkitPlace) (a : LrkitAnswer) : Type 0 where
  lexed : (lexemes : List LrkitLexeme) (fault : Option LRLexError) → HasLexed h text lexemes fault → WritesLexemes fault lexemes old new place place' a → AnswersLex h text old new place place' a
  refused : (status : Status) → IsUnlexable h text status → Refuses status old new place place' a → AnswersLex h text old new place place' a
