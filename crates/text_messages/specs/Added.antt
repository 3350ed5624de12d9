-- Messages about a text, and messages behind others.
use Rattle.std.specs.Prelude.{◌≡◌, ℕ, ◌≤◌, List, [], ◌∷◌, ◌++◌, map, length, min, Option, option_map, IfSome, string_bytes}
use Rattle.std.specs.List.{All}
use Rattle.cfg_base.specs.SpanModel.{SpanModel}
use Rattle.text_messages.specs.declared.source.Message.{Message}
use Rattle.text_messages.specs.declared.source.Severity.{Severity}
use Rattle.text_messages.specs.declared.source.Severity.TheVariants.{Warning}

-- a text, and messages about it
pub record MessagesValue : Type 0 where
  pub text : List ℕ
  pub list : List Message

-- a span begins no later than it ends, and ends no later than the text
abbrev pub IsPartOf : List ℕ → SpanModel → Type 0
IsPartOf text s = (s.start ≤ s.end) × (s.end ≤ length text)

-- the place of a message, if it has one, is a part of the text
abbrev pub LiesWithin : List ℕ → Message → Type 0
LiesWithin text m = IfSome m.span (IsPartOf text)

-- a span within a text: an offset past the end counts as the end
abbrev pub part_within : List ℕ → SpanModel → SpanModel
part_within text s = record { start = min s.start (length text); end = min s.end (length text) }

-- the message with its place within a text
abbrev pub placed_in : List ℕ → Message → Message
placed_in text m = record m { span = option_map (part_within text) m.span }

-- what a message says, without help or example
pub record Said : Type 0 where
  pub severity : Severity
  pub span : Option SpanModel
  pub words : List ℕ

abbrev pub said : Message → Said
said m = record { severity = m.severity; span = m.span; words = string_bytes m.words }

-- that of a message about a text
abbrev pub said_in : List ℕ → Severity → Option SpanModel → List ℕ → Said
said_in text severity span words = record { severity = severity; span = option_map (part_within text) span; words = words }

-- what was there stays, and behind it come messages that say this
pub record AddsSaid (these : List Said) (old new : MessagesValue) : Type 0 where
  pub added : List Message
  pub text : new.text ≡ old.text
  pub are : new.list ≡ old.list ++ added
  pub say : map said added ≡ these

-- messages of which P holds are added, or one
abbrev pub AddsSome : (List Said → Type 0) → MessagesValue → MessagesValue → Type 0
AddsSome P old new = (these : List Said) × P these × AddsSaid these old new

abbrev pub AddsOne : (Said → Type 0) → MessagesValue → MessagesValue → Type 0
AddsOne P old new = (m : Said) × P m × AddsSaid (m ∷ []) old new

abbrev pub AreWarnings : List Said → Type 0
AreWarnings these = All (λ m. m.severity ≡ Warning) these

abbrev pub AddsWarnings : MessagesValue → MessagesValue → Type 0
AddsWarnings old new = AddsSome AreWarnings old new

-- For each element of a list of which P holds, in order, there is one message, and F holds of the two
pub data OneForEach {A : Type 0} (P : A → Type 0) (F : A → Said → Type 0) : List A → List Said → Type 0 where
  none : OneForEach P F [] []
  one_more : {xs : List A} {ms : List Said} {x : A} {m : Said} → OneForEach P F xs ms → P x → F x m → OneForEach P F (xs ++ x ∷ []) (ms ++ m ∷ [])
  passes : {xs : List A} {ms : List Said} {x : A} → OneForEach P F xs ms → (P x → ⊥) → OneForEach P F (xs ++ x ∷ []) ms
