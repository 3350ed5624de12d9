-- What reading repairs answers.
use Rattle.std.specs.Prelude.{◌≡◌, ℕ, Bool, true, false, List, [], ◌∷◌, ◌++◌, filter, option_map, Option, None, Some}
use Rattle.std.specs.Str.{bytes_eq}
use Rattle.lr_theory.specs.Repair.{Edit, insert}
use Rattle.cfg_numbered.specs.Value.{GrammarValue}
use Rattle.word_lines.specs.Words.{has_bytes, token_named}
use Rattle.word_lines.specs.Repairs.{insert_word, edit_alone, edits_said, repair_line, IsFirstBadLine}
use Rattle.parse_trees.specs.Edits.{edit_of}
use Rattle.word_lines.specs.declared.repairs.WordRead.{WordRead}
use Rattle.word_lines.specs.declared.repairs.WordRead.TheVariants as reads
use Rattle.word_lines.specs.declared.repairs.RepairsError.{RepairsError}
use Rattle.word_lines.specs.declared.repairs.RepairsError.TheVariants.{NotARepair, Memory}

abbrev pub IsRepairsError : GrammarValue → List (List ℕ) → RepairsError → Type 0
IsRepairsError g lines (NotARepair n) = IsFirstBadLine g lines n
IsRepairsError g lines (Memory e) = Unit {0}

-- the edits of the line were put behind the others, or it has none
abbrev pub TakesLine : GrammarValue → List ℕ → List (List Edit) → List (List Edit) → Bool → Type 0
TakesLine g line before after true = (es : List Edit) × (repair_line g line ≡ Some es) × (after ≡ before ++ es ∷ [])
TakesLine g line before after false = (repair_line g line ≡ None) × (after ≡ before)

-- edits before others, where these are there
abbrev pub edits_before : List Edit → Option (List Edit) → Option (List Edit)
edits_before es None = None
edits_before es (Some more) = Some (es ++ more)

-- an `insert` whose name comes next
abbrev pub pending : Bool → List (List ℕ)
pending true = insert_word ∷ []
pending false = []

-- what is said by these edits, an `insert` that waits for its name, and these words
abbrev pub said_by : GrammarValue → List Edit → Bool → List (List ℕ) → Option (List Edit)
said_by g es inserting words = edits_before es (edits_said g (pending inserting ++ words))

-- a part was taken in whatever follows, or there is no repair with it
abbrev pub TakesPart : GrammarValue → List ℕ → List Edit → Bool → List Edit → Bool → Bool → Type 0
TakesPart g part es inserting es' inserting' true = (more : List (List ℕ)) → said_by g es inserting (filter has_bytes (part ∷ []) ++ more) ≡ said_by g es' inserting' more
TakesPart g part es inserting es' inserting' false = (more : List (List ℕ)) → said_by g es inserting (filter has_bytes (part ∷ []) ++ more) ≡ None

-- what a word says, alone or behind `insert`
abbrev pub edit_at : GrammarValue → Bool → List ℕ → Option Edit
edit_at g true word = option_map insert (token_named g word)
edit_at g false word = edit_alone word

abbrev pub ReadsWord : {S : Type 0} → (S → ℕ) → GrammarValue → Bool → List ℕ → WordRead S → Type 0
ReadsWord number g inserting word reads.Insert = (inserting ≡ false) × (bytes_eq word insert_word ≡ true)
ReadsWord number g inserting word (reads.Step step) = (inserting ≡ false → bytes_eq word insert_word ≡ false) × (edit_at g inserting word ≡ Some (edit_of number step))
ReadsWord number g inserting word reads.Other = (inserting ≡ false → bytes_eq word insert_word ≡ false) × (edit_at g inserting word ≡ None)
