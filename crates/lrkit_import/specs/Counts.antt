-- What the program says of an import: a line for each kind of change.
use Rattle.std.specs.Prelude.{ℕ, ◌+◌, ◌==◌, List, [], ◌∷◌, ◌++◌, flat_map, if◌then◌else◌}
use Rattle.std.specs.Str.{bytes_eq}
use Rattle.std.specs.Fmt.{decimal}
use lib.Chars.{codes}
use Rattle.yacc_import.specs.declared.notes.Note.{Note}
use Rattle.yacc_import.specs.declared.notes.NoteKind.{NoteKind}
use Rattle.yacc_import.specs.declared.notes.NoteKind.TheVariants.{Prologue, Epilogue, Directive, Moved, Tag, Number, Alias, Mark, Action, Midrule, Midrules, Reference, RuleDirective, Spelling, Word, Unsettled, Unleveled, Declared, Semicolon}

abbrev pub words_of : NoteKind → List ℕ
words_of Prologue = codes "prologues left out"
words_of Epilogue = codes "parts of the epilogue left out"
words_of Directive = codes "words of directives left out"
words_of Moved = codes "words moved"
words_of Tag = codes "tags left out"
words_of Number = codes "token numbers left out"
words_of Alias = codes "aliases left out where they are declared"
words_of Mark = codes "marks and comments left out"
words_of Action = codes "actions left out"
words_of Midrule = codes "actions in the middle made rules"
words_of Midrules = codes "rules of actions added"
words_of Reference = codes "references left out"
words_of RuleDirective = codes "words of directives in rules left out"
words_of Spelling = codes "symbols spelled otherwise"
words_of Word = codes "directives called by another word"
words_of Unsettled = codes "words of precedence levels left out: their conflicts stay"
words_of Unleveled = codes "words of %prec left out: the token has no precedence"
words_of Declared = codes "declarations added"
words_of Semicolon = codes "semicolons added"

-- the kinds that have a line
abbrev pub kinds : List NoteKind
kinds = Prologue ∷ Epilogue ∷ Directive ∷ Moved ∷ Tag ∷ Number ∷ Alias ∷ Mark ∷ Action ∷ Midrule ∷ Reference ∷ RuleDirective ∷ Spelling ∷ Word ∷ Unsettled ∷ Unleveled ∷ Declared ∷ Semicolon ∷ []

-- how many notes have these words
abbrev pub count_of : List ℕ → List Note → ℕ
count_of words [] = 0
count_of words (n ∷ ns) = if bytes_eq (words_of n.kind) words then 1 + count_of words ns else count_of words ns

abbrev pub line_with : ℕ → List ℕ → List ℕ
line_with n words = if n == 0 then [] else decimal n ++ codes " " ++ words ++ codes "\n"

abbrev pub line_of : List Note → NoteKind → List ℕ
line_of notes kind = line_with (count_of (words_of kind) notes) (words_of kind)

abbrev pub counts_text : List Note → List ℕ
counts_text notes = flat_map (line_of notes) kinds
