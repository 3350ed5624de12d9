-- What is to be parsed.
use Rattle.std.specs.Prelude.{◌≡◌, ◌≤◌, ℕ, Bool, true, false, length, ⊤}
use Rattle.lrkit_parse.specs.declared.words.Call.{Call}
use Rattle.lrkit_parse.specs.declared.words.Call.TheVariants.{Help, Parse, Version, Wrong}
use Rattle.lrkit_parse.specs.declared.words.Words.{Words}

-- there are a grammar and a file of lines; or a grammar, a lexer and a text
abbrev pub HasPaths : Bool → ℕ → Type 0
HasPaths true count = count ≡ 2
HasPaths false count = 3 ≤ count

abbrev pub IsComplete : Words → Type 0
IsComplete w = HasPaths w.lines (length w.paths.items)

-- the same of what is to be parsed
abbrev pub IsCompleteCall : Call → Type 0
IsCompleteCall (Parse w) = IsComplete w
IsCompleteCall Help = ⊤
IsCompleteCall Version = ⊤
IsCompleteCall Wrong = ⊤

abbrev pub IsNoParse : Call → Type 0
IsNoParse (Parse w) = ⊥
IsNoParse Help = ⊤
IsNoParse Version = ⊤
IsNoParse Wrong = ⊤
