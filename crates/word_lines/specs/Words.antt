-- The words of a line, and the tokens that they name. The lines of a text are std's `lines`.
use Rattle.std.specs.Prelude.{ℕ, ◌+◌, ◌==◌, Bool, true, false, List, [], ◌∷◌, length, filter, position, Option, None, Some}
use Rattle.std.specs.List.{slice_split}
use Rattle.std.specs.Str.{bytes_eq}
use Rattle.cfg_numbered.specs.Value.{GrammarValue}

-- the place of a word's first byte in its line, and its bytes
pub record Word : Type 0 where
  pub start : ℕ
  pub text : List ℕ

-- the parts of a line from the place on: each stands one byte, the space, behind the one before
abbrev pub placed : ℕ → List (List ℕ) → List Word
placed at [] = []
placed at (part ∷ parts) = record { start = at; text = part } ∷ placed (at + length part + 1) parts

abbrev pub has_bytes : List ℕ → Bool
has_bytes [] = false
has_bytes (b ∷ bs) = true

-- the words among parts that stand from the place on
abbrev pub words_in : ℕ → List (List ℕ) → List Word
words_in at parts = filter (λ w. has_bytes w.text) (placed at parts)

-- the nonempty parts between spaces
abbrev pub words : List ℕ → List Word
words line = words_in 0 (slice_split (λ b. b == 32) line)

abbrev pub is_called : List ℕ → Option (List ℕ) → Bool
is_called name None = false
is_called name (Some n) = bytes_eq n name

-- the token with this name
abbrev pub token_named : GrammarValue → List ℕ → Option ℕ
token_named g name = position (λ k. is_called name k.name) g.tokens
