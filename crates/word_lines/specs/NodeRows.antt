-- Names as rows, from which the lines of nodes are taken.
use Rattle.std.specs.Prelude.{◌≡◌, ℕ, List, [], ◌∷◌, ◌++◌, replicate, slice_get, slice_range, Some, Result, Ok}
use Rattle.cfg_numbered.specs.Value.{GrammarValue}
use Rattle.parse_trees.specs.Shapes.{rule_text, token_text}
use Rattle.word_lines.specs.declared.lexeme.WordLexeme.{WordLexeme}
use Rattle.word_lines.specs.declared.lexeme.WordLexError.{WordLexError}

-- spaces, a name, and the byte behind it
abbrev pub behind_spaces : List ℕ → ℕ → List ℕ
behind_spaces name last = (replicate 64 32 ++ name) ++ last ∷ []

abbrev pub IsRuleRow : GrammarValue → ℕ → List ℕ → Type 0
IsRuleRow g r row = row ≡ behind_spaces (rule_text g r) 10

-- a token's name, a space, and the name again
abbrev pub IsTokenRow : GrammarValue → ℕ → List ℕ → Type 0
IsTokenRow g t row = row ≡ behind_spaces (token_text g t ++ 32 ∷ token_text g t) 10

module _ {S : Type 0} (number : S → ℕ) (g : GrammarValue) (line : List ℕ) where
  -- the text of a lexeme is the name of its token
  abbrev pub IsNamed : WordLexeme S → Type 0
  IsNamed x = slice_range line x.span.start x.span.end ≡ token_text g (number x.token)

  -- and so is that of each lexeme among these items
  abbrev pub AreNamed : List (Result (WordLexeme S) WordLexError) → Type 0
  AreNamed items = (k : ℕ) (x : WordLexeme S) → slice_get items k ≡ Some (Ok x) → IsNamed x
