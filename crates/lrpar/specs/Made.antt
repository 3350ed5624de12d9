-- Lexemes that are made up: by repairs, and past the last lexeme.
use Rattle.std.specs.Prelude.{ℕ, List, [], ◌∷◌}
use Rattle.cfg_theory.specs.Grammar.{Grammar, end_token}
use Rattle.parse_trees.specs.Lex.{Lex}

-- where a lexeme begins that is made up before these: at the next one's start, or at the end of the whole list
abbrev pub next_start : {L : Type 0} → (L → Lex) → ℕ → List L → ℕ
next_start lex end [] = end
next_start lex end (x ∷ xs) = (lex x).places.start

-- the end of the last of these, or what is given where there is none
abbrev pub end_from : {L : Type 0} → (L → Lex) → ℕ → List L → ℕ
end_from lex end [] = end
end_from lex end (x ∷ xs) = end_from lex (lex x).places.end xs

-- the end of a whole list, 0 of an empty one
abbrev pub end_of : {L : Type 0} → (L → Lex) → List L → ℕ
end_of lex xs = end_from lex 0 xs

-- the lexeme of a token that is made up before these, where `faulty` makes one of a token, a start and a length
abbrev pub made_by : {L : Type 0} → (ℕ → ℕ → ℕ → L) → (L → Lex) → ℕ → ℕ → List L → L
made_by faulty lex end t xs = faulty t (next_start lex end xs) 0

-- the next lexeme, or the end token's
abbrev pub next_lexeme : {L : Type 0} → Grammar → (ℕ → List L → L) → List L → L
next_lexeme G make [] = make (end_token G) []
next_lexeme G make (x ∷ xs) = x
