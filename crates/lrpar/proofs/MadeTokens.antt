-- Made-up lexemes have the token that was asked for.
use Rattle.std.proofs.Common.{◌≡◌, ◌≤◌, ℕ, true, ap}
use Rattle.parse_trees.specs.Lex.{Lex, lex_at, token_by}
use Rattle.lrpar.specs.Made.{next_start, made_by}
use Rattle.lrpar.specs.Taking.{MakesTokens}

pub makes_tokens : {L : Type 0} (top : ℕ) (lex : L → Lex) (faulty : ℕ → ℕ → ℕ → L) (end : ℕ) → ((token start len : ℕ) → token ≤ top → lex (faulty token start len) ≡ lex_at token start len true) → MakesTokens top (token_by lex) (made_by faulty lex end)
makes_tokens top lex faulty end is = λ t xs le. ap (λ l. l.token) (is t (next_start lex end xs) 0 le)
