-- Numbers of 32 bits, which stand for themselves.
use Rattle.std.specs.Prelude.{ℕ, ◌+◌, true}
use Rattle.lrpar.specs.declared.default_lexeme.DefaultLexeme.{DefaultLexeme}

abbrev pub id : ℕ → ℕ
id n = n

-- the lexeme that a repair makes up
abbrev pub made_up_at : ℕ → ℕ → ℕ → DefaultLexeme ℕ
made_up_at token start len = record { tok_id = token; span = record { start = start; end = start + len }; faulty = true }
