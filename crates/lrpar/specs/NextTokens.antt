-- The tokens that may come after some lexemes.
use Rattle.std.specs.Prelude.{◌≡◌, ◌<◌, ◌≤◌, ◌↔◌, ℕ, Bool, true, List, length, slice_get, Some}
use Rattle.cfg_theory.specs.Grammar.{Grammar, end_token}
use Rattle.lr_theory.specs.Automaton.{Automaton}
use Rattle.lr_theory.specs.Machine.{Config, going, failed, run, start_config}
use Rattle.lr_theory.specs.NextTokens.{Shifts, Ends, IsFresh}

-- the run on the lexemes comes to c with these left, right after it shifted one or at the start
pub record Reaches {L : Type 0} (G : Grammar) (a : Automaton) (tok : L → ℕ) (lexemes rest : List L) (c : Config L) : Type 0 where
  pub steps : ℕ
  pub goes : run G a tok steps (start_config a lexemes) ≡ going c
  pub rest_is : c.rest ≡ rest
  pub fresh : IsFresh a c

-- the lexemes have an error themselves: one is of no token of the grammar or of the end token, or the run fails before one
pub data HasError {L : Type 0} (G : Grammar) (a : Automaton) (tok : L → ℕ) (lexemes : List L) : Type 0 where
  outside : (k : ℕ) (y : L) → slice_get lexemes k ≡ Some y → end_token G ≤ tok y → HasError G a tok lexemes
  fails : (n : ℕ) (c : Config L) → run G a tok n (start_config a lexemes) ≡ failed c → 0 < length c.rest → HasError G a tok lexemes

-- the bit of a number is set
abbrev pub IsSet : List Bool → ℕ → Type 0
IsSet bits t = slice_get bits t ≡ Some true

-- a bit for each token: it is set where a lexeme of the token is shifted from the stack of c, and that of the end token where the run accepts there
pub record AreNext {L : Type 0} (G : Grammar) (a : Automaton) (tok : L → ℕ) (c : Config L) (bits : List Bool) : Type 0 where
  pub count : length bits ≡ G.tokens
  pub shifts : (y : L) → tok y < end_token G → IsSet bits (tok y) ↔ Shifts G a tok c y
  pub ends : IsSet bits (end_token G) ↔ Ends G a tok c
