-- Rules that derive some text.
use Rattle.std.specs.Prelude.{ℕ, ◌<◌, Bool, true, false}
use Rattle.cfg_theory.specs.Derivation.{IsProductive}
use Rattle.cfg_theory.specs.Grammar.{Grammar}

-- each rule derives some token list
abbrev pub EachProductive : Grammar → Type 0
EachProductive G = (A : ℕ) → A < G.rules → IsProductive G A
