-- Places within a text.
use Rattle.std.specs.Prelude.{ℕ, ◌≤◌, List, length, Option, IfSome}
use Rattle.std.specs.List.{All}
use Rattle.cfg_base.specs.SpanModel.{SpanModel}
use Rattle.grammar_hints.specs.declared.hint.Hint.{Hint}

-- a span, if there is one, ends within the text
abbrev pub IsWithin : List ℕ → Option SpanModel → Type 0
IsWithin text span = IfSome span (λ s. s.end ≤ length text)

-- so does that of each hint
abbrev pub AreWithin : List ℕ → List Hint → Type 0
AreWithin text hints = All (λ h. IsWithin text h.span) hints
