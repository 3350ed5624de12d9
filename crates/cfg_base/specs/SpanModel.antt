-- A span as its two offsets.
use Rattle.std.specs.Prelude.{ℕ}

-- two byte offsets of a text: that of the first byte, and that behind the last
pub record SpanModel : Type 0 where
  pub start : ℕ
  pub end : ℕ
