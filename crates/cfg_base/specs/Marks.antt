-- Offsets of a text with how many characters end up to there.
use Rattle.std.specs.Prelude.{◌≡◌, ℕ, ◌≤◌, List, length}
use Rattle.cfg_base.specs.Newlines.{chars_ended}
use Rattle.cfg_base.specs.declared.text_lines.Mark.{Mark}

-- an offset within the text, and the characters that end there or before
abbrev pub IsMark : List ℕ → Mark → Type 0
IsMark text m = (m.at ≤ length text) × (m.chars ≡ chars_ended text m.at)
