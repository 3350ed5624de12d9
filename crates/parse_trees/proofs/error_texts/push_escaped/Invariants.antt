use Rattle.std.proofs.Common.{◌≡◌, ◌++◌, length}
use denote.Text.{Utf8}
use denote.Shadow.{shadow}
use Rattle.std.specs.String.{string_bytes}
use Rattle.parse_trees.specs.ErrorTexts.{escaped}
use Rattle.parse_trees.proofs.error_texts.push_escaped.Given as goal

abbrev pub invariant-lines : goal.invariant-lines
invariant-lines l = shadow (Utf8 l.rest) × (string_bytes l.text ++ escaped l.rest ≡ string_bytes l.initial.text ++ escaped l.part)

abbrev pub decreases-lines : goal.decreases-lines
decreases-lines l = length l.rest
