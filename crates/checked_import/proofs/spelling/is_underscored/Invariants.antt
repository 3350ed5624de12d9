-- The pairs so far are the same, and so all are if the others are.
use Rattle.std.proofs.Common.{◌≡◌, drop}
use Rattle.checked_import.specs.Spelling.{all_pairs, is_byte_for}
use Rattle.checked_import.proofs.spelling.is_underscored.Given as goal

abbrev pub invariant-bytes : goal.invariant-bytes
invariant-bytes l = all_pairs is_byte_for (drop l.i l.name) (drop l.i l.text) ≡ all_pairs is_byte_for l.name l.text
