use Rattle.std.proofs.Common.{◌≡◌, drop}
use Rattle.std.specs.List.{list_any}
use Rattle.grammar_index.specs.Renames.{is_no_name_byte}
use Rattle.grammar_index.proofs.renaming.has_no_name_byte.Given as goal

abbrev pub invariant-bytes : goal.invariant-bytes
invariant-bytes l = list_any is_no_name_byte l.bytes ≡ list_any is_no_name_byte (drop l.byte-index l.bytes)
