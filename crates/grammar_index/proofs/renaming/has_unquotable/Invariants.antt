use Rattle.std.proofs.Common.{◌≡◌, drop}
use Rattle.std.specs.List.{list_any}
use Rattle.grammar_index.specs.Renames.{is_unquotable}
use Rattle.grammar_index.proofs.renaming.has_unquotable.Given as goal

abbrev pub invariant-bytes : goal.invariant-bytes
invariant-bytes l = list_any is_unquotable l.bytes ≡ list_any is_unquotable (drop l.byte-index l.bytes)
