use Rattle.std.proofs.Common.{◌≡◌, ◌+◌, length}
use Rattle.language_server.proofs.outline.push_rules.Given as goal

abbrev pub invariant-headings : goal.invariant-headings
invariant-headings l = length l.list.items ≡ length l.fn.list.items + l.index
