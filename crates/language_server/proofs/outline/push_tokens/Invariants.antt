use Rattle.std.proofs.Common.{◌≤◌, length}
use Rattle.language_server.proofs.outline.push_tokens.Given as goal

abbrev pub invariant-names : goal.invariant-names
invariant-names l = length l.list.items ≤ 10000
