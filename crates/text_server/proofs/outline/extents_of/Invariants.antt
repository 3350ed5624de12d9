-- There is a text for each node so far, and then for each.
use Rattle.std.proofs.Common.{◌≡◌, ◌≤◌, length}
use Rattle.text_server.proofs.outline.extents_of.Given as goal

abbrev pub invariant-nodes : goal.invariant-nodes
invariant-nodes l = length l.extents.items ≡ l.index

abbrev pub invariant-backwards : goal.invariant-backwards
invariant-backwards l = (length l.extents.items ≡ length l.nodes) × (l.left ≤ length l.nodes)

abbrev pub decreases-backwards : goal.decreases-backwards
decreases-backwards l = l.left
