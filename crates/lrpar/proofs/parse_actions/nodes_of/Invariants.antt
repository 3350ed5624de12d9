use Rattle.std.proofs.Common.{◌≡◌, map}
use Rattle.lrpar.specs.Acting.{node_in}
use Rattle.lrpar.proofs.parse_actions.nodes_of.Given as goal

abbrev pub invariant-each : goal.invariant-each
invariant-each g l = l.nodes.items ≡ map node_in l.yielded
