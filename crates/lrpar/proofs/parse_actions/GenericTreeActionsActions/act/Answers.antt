use Rattle.std.proofs.Common.{refl}
use Rattle.lrpar.proofs.parse_actions.GenericTreeActionsActions.act.Goals as goal

pub returns : goal.returns
returns g c = record { rule = c.args.ridx; below = c.in_ok-nodes.nodes; rule_is = refl; below_are = c.in_ok-nodes.ensures; is = refl }
