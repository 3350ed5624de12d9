use Rattle.lrtable.proofs.Clearing.{walk_has}
use Rattle.lrtable.proofs.opening.Opening.open_rules.Goals as goal

pub returns : goal.returns
returns c = λ A. walk_has c.args.self.now.opened c.iter.result A cc
