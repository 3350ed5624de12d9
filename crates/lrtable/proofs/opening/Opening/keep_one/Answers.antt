use Rattle.lrtable.specs.Fronts.{front_of}
use Rattle.lrtable.proofs.OwnFronts.{own_joined}
use Rattle.lrtable.proofs.opening.Opening.keep_one.Goals as goal

pub returns : goal.returns
returns c =
    let j = c.join.ensures in
    own_joined (front_of c.args.opener.now) c.args.rule c.args.self.now c.join.new.self c.join.result c.if-opener-rule.false c.requires.within c.requires.first j.width j.tokens j.rows j.opened j.steps
