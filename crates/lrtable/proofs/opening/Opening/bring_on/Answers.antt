use Rattle.lrtable.specs.Fronts.{front_of}
use Rattle.lrtable.proofs.OpenSteps.{front_step}
use Rattle.lrtable.proofs.opening.Opening.bring_on.Goals as goal

pub returns : goal.returns
returns c =
    let o = c.open.ensures in
    let j = c.join.ensures in
    let p = c.pass.ensures in (
      _,
      front_step (front_of c.args.opener.now) c.args.looks.now.bits c.args.self.now c.open.new.self c.join.new.self c.pass.new.self c.open.result c.join.result c.pass.result
          c.requires.rules c.requires.within c.requires.first c.requires.width
          o.tokens o.rows o.opened o.steps
          j.tokens j.rows j.opened j.width j.steps
          p.tokens p.rows p.opened p.width p.steps,
    )
