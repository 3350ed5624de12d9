use Rattle.std.proofs.Common.{◌∷◌, take, reverse, ap, ◌∙◌}
use Rattle.lrpar.specs.Reducing.{states_of}
use Rattle.lrpar.proofs.Overlays.{put_on}
use Rattle.lrpar.proofs.overlay.replace.Goals as goal

pub returns-clause-stack : goal.returns-clause-stack
returns-clause-stack g c =
    let number = g.S.IndexStorage.number in
    put_on number c.cut.new.overlay.over.items c.push.new.self.items c.args.target (reverse (take c.cut.new.overlay.kept (states_of number c.args.base.now))) c.in_ok-push.ensures.items ∙ ap (λ l. number c.args.target.0 ∷ l) c.cut.ensures.stack
