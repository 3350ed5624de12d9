use Rattle.std.proofs.Common.{subst}
use Rattle.cfg_sets.specs.Firsts.{AreFirsts}
use Rattle.cfg_sets.proofs.FirstSteps.{exact_firsts}
use Rattle.cfg_sets.proofs.FirstFills.{closed_all}
use Rattle.cfg_sets.proofs.firsts.fill_over.Goals as goal

pub returns-in-Ok-clause-firsts : goal.returns-in-Ok-clause-firsts
returns-in-Ok-clause-firsts g c =
    let G = c.in_ok-filling.filling.grm.now.grammar in
    let s = c.fill_from-filled.new.self.firsts in
    let sound = c.in-Ok.ensures.sound in
    subst (λ v. AreFirsts v.grammar s) c.in_ok-filling.ensures.grammar
    (exact_firsts G s c.first_tables_are_exact.ensures sound.sizes sound.sound (closed_all G s c.in-Ok.ensures.closed))
