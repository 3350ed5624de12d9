use Rattle.std.proofs.Common.{refl}
use Rattle.grammar_report.specs.Messages.{of_untold}
use Rattle.grammar_report.proofs.large.push_untabled.Goals as goal

pub returns-in-None : goal.returns-in-None
returns-in-None c =
    let (fs, fails) = rw c.text.ensures at (c.in_ok-told.ensures c.in-None.is) in
    of_untold fs fails refl refl
