use Rattle.examples.proofs.Acted.{handed_value}
use Rattle.examples.proofs.calc.eval.eval.Goals as goal

pub returns : goal.returns
returns c = λ closed complete words t are derives.
    let handed = rw c.new-parser.ensures at c.in_ok-value.ensures.parsed in
    handed_value _ _ _ _ _ _ _ _ _ closed complete words t are derives _ _ _ _ handed
