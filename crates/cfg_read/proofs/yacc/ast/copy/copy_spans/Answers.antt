use Rattle.cfg_read.specs.AstModels.{named_span}
use Rattle.cfg_read.proofs.Clones.{clones_map}
use Rattle.cfg_read.proofs.yacc.ast.copy.copy_spans.Goals as goal

pub returns : goal.returns
returns c = clones_map _ named_span (λ x y h. λ i. record { text = h.0 i; span = h.1 i }) c.args.spans.now.entries c.in_ok-copy.copy.entries c.in_ok-copy.ensures.cases
