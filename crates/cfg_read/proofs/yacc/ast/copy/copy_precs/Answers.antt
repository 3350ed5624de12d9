use Rattle.cfg_read.specs.AstModels.{named_precedence}
use Rattle.cfg_read.proofs.Clones.{clones_map}
use Rattle.cfg_read.proofs.yacc.ast.copy.copy_precs.Goals as goal

pub returns : goal.returns
returns c = clones_map _ named_precedence (λ x y h. λ i. record { token = record { text = h.0 i; span = h.1.1 i }; level = (h.1.0 i).level; kind = (h.1.0 i).kind }) c.args.precs.now.entries c.in_ok-copy.copy.entries c.in_ok-copy.ensures.cases
