use Rattle.cfg_read.specs.AstModels.{named_epp}
use Rattle.cfg_read.proofs.Clones.{clones_map}
use Rattle.cfg_read.proofs.yacc.ast.copy.copy_epp.Goals as goal

pub returns : goal.returns
returns c = clones_map _ named_epp (λ x y h. λ i. record { token = record { text = h.0 i; span = h.1.0 i }; text = record { text = h.1.1.0 i; span = h.1.1.1 i } }) c.args.epp.now.entries c.in_ok-copy.copy.entries c.in_ok-copy.ensures.cases
