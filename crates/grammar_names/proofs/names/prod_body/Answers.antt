use Rattle.grammar_names.proofs.Bodies.{no_body}
use Rattle.grammar_names.proofs.names.prod_body.Goals as goal

pub returns-then-not-has_prod : goal.returns-then-not-has_prod
returns-then-not-has_prod c = no_body c.args.grm.now.grammar c.args.pidx.0 c.has_prod.result c.has_prod.ensures c.if-not-has_prod.true
