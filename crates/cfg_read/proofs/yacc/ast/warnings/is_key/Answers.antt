use Rattle.std.proofs.Common.{◌∙◌}
use Rattle.cfg_read.proofs.AstLemmas.{found_among}
use Rattle.cfg_read.proofs.yacc.ast.warnings.is_key.Goals as goal

pub returns : goal.returns
returns c = c.contains_key.ensures ∙ found_among c.args.spans.now.entries c.args.name.now
