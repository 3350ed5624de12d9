use Rattle.std.proofs.Common.{sym, ◌∙◌}
use Rattle.cfg_read.proofs.FreshLemmas.{last_is_mark}
use Rattle.cfg_read.proofs.yacc.ast.warnings.is_fresh_name.Goals as goal

pub returns : goal.returns
returns c = c.ends_in_mark.ensures ∙ sym (last_is_mark c.args.name.now)
