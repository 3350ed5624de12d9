use Rattle.std.proofs.Common.{◌∙◌, ap}
use Rattle.std.specs.Prelude.{option_map}
use Rattle.cfg_read.proofs.Headings.{index_of_name, heading_found}
use Rattle.cfg_read.proofs.yacc.validity_info.heading_at.Goals as goal

pub returns-in-Some : goal.returns-in-Some
returns-in-Some c = ap (option_map index_of_name) c.in-Some.ensures.value ∙ heading_found c.args.rules.now.entries c.args.name.now

pub returns-in-None : goal.returns-in-None
returns-in-None c = ap (option_map index_of_name) c.in-None.ensures.value ∙ heading_found c.args.rules.now.entries c.args.name.now
