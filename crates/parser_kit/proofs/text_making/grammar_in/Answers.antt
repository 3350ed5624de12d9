use Rattle.std.proofs.Common.{◌∙◌}
use Rattle.parser_kit.proofs.Kits.{grammar_ok, grammar_invalid, grammar_too_many}
use Rattle.parser_kit.proofs.text_making.grammar_in.Goals as goal

pub returns-in-Ok-clause-fits : goal.returns-in-Ok-clause-fits
returns-in-Ok-clause-fits g c = (grammar_ok g.S.IndexStorage.MAX c.args.kept.now c.in-Ok.grm c.in-Ok.ensures).0

pub returns-in-Ok-clause-made : goal.returns-in-Ok-clause-made
returns-in-Ok-clause-made g c = c.into_numbered.ensures ∙ (grammar_ok g.S.IndexStorage.MAX c.args.kept.now c.in-Ok.grm c.in-Ok.ensures).1

pub returns-in-Err-Invalid-clause-refused : goal.returns-in-Err-Invalid-clause-refused
returns-in-Err-Invalid-clause-refused g c = λ cap. grammar_invalid g.S.IndexStorage.MAX c.args.kept.now c.in-Err-Invalid.errors (rw c.in-Err-Invalid.field-0-is at c.in-Err-Invalid.ensures)

pub returns-in-Err-Invalid-clause-crowded : goal.returns-in-Err-Invalid-clause-crowded
returns-in-Err-Invalid-clause-crowded g c = grammar_invalid g.S.IndexStorage.MAX c.args.kept.now c.in-Err-Invalid.errors (rw c.in-Err-Invalid.field-0-is at c.in-Err-Invalid.ensures)

pub returns-in-Err-TooMany-clause-refused : goal.returns-in-Err-TooMany-clause-refused
returns-in-Err-TooMany-clause-refused g c = λ cap. grammar_too_many g.S.IndexStorage.MAX c.args.kept.now c.in-Err-TooMany.count (rw c.in-Err-TooMany.field-0-is at c.in-Err-TooMany.ensures)

pub returns-in-Err-TooMany-clause-crowded : goal.returns-in-Err-TooMany-clause-crowded
returns-in-Err-TooMany-clause-crowded g c = grammar_too_many g.S.IndexStorage.MAX c.args.kept.now c.in-Err-TooMany.count (rw c.in-Err-TooMany.field-0-is at c.in-Err-TooMany.ensures)
